-- `bundle::appending::check_append` meets its contract. Assumes nothing.
use Rattle.std.proofs.Common.{◌≡◌, true, false, sym, ap, ◌∙◌, take}
use Rattle.bundle.specs.Append.{is_value, whole_file}
use Rattle.bundle.proofs.Appends.{walked, refuses_long, refuses_broken, refuses_unfit, refuses_full, accepts}
use Rattle.bundle.proofs.appending.check_append.Goals as goal

pub returns-then-buf-file_len : goal.returns-then-buf-file_len
returns-then-buf-file_len c = refuses_long c.args.buf.now c.args.file_len c.args.image.now c.if-buf-file_len.true

pub returns-then-is_err : goal.returns-then-is_err
returns-then-is_err c =
    let a = c.args in
    let whole : whole_file (take a.file_len a.buf.now) ≡ false =
    ap is_value (sym c.count.ensures) ∙ walked c.count.result _ (sym c.is_err.ensures.value ∙ c.if-is_err.true) in
    refuses_broken a.buf.now a.file_len a.image.now c.if-buf-file_len.false whole

pub returns-then-unfit : goal.returns-then-unfit
returns-then-unfit c =
    let a = c.args in
    let whole : whole_file (take a.file_len a.buf.now) ≡ true =
    ap is_value (sym c.count.ensures) ∙ walked c.count.result _ (sym c.is_err.ensures.value ∙ c.if-is_err.false) in
    refuses_unfit a.buf.now a.file_len a.image.now c.if-buf-file_len.false whole (sym c.unfit.ensures ∙ c.if-unfit.true)

pub returns-then-buf-file_len-2 : goal.returns-then-buf-file_len-2
returns-then-buf-file_len-2 c =
    let a = c.args in
    let whole : whole_file (take a.file_len a.buf.now) ≡ true =
    ap is_value (sym c.count.ensures) ∙ walked c.count.result _ (sym c.is_err.ensures.value ∙ c.if-is_err.false) in
    refuses_full a.buf.now a.file_len a.image.now c.if-buf-file_len.false whole (sym c.unfit.ensures ∙ c.if-unfit.false)
    c.if-buf-file_len-2.true

pub returns : goal.returns
returns c =
    let a = c.args in
    let whole : whole_file (take a.file_len a.buf.now) ≡ true =
    ap is_value (sym c.count.ensures) ∙ walked c.count.result _ (sym c.is_err.ensures.value ∙ c.if-is_err.false) in
    accepts a.buf.now a.file_len a.image.now c.if-buf-file_len.false whole (sym c.unfit.ensures ∙ c.if-unfit.false)
    c.if-buf-file_len-2.false
