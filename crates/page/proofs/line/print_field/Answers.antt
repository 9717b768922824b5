-- `page::line::print_field` meets its contract. Assumes nothing.
use Rattle.std.proofs.Common.{List, ℕ, ap, ◌∙◌}
use Rattle.std.proofs.Math.Option.{Option}
use Rattle.std.proofs.lemmas.List.Edits.{sets}
use Rattle.page.specs.Page.{name_field}
use Rattle.page.proofs.Fields.{field_unnamed}
use Rattle.page.proofs.line.print_field.Goals as goal

pub returns-in-Some : goal.returns-in-Some
returns-in-Some c =
    c.print_name.ensures ∙ ap (λ (o : Option (List ℕ)). sets c.args.out.now c.args.at (name_field o)) c.in-Some.ensures

pub returns-in-None : goal.returns-in-None
returns-in-None c = field_unnamed c.args.out.now c.repeat.new.out c.args.at _ c.in-None.ensures c.repeat.ensures
