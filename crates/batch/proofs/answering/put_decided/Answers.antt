-- `batch::answering::put_decided` meets its contract. Assumes nothing.
use native.Mathlib.Omega.{arith}
use mathlib.Core.Path.{◌≡◌, sym, ap, ◌∙◌}
use Rattle.reader.specs.Lookup.{Lookup, Probe, probe_entry, decide, ends, hit, lookup_by}
use Rattle.reader.specs.Steps.Resume.{search_from}
use Rattle.reader.specs.Cases.{probe_of}
use Rattle.batch.specs.Round.{answer_words}
use Rattle.batch.specs.Steps.Answers.{put_words}
use Rattle.batch.proofs.Lookups.{empty_decides, entry_decides, rest_decides}
use Rattle.batch.proofs.answering.put_decided.Goals.{After-probe_entry}
use Rattle.batch.proofs.answering.put_decided.Goals as goal

-- what the entry says decides
by_entry : (c : After-probe_entry) (s : Probe) → s ≡ probe_entry c.args.image.now c.args.name.now c.args.offset
    → let a = c.args in decide s a.c (search_from a.image.now a.name.now a.h a.c) ≡ lookup_by a.image.now a.name.now a.h
by_entry c = entry_decides c.requires.decided c.args.name.now c.requires.short (omega (arith, c.if-offset-eq0.false))

pub returns-then-offset-eq0 : goal.returns-then-offset-eq0
returns-then-offset-eq0 c =
    let a = c.args in
    c.put_words.ensures
    ∙ ap (λ (x : Lookup). put_words a.answers.now a.i (answer_words x))
    (empty_decides c.requires.decided a.name.now c.requires.short c.if-offset-eq0.true)

pub returns-in-Pass : goal.returns-in-Pass
returns-in-Pass c =
    let a = c.args in
    c.put_answer.ensures
    ∙ ap (λ (x : Lookup). put_words a.answers.now a.i (answer_words x))
    (c.search_from.ensures
    ∙ rest_decides c.requires.decided a.name.now c.requires.short (omega (arith, c.if-offset-eq0.false))
    (sym (ap probe_of c.in-Pass.is) ∙ c.probe_entry.ensures))

pub returns-in-Ends : goal.returns-in-Ends
returns-in-Ends c =
    let a = c.args in
    c.put_words-in-Ends.ensures
    ∙ ap (λ (x : Lookup). put_words a.answers.now a.i (answer_words x))
    (by_entry (goal.at.returns-in-Ends c).After-probe_entry ends (sym (ap probe_of c.in-Ends.is) ∙ c.probe_entry.ensures))

pub returns-in-Hit : goal.returns-in-Hit
returns-in-Hit c =
    let a = c.args in
    c.put_words-in-Hit.ensures
    ∙ ap (λ (x : Lookup). put_words a.answers.now a.i (answer_words x))
    (by_entry (goal.at.returns-in-Hit c).After-probe_entry (hit (record { id = c.in-Hit.hit.id; offset = c.in-Hit.hit.offset }))
    (sym (ap probe_of c.in-Hit.is) ∙ c.probe_entry.ensures))
