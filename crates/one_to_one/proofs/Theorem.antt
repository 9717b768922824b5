-- One to one: the theorem. Assumes nothing.
use Prim.Native.Nat.{ℕ, ◌+◌, ◌≤◌}
use native.Mathlib.Omega.{arith}
use mathlib.Core.Path.{◌≡◌, refl, sym, ap, ◌∙◌}
use mathlib.Core.Logic.{◌↔◌}
use mathlib.Core.Bool.{Bool, true, false, cond}
use mathlib.Core.List.{List, [], ◌∷◌}
use mathlib.Core.Option.{Option, none, some}
use lib.Dec.{eqb}
use lib.ListN.{length}
use borrow.Author.Tests.{eqb-true, eqb-false}
use Rattle.jhash.specs.Outcome.{Outcome, value}
use Rattle.image.specs.Image.{Entry, head_size, entry_size, entries_size}
use Rattle.image.specs.declared.Mode.{Mode}
use Rattle.image.specs.declared.Mode.TheVariants.{Twoway}
use Rattle.image.proofs.AllOfList.{All, all_map}
use Rattle.writer.specs.declared.Repeats.{Repeats}
use Rattle.lists.specs.Calls.{Call, WordIds}
use Rattle.lists.specs.Demand3.{accepted_puts, image_of}
use Rattle.canonical.specs.Canonical.{puts_in}
use Rattle.canonical.specs.Steps.Made.{Made}
use Rattle.canonical.proofs.ListImages.{list_made, list_puts, list_mode}
use Rattle.canonical.proofs.ReadBack.{made_puts, made_mode, canonical_only}
use Rattle.one_to_one.specs.OneToOne.{kind_in, Failure, first_failure, first_failure_in, one_to_one}
use Rattle.one_to_one.specs.Theorems.Theorem.{Fails, First, OneId, OneName, OneToOneOfList, OneToOneHolds}
use Rattle.one_to_one.proofs.Answers.{refused, answered, accepted, first_is}
use Rattle.one_to_one.proofs.Failures.{failure, after_passed}
use Rattle.one_to_one.proofs.Puts.{each_in}
use Rattle.one_to_one.proofs.Pairs as pairs

-- ---- the first failure

module _ (img : List ℕ) where
  -- what an entry that fails says
  abbrev Said : Entry → Type 0
  Said e = (k : ℕ) → kind_in img e ≡ k → ¬ (k ≡ 0) → Fails img k e

  first : (o : ℕ) (es : List Entry) (f : Failure) → All Said es → first_failure (kind_in img) o es ≡ some f → First img o es f
  unfolding first_failure entries_size
  first o [] f said h = let z : ◌≡◌ {A = ℕ} 0 1 = cc in absurd (omega arith)
  first o (e ∷ es) f said h = here_or_later (first (o + entry_size e) es f said.1) (eqb (kind_in img e) 0) refl h
    where
      here_or_later : (first_failure (kind_in img) (o + entry_size e) es ≡ some f → First img (o + entry_size e) es f) → (t : Bool)
          → eqb (kind_in img e) 0 ≡ t
          → cond t (first_failure (kind_in img) (o + entry_size e) es) (some (failure (kind_in img e) o)) ≡ some f → First img o (e ∷ es) f
      here_or_later rest true t q =
          let r = rest q in
          record {
            before = e ∷ r.before;
            entry = r.entry;
            after = r.after;
            entries = ap {B = List Entry} (λ (l : List Entry). e ∷ l) r.entries;
            offset_is = omega (arith, r.offset_is);
            paired_before = (pairs.paired img e (eqb-true (kind_in img e) 0 t), r.paired_before);
            fails = r.fails;
          }
      here_or_later rest false t q =
          let k : kind_in img e ≡ f.kind = cc in
          let at : f.offset ≡ o = cc in
          record {
            before = [];
            entry = e;
            after = es;
            entries = refl;
            offset_is = omega arith;
            paired_before = tt;
            fails = said.0 f.kind k (λ z. eqb-false (kind_in img e) 0 t (k ∙ z));
          }

  first_back : (o : ℕ) (es : List Entry) (f : Failure) → First img o es f → first_failure (kind_in img) o es ≡ some f
  first_back o es f r =
      let k = pairs.kind_fails img f.kind r.entry r.fails in
      ap (first_failure (kind_in img) o) r.entries
      ∙ after_passed (kind_in img) o r.before r.entry r.after f.kind (all_map (pairs.paired_zero img) r.before r.paired_before) k.0 k.1
      ∙ (λ i. some (record { kind = f.kind; offset = sym r.offset_is i }))

  all_said : Made img → All Said (puts_in img)
  all_said m = rw (made_puts img m) (all_map (pairs.fails img m) m.puts (each_in m.puts))

-- ---- lists of calls

module _ (mode : Mode) (repeats : Repeats) (buffer : List ℕ) (cs : List Call) (room : head_size ≤ length buffer) (word : WordIds mode cs) where
  abbrev img : List ℕ
  img = image_of mode repeats buffer cs

  of_list : OneToOneOfList mode (accepted_puts mode repeats buffer cs) img
  of_list =
      let m = list_made mode repeats buffer room cs word in
      let puts : m.puts ≡ accepted_puts mode repeats buffer cs = sym (made_puts img m) ∙ list_puts mode repeats buffer room cs word in
      let direction : m.mode ≡ mode = sym (made_mode img m) ∙ list_mode mode repeats buffer room cs word in
      let exactly : (one_to_one img ≡ value none) ↔ (OneId m.puts × (m.mode ≡ Twoway → OneName m.puts)) =
      (pairs.yes_one img m, λ h. pairs.one_yes img m h.0 h.1) in
      record {
        yes_exactly = rw (puts, direction) at exactly;
        by_puts_lem = rw (puts, direction) at (pairs.by_puts_lem img m);
        inverse = λ t. pairs.inverse img m (list_mode mode repeats buffer room cs word ∙ t);
      }

pub one_to_one_lem : OneToOneHolds
unfolding first_failure_in first_failure
one_to_one_lem =
    record {
      refused = refused;
      empty = λ img own none_there. answered img own ∙ ap (λ (es : List Entry). value (first_failure (kind_in img) head_size es)) none_there;
      yes_exactly = λ img own. (pairs.yes_paired img, pairs.paired_yes img own);
      first_exactly = λ img bytes own f. (
        λ h. first img head_size (puts_in img) f (all_said img (canonical_only img bytes own)) (first_is img (some f) h),
        λ r. answered img own ∙ ap {B = Outcome (Option Failure)} value (first_back img head_size (puts_in img) f r),
      );
      inverse = λ img bytes t yes. pairs.inverse img (canonical_only img bytes (accepted img none yes)) t yes;
      of_list = of_list;
    }
