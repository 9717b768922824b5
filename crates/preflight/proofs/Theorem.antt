-- What is proved of preflight (`specs/Theorems/Theorem`). Assumes nothing.
use Prim.Native.Nat.{ℕ, zero, suc, ◌+◌, ◌*◌, ◌-◌, ◌≤◌}
use native.Mathlib.Omega.{arith}
use native.Mathlib.Nat.{suc-mul}
use mathlib.Core.Path.{◌≡◌, refl, sym, ap, ◌∙◌}
use mathlib.Core.Logic.{◌⊎◌, inl, inr}
use mathlib.Core.Bool.{Bool, true, false}
use mathlib.Core.List.{List, [], ◌∷◌}
use mathlib.Core.Option.{Option, none, some}
use lib.Dec.{lit<}
use Rattle.reader.specs.Lookup.{lookup}
use Rattle.reader.specs.Naming.{name_given}
use Rattle.reader.specs.Open.{opening}
use Rattle.lookup_laws.specs.Answer.{found_id}
use Rattle.one_to_one.proofs.Theorem.{one_to_one_lem}
use Rattle.one_to_one.proofs.Answers.{never_refused}
use Rattle.preflight.specs.Exchanges.{some_kept_in}
use Rattle.preflight.specs.Verdicts.{is_whole, of_changes, verdict_first, verdict}
use Rattle.preflight.specs.Theorems.Theorem as theorem
use Rattle.preflight.specs.Theorems.Theorem.{Leaves}
use Rattle.preflight.specs.Theorems.Asked.{In, Whole, SomeAlike, MayLeaveFirst, MayLeave, Exchanged, Cycle, OneIdEach, Fresh}
use Rattle.preflight.specs.Answers.Verdict.{NewRefused, OldRefused, NothingAlike}
use Rattle.preflight.proofs.Questions.{none_some}
use Rattle.preflight.proofs.Alone.{whole_forth, whole_back, first_forth, first_back}
use Rattle.preflight.proofs.Changed.{alike_forth, forth, back}
use Rattle.preflight.proofs.Images.{of_lists}

-- ---- what is found
module _ (old new sheet round accepted : List ℕ) where
  swap_found : (i j : ℕ) → In i round → Exchanged old new i j → ¬ Leaves old new sheet round accepted
  swap_found i j m x h =
      let l = forth old new sheet round accepted h in
      let w = l.alone.round_named.named i m in
      let has : name_given old j ≡ some w.0 = sym x.i_has ∙ w.1 in
      x.different (sym x.j_has ∙ l.not_taken i j w.0 m has w.1 ∙ sym has)

  -- from a sighted id on every id of the cycle has its name now, so every one had it then
  module _ (c : ℕ → ℕ) (n : ℕ) (cycle : Cycle old new c n) (s : ℕ) (sighted : In (c s) round) (h : Leaves old new sheet round accepted) where
    abbrev may : MayLeave old new sheet round accepted
    may = forth old new sheet round accepted h

    abbrev name : List ℕ
    name = (may.alone.round_named.named (c s) sighted).0

    has_it : name_given new (c s) ≡ some name
    has_it = (may.alone.round_named.named (c s) sighted).1

    after : (m : ℕ) → name_given new (c (m + s)) ≡ some name
    after zero =
        let e : zero + s ≡ s = omega arith in
        ap (λ (k : ℕ). name_given new (c k)) e ∙ has_it
    after (suc m) =
        let e : suc m + s ≡ m + s + 1 = omega arith in
        let had : name_given old (c (suc m + s)) ≡ some name = ap (λ (k : ℕ). name_given old (c k)) e ∙ sym (cycle.passed_on (m + s)) ∙ after m in
        may.not_taken (c s) (c (suc m + s)) name sighted had has_it

    turns : (k m : ℕ) → c (m + k * n) ≡ c m
    turns zero m = let e : m + 0 * n ≡ m = omega arith in ap c e
    turns (suc k) m =
        let f = suc-mul k n in
        let e : m + suc k * n ≡ m + k * n + n = omega (arith, f) in
        ap c e ∙ cycle.comes_round (m + k * n) ∙ turns k m

    at_least : (k : ℕ) → k ≤ k * n
    at_least zero = omega arith
    at_least (suc k) =
        let e = suc-mul k n in
        let ih = at_least k in
        omega (arith, e, ih, cycle.some_ids)

    all_had : (k : ℕ) → name_given old (c k) ≡ some name
    all_had k =
        let b = at_least (suc s) in
        let m = k + suc s * n - suc s in
        let e : k + suc s * n ≡ m + s + 1 = omega (arith, b) in
        ap (name_given old) (sym (turns (suc s) k))
        ∙ ap (λ (x : ℕ). name_given old (c x)) e
        ∙ sym (cycle.passed_on (m + s))
        ∙ after m

-- ---- what leaves
module _ (old new sheet round accepted : List ℕ) where
  gained : Whole old → MayLeaveFirst new sheet round
      → ((id : ℕ) (name : List ℕ) → name_given old id ≡ some name → name_given new id ≡ some name)
      → ((id : ℕ) × (name : List ℕ) × (name_given old id ≡ some name))
      → Leaves old new sheet round accepted
  gained w m g a =
      back old new sheet round accepted
      (record {
        alone = m;
        old_whole = w;
        some_alike = record { id = a.0; name = a.1; then = a.2; since = g a.0 a.1 a.2 };
        not_renamed = λ i name p q e. g i name e;
        not_taken = λ i j name p e d. g j name e;
      })

  -- what is asked of a sighted id: its old name, or one that nobody had
  abbrev InOrder : ℕ → List ℕ → Type 0
  InOrder i name = (name_given old i ≡ some name) ⊎ (((name_given old i ≡ none) ⊎ In i accepted) × Fresh old name)

  renames : Whole old → OneIdEach old → MayLeaveFirst new sheet round → SomeAlike old new
      → ((i : ℕ) (name : List ℕ) → In i round → name_given new i ≡ some name → InOrder i name)
      → Leaves old new sheet round accepted
  renames w one m a g =
      back old new sheet round accepted
      (record { alone = m; old_whole = w; some_alike = a; not_renamed = not_renamed; not_taken = not_taken })
    where
      kept_name : (i : ℕ) (name n : List ℕ) → ¬ In i accepted → name_given old i ≡ some name → name_given new i ≡ some n → InOrder i n
          → name_given new i ≡ some name
      kept_name i x n q e d (inl o) = d ∙ sym o ∙ e
      kept_name i x n q e d (inr (inl o, f)) = none_some x (sym o ∙ e)
      kept_name i x n q e d (inr (inr o, f)) = absurd (q o)

      not_renamed : (i : ℕ) (name : List ℕ) → In i round → ¬ In i accepted → name_given old i ≡ some name → name_given new i ≡ some name
      not_renamed i name p q e =
          let h = m.round_named.named i p in
          kept_name i name h.0 q e h.1 (g i h.0 p h.1)

      nobody_else : (i j : ℕ) (name : List ℕ) → name_given old j ≡ some name → name_given new i ≡ some name → InOrder i name
          → name_given new j ≡ some name
      nobody_else i j x e d (inl o) = ap (name_given new) (sym (one i j x o e)) ∙ d
      nobody_else i j x e d (inr (o, f)) = absurd (f j e)

      not_taken : (i j : ℕ) (name : List ℕ) → In i round → name_given old j ≡ some name → name_given new i ≡ some name
          → name_given new j ≡ some name
      not_taken i j name p e d = nobody_else i j name e d (g i name p d)

-- a round in order has an id, which has a name
someone : (new sheet round : List ℕ) → MayLeaveFirst new sheet round → (id : ℕ) × (name : List ℕ) × (name_given new id ≡ some name)
someone new sheet [] m = absurd (m.round_named.some_id refl)
someone new sheet (x ∷ xs) m = let w = m.round_named.named x (inl refl) in (x, w.0, w.1)

-- ---- refused
pub refuted : {P : Type 0} (t : Bool) → (t ≡ true → P) → ¬ P → t ≡ false
refuted true h n = absurd (n (h refl))
refuted false h n = refl

module _ (old new sheet round accepted : List ℕ) where
  new_refused : ¬ Whole new → verdict old new sheet round accepted ≡ NewRefused
  unfolding verdict verdict_first
  new_refused n = simp (refuted (is_whole new) (whole_forth new) n)

  pub old_refused : MayLeaveFirst new sheet round → ¬ Whole old → verdict old new sheet round accepted ≡ OldRefused
  unfolding verdict of_changes
  old_refused m n = simp (first_back new sheet round m, refuted (is_whole old) (whole_forth old) n)

  nothing_alike : MayLeaveFirst new sheet round → Whole old → ¬ SomeAlike old new → verdict old new sheet round accepted ≡ NothingAlike
  unfolding verdict of_changes
  nothing_alike m w n =
      simp (first_back new sheet round m, whole_back old w, refuted (some_kept_in old new) (alike_forth old new) n)

pub no_bytes : ¬ Whole []
unfolding opening
no_bytes w = never_refused [] 1 (λ i. lit< tt) w.is_canonical refl

one_id : (x : Option ℕ) (i j : ℕ) → x ≡ some i → x ≡ some j → i ≡ j
one_id x i j e f = let s : some i ≡ some j = sym e ∙ f in cc

pub leaves : theorem.Preflight
leaves = record {
  yes_exactly = λ old new sheet round accepted. (forth old new sheet round accepted, back old new sheet round accepted);
  first_exactly = λ new sheet round. (first_forth new sheet round, first_back new sheet round);
  no_false_movement = λ old new sheet round accepted i j name h m e d. (forth old new sheet round accepted h).not_taken i j name m e d;
  no_false_movement_one = λ old new sheet round accepted i j name bytes one h m e d.
      let l = forth old new sheet round accepted h in
      let both_ways = one_to_one_lem.inverse new bytes l.alone.new_whole.two_way one name in
      one_id (found_id (lookup new name)) i j ((both_ways i).1 d) ((both_ways j).1 (l.not_taken i j name m e d));
  one_sighting_one_name = λ old new sheet round accepted i k h m n e.
      (forth old new sheet round accepted h).alone.round_named.one_name i k m n e;
  swap_found = swap_found;
  cycle_found = λ old new sheet round accepted c n s k l cycle sighted unlike h.
      let had = all_had old new sheet round accepted c n cycle s sighted h in
      unlike (had k ∙ sym (had l));
  taken_found = λ old new sheet round accepted i j name m e d n h. n ((forth old new sheet round accepted h).not_taken i j name m e d);
  new_refused = new_refused;
  old_refused = old_refused;
  nothing_alike = nothing_alike;
  no_bytes = no_bytes;
  same_leaves = λ image sheet round accepted m.
      gained image image sheet round accepted m.new_whole m (λ id name e. e) (someone image sheet round m);
  gained_leaves = gained;
  renames_leave = renames;
  of_lists = of_lists;
}
