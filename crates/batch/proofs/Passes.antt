-- A pass over the open searches: the lists that it partitions them into. Assumes nothing.
use Prim.Native.Nat.{ℕ, ◌+◌, ◌-◌, ◌≤◌, ◌<◌}
use mir.Val.{bool_byte}
use native.Mathlib.Omega.{arith}
use native.Mathlib.Decide.{ℕ_discrete}
use mathlib.Core.Bool.{Bool, true, false, not}
use mathlib.Core.Path.{◌≡◌, refl, sym, ap, subst, ◌∙◌}
use mathlib.Core.Logic.{◌⊎◌, inl, inr}
use mathlib.Core.List.{List}
use lib.ListN.{length, get_or, set, take, length-take}
use lib.Seq.{get_or-set_other}
use Rattle.batch.specs.Steps.Duplicates.{round_names, Listed, RisingTo}
use Rattle.batch.specs.Steps.Probing.{NextProbed, StillOpen, NowDecided, OpenOrDecided}
use Rattle.batch.specs.Steps.Answers.{HasAnswer, Answered}
use Rattle.batch.specs.declared.names.Round.{Round}
use Rattle.batch.proofs.IndexLists.{listed_old, listed_more, listed_new, listed_has, each_step, rising_step, both_step}
use Rattle.batch.proofs.IndexLists.{taken_all, taken_both, taken_rising, taken_listed}

one_grows : (b : Bool) → bool_byte b + bool_byte (not b) ≡ 1
one_grows true = refl
one_grows false = refl

is_true : (b : Bool) → 0 < bool_byte b → b ≡ true
is_true true h = refl
is_true false h = absurd (omega arith)

is_false : (b : Bool) → 0 < bool_byte (not b) → b ≡ false
is_false true h = absurd (omega arith)
is_false false h = refl

-- the z-th of the searches has read its bucket
module _ {image hashes first live done offsets : List ℕ} {c p d z : ℕ} (old : OpenOrDecided image hashes first live done offsets c p d z)
    (i offset : ℕ) (open' : Bool) (own : i ≡ get_or first z 0) (room : p < length live) where
  abbrev opens : ℕ
  opens = bool_byte open'

  abbrev decides : ℕ
  decides = bool_byte (not open')

  -- it goes into one of the two lists
  one : opens + decides ≡ 1
  one = one_grows open'

  pub unread_step : ((y : ℕ) → z ≤ y → get_or live y 0 ≡ get_or first y 0) → (y : ℕ) → z + 1 ≤ y → get_or (set live p i) y 0 ≡ get_or first y 0
  unread_step unread y h = get_or-set_other live p y i 0 (λ e. omega (arith, old.count)) ∙ unread y (omega arith)

  pub open_or_decided_step : NextProbed image (get_or hashes i 0) c offset open' → {q : ℕ} → RisingTo first q → z < q → d < length done → d < length offsets
      → OpenOrDecided image hashes first (set live p i) (set done d i) (set offsets d offset) c (p + opens) (d + decides) (z + 1)
  open_or_decided_step probed rising inside room' room'' =
      record {
        count = omega (arith, old.count, one);
        each = each;
        is_open = each_step (StillOpen image hashes first (z + 1) c) live p (p + opens) i room (omega (arith, one))
            (λ y h. record { listed = more (old.is_open y h).listed; is_open = (old.is_open y h).is_open })
            (λ h. record { listed = listed; is_open = probed.is_open (is_true open' (omega arith)) });
        decided = both_step (NowDecided image hashes first (z + 1) c) done offsets d (d + decides) i offset room' room'' (omega (arith, one))
            (λ y h. record { listed = more (old.decided y h).listed; decided = (old.decided y h).decided })
            (λ h. record { listed = listed; decided = probed.decided (is_false open' (omega arith)) });
        live_rising = rising_step live p (p + opens) i room (omega (arith, one)) (λ y h. less (old.is_open y h).listed) old.live_rising;
        done_rising = rising_step done d (d + decides) i room' (omega (arith, one)) (λ y h. less (old.decided y h).listed) old.done_rising;
        disjoint = each_step (λ (v : ℕ). (y : ℕ) → y < d + decides → v ≡ get_or (set done d i) y 0 → ⊥) live p (p + opens) i room (omega (arith, one))
            (λ x h. each_step (λ (w : ℕ). get_or live x 0 ≡ w → ⊥) done d (d + decides) i room' (omega (arith, one)) (old.disjoint x h)
            (λ k e. omega (arith, less (old.is_open x h).listed)))
            (λ h. each_step (λ (w : ℕ). i ≡ w → ⊥) done d (d + decides) i room' (omega (arith, one))
            (λ y k e. omega (arith, less (old.decided y k).listed))
            (λ k e. omega (arith, one)));
      }
    where
      listed : Listed first (z + 1) i
      listed = record { place = z; inside = omega arith; is = sym own }

      more : {j : ℕ} → Listed first z j → Listed first (z + 1) j
      more a = listed_more (omega arith) a

      -- those before stand below it
      less : {j : ℕ} → Listed first z j → j < i
      less a = omega (arith, a.is, own, rising a.place z a.inside inside)

      In : ℕ → Type 0
      In j = Listed (set live p i) (p + opens) j ⊎ Listed (set done d i) (d + decides) j

      this : In i
      this =
          elim (ℕ_discrete opens 0) [
            | yes f ↦ inr (listed_new done d (d + decides) i room' (omega (arith, one)))
            | no f ↦ inl (listed_new live p (p + opens) i room (omega arith))
          ]

      stays : (j : ℕ) → Listed live p j ⊎ Listed done d j → In j
      stays j (inl a) = inl (listed_old live p (p + opens) i j (omega arith) a)
      stays j (inr a) = inr (listed_old done d (d + decides) i j (omega arith) a)

      each : (y : ℕ) → y < z + 1 → In (get_or first y 0)
      each y h =
          elim (ℕ_discrete y z) [
            | yes e ↦ subst In (own ∙ ap (λ (m : ℕ). get_or first m 0) (sym e)) this
            | no e ↦ stays (get_or first y 0) (old.each y (omega arith))
          ]

-- after the last
pub open_or_decided_end : {image hashes first live done offsets : List ℕ} {q c p d z : ℕ} → OpenOrDecided image hashes first live done offsets c p d z
    → z ≤ q → q ≤ z → OpenOrDecided image hashes first live done offsets c p (q - p) q
open_or_decided_end {image} {hashes} {first} {live} {done} {offsets} {q} {c} {p} {d} {z} all below above =
    let e : d ≡ q - p = omega (arith, all.count) in
    let f : z ≡ q = omega arith in
    subst (λ (m : ℕ). OpenOrDecided image hashes first live done offsets c p m q) e
    (subst (λ (m : ℕ). OpenOrDecided image hashes first live done offsets c p d m) f all)

-- the lists as far as they are filled
pub open_or_decided_taken : {image hashes first live done offsets : List ℕ} {c p d d' z : ℕ} → OpenOrDecided image hashes first live done offsets c p d z
    → d ≡ d' → p ≤ length live → d' ≤ length done
    → OpenOrDecided image hashes first (take p live) (take d' done) (take d' offsets) c (length (take p live)) (length (take d' done)) z
open_or_decided_taken {image} {hashes} {first} {live} {done} {offsets} {c} {p} {d} {d'} {z} old e room room' =
    record {
      count = omega (arith, old.count, length-take p live, length-take d' done);
      each = λ y h. either y (old.each y h);
      is_open = taken_all (StillOpen image hashes first z c) live p old.is_open;
      decided = taken_both (NowDecided image hashes first z c) done offsets d' (λ y h. old.decided y (omega arith));
      live_rising = taken_rising live p old.live_rising;
      done_rising = taken_rising done d' (subst (RisingTo done) e old.done_rising);
      disjoint = taken_all (λ (v : ℕ). (y : ℕ) → y < length (take d' done) → v ≡ get_or (take d' done) y 0 → ⊥) live p
          (λ x h. taken_all (λ (w : ℕ). get_or live x 0 ≡ w → ⊥) done d' (λ y k. old.disjoint x h y (omega arith)));
    }
  where
    either : (y : ℕ) → Listed live p (get_or first y 0) ⊎ Listed done d (get_or first y 0)
        → Listed (take p live) (length (take p live)) (get_or first y 0) ⊎ Listed (take d' done) (length (take d' done)) (get_or first y 0)
    either y (inl a) = inl (taken_listed live p (get_or first y 0) room a)
    either y (inr a) = inr (taken_listed done d' (get_or first y 0) room' (subst (λ (n : ℕ). Listed done n (get_or first y 0)) e a))

-- ---- from pass to pass: a name has its answer, or its search is open

pub next_has_answer : {round : Round} {first live done offsets answers answers' : List ℕ} {q c p d i : ℕ}
    → OpenOrDecided round.image.now round.hashes.now first live done offsets c p d q → Answered round done answers answers' d
    → HasAnswer round.image.now (round_names round) answers i ⊎ Listed first q i → HasAnswer round.image.now (round_names round) answers' i ⊎ Listed live p i
next_has_answer {i = i} parted found (inl h) = inl (found.stays i h)
next_has_answer {round} {first} {live} {done} {answers' = answers'} {p = p} {d} {i} parted found (inr a) =
    answered_or_live (parted.each a.place a.inside)
  where
    answered_or_live : Listed live p (get_or first a.place 0) ⊎ Listed done d (get_or first a.place 0)
        → HasAnswer round.image.now (round_names round) answers' i ⊎ Listed live p i
    answered_or_live (inl b) = inr (subst (λ (k : ℕ). Listed live p k) a.is b)
    answered_or_live (inr b) =
        let has = HasAnswer round.image.now (round_names round) answers' in inl (subst has a.is (listed_has has found.stored b))

pub last_has_answer : {round : Round} {live answers answers' : List ℕ} {q i : ℕ} → Answered round live answers answers' q
    → HasAnswer round.image.now (round_names round) answers i ⊎ Listed live q i → HasAnswer round.image.now (round_names round) answers' i
last_has_answer {i = i} found (inl h) = found.stays i h
last_has_answer {round} {answers' = answers'} found (inr a) = listed_has (HasAnswer round.image.now (round_names round) answers') found.stored a
