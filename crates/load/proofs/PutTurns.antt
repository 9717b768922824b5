-- A turn of the load's loop: an entry is accepted and the next one follows, or it is refused and the load ends. Assumes nothing.
use Prim.Native.Nat.{ℕ, suc, ◌+◌, ◌-◌, ◌<◌, ◌≤◌}
use native.Mathlib.Omega.{arith}
use mathlib.Core.Path.{◌≡◌, sym, ap, ap₂, ◌∙◌}
use mathlib.Core.Bool.{Bool, true, false}
use mathlib.Core.List.{List}
use borrow.Author.Tests.{eq-eqb, ne_eqb}
use Rattle.writer.specs.State.{State}
use Rattle.image.specs.Image.{Entry}
use Rattle.writer.specs.Put.{put_refusal, after_put, entry_of}
use Rattle.load.specs.States.{next_state, state_after, state_name, load_entry}
use Rattle.load.specs.Load.{put_from}

abbrev turn : ℕ → ℕ → ℕ → State → Bool → State
turn seed m i s t = elim t [ true ↦ put_from seed m (suc i) (after_put s (load_entry seed i)) | false ↦ s ]

module _ (seed m i : ℕ) (s : State) where
  pub put_accepted : put_refusal s (load_entry seed i) ≡ 0 → put_from seed (suc m) i s ≡ put_from seed m (suc i) (after_put s (load_entry seed i))
  unfolding put_from
  put_accepted h = ap (turn seed m i s) (eq-eqb (put_refusal s (load_entry seed i)) 0 h)

  pub put_refused : (put_refusal s (load_entry seed i) ≡ 0 → ⊥) → put_from seed (suc m) i s ≡ s
  unfolding put_from
  put_refused h = ap (turn seed m i s) (ne_eqb (put_refusal s (load_entry seed i)) 0 h)

-- a refused put leaves all as it was
pub refused_leaves : (s : State) (seed i : ℕ) → (put_refusal s (load_entry seed i) ≡ 0 → ⊥) → after_put s (load_entry seed i) ≡ s
unfolding after_put
refused_leaves s seed i h = rw (ne_eqb (put_refusal s (load_entry seed i)) 0 h)

-- ---- a turn of the loop, before entry i, with a state that is the seed's after i steps

-- the entry that the loop puts
pub entry_is : (seed i state next : ℕ) (name : List ℕ) → state ≡ state_after seed i → next ≡ next_state state → name ≡ state_name next
    → entry_of name i ≡ load_entry seed i
unfolding load_entry state_after
entry_is seed i state next name at step is =
    ap (λ (bytes : List ℕ). entry_of bytes i) (is ∙ ap state_name (step ∙ ap (λ (s : ℕ). next_state s) at))

module _ (seed i r : ℕ) (s after : State) (e : Entry) (is : e ≡ load_entry seed i)
    (put : (r ≡ put_refusal s e) × (after ≡ after_put s e)) where
  -- it is accepted, and the next follows
  pub turn_goes_on : i < 4096 → r ≡ 0 → put_from seed (4096 - (i + 1)) (i + 1) after ≡ put_from seed (4096 - i) i s
  turn_goes_on few zero_is =
      let due : put_refusal s (load_entry seed i) ≡ 0 = ap (put_refusal s) (sym is) ∙ sym put.0 ∙ zero_is in
      let left : 4096 - i ≡ suc (4096 - (i + 1)) = omega arith in
      let next : i + 1 ≡ suc i = omega arith in
      ap₂ (λ (k : ℕ) (t : State). put_from seed (4096 - (i + 1)) k t) next (put.1 ∙ ap (after_put s) is)
      ∙ sym (put_accepted seed (4096 - (i + 1)) i s due)
      ∙ ap (λ (m : ℕ). put_from seed m i s) (sym left)

  -- it is refused, and the load ends
  pub turn_ends : i < 4096 → (r ≡ 0 → ⊥) → after ≡ put_from seed (4096 - i) i s
  turn_ends few some =
      let due : put_refusal s (load_entry seed i) ≡ 0 → ⊥ = λ z. some (put.0 ∙ ap (put_refusal s) is ∙ z) in
      let left : 4096 - i ≡ suc (4096 - (i + 1)) = omega arith in
      put.1
      ∙ ap (after_put s) is
      ∙ refused_leaves s seed i due
      ∙ sym (put_refused seed (4096 - (i + 1)) i s due)
      ∙ ap (λ (m : ℕ). put_from seed m i s) (sym left)

-- all 4,096 are accepted
pub all_put : (seed i : ℕ) (s : State) → 4096 ≤ i → put_from seed (4096 - i) i s ≡ s
unfolding put_from
all_put seed i s h = let none : 4096 - i ≡ 0 = omega arith in ap (λ (m : ℕ). put_from seed m i s) none
