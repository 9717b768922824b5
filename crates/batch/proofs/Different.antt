-- The different names of a round: one name more, none twice, the same names, and what their lookups read. Assumes nothing.
use Prim.Native.Nat.{ℕ, zero, suc, ◌+◌, ◌-◌, ◌≤◌, ◌<◌}
use native.Mathlib.Omega.{arith}
use native.Mathlib.Numerals.{add-one}
use mathlib.Core.Path.{◌≡◌, refl, sym, ap, ◌∙◌}
use mathlib.Core.Bool.{Bool, true, false, ◌||◌, or_assoc, or-false, or-true}
use mathlib.Core.List.{List, [], ◌∷◌, ◌++◌, append_assoc, append-nil}
use lib.ListN.{length, take, length-take}
use lib.Seq.{take-suc, get_or-take}
use Rattle.image.specs.Bytes.{same}
use Rattle.image.proofs.Bools.{false_not_true, or_false_first, or_false_second}
use Rattle.image.proofs.Equal.{same_self, same_true, same_false}
use Rattle.reader.specs.Lookup.{lookup}
use Rattle.reader.specs.Cases.{reads}
use Rattle.batch.specs.RoundNames.{among, new_only, different_from, different, nth}
use Rattle.batch.specs.Round.{buckets_read}
use Rattle.batch.specs.Steps.Duplicates.{EqualBefore}
use Rattle.batch.specs.Theorems.Theorem.{Distinct, OnceEach}

-- ---- among

among_append : (y : List ℕ) (xs zs : List (List ℕ)) → among y (xs ++ zs) ≡ (among y xs || among y zs)
unfolding among
among_append y [] zs = refl
among_append y (x ∷ xs) zs = ap (λ (t : Bool). same x y || t) (among_append y xs zs) ∙ sym (or_assoc (same x y) (among y xs) (among y zs))

among_last : (y x : List ℕ) (xs : List (List ℕ)) → among y (xs ++ x ∷ []) ≡ (among y xs || same x y)
unfolding among
among_last y x xs = among_append y xs (x ∷ []) ∙ ap (λ (t : Bool). among y xs || t) (or-false (same x y))

-- a name that is not among some and one more
not_seen : (y x : List ℕ) (xs : List (List ℕ)) → among y (xs ++ x ∷ []) ≡ false → among y xs ≡ false
not_seen y x xs e = or_false_first (among y xs) (same x y) (sym (among_last y x xs) ∙ e)

not_last : (y x : List ℕ) (xs : List (List ℕ)) → among y (xs ++ x ∷ []) ≡ false → x ≡ y → ⊥
not_last y x xs e p =
    false_not_true (sym (or_false_second (among y xs) (same x y) (sym (among_last y x xs) ∙ e)) ∙ ap (λ (l : List ℕ). same l y) p ∙ same_self y)

-- ---- whether a name is among those before it

among_some : (x : List ℕ) (ys : List (List ℕ)) (j : ℕ) → j < length ys → nth ys j ≡ x → among x ys ≡ true
unfolding among
among_some x [] j h e = absurd (omega arith)
among_some x (y ∷ ys) zero h e = ap (λ (l : List ℕ). same l x || among x ys) e ∙ ap (λ (t : Bool). t || among x ys) (same_self x)
among_some x (y ∷ ys) (suc j) h e =
    let k : j < length ys = omega arith in
    ap (λ (t : Bool). same y x || t) (among_some x ys j k e) ∙ or-true (same y x)

among_none : (x : List ℕ) (ys : List (List ℕ)) → ((j : ℕ) → j < length ys → nth ys j ≡ x → ⊥) → among x ys ≡ false
unfolding among
among_none x [] h = refl
among_none x (y ∷ ys) h =
    ap (λ (t : Bool). t || among x ys) (same_false y x (λ e. h 0 (omega arith) e)) ∙ among_none x ys (λ j k e. h (suc j) (omega arith) e)

module _ {xs : List (List ℕ)} {i q : ℕ} (e : EqualBefore xs i q) where
  pub seen_before : i < length xs → 0 < q → among (nth xs i) (take i xs) ≡ true
  seen_before inside h =
      let k : q - 1 < i = omega (arith, e.below) in
      among_some (nth xs i) (take i xs) (q - 1) (omega (arith, length-take i xs)) (get_or-take i xs (q - 1) [] k ∙ e.there h)

  pub not_seen_before : q ≡ 0 → among (nth xs i) (take i xs) ≡ false
  not_seen_before z =
      among_none (nth xs i) (take i xs)
      (λ j k p. e.none z j (omega (arith, length-take i xs)) (sym (get_or-take i xs j [] (omega (arith, length-take i xs))) ∙ p))

-- ---- one name more

new_behind : (t : Bool) (y : List ℕ) (ys zs : List (List ℕ)) → new_only t y (ys ++ zs) ≡ new_only t y ys ++ zs
new_behind true y ys zs = refl
new_behind false y ys zs = refl

last_from : (ys seen : List (List ℕ)) (x : List ℕ) → different_from seen (ys ++ x ∷ []) ≡ different_from seen ys ++ new_only (among x (seen ++ ys)) x []
unfolding different_from
last_from [] seen x = ap (λ (l : List (List ℕ)). new_only (among x l) x []) (sym (append-nil seen))
last_from (y ∷ ys) seen x =
    let rest = different_from (seen ++ y ∷ []) ys in
    ap (new_only (among y seen) y)
    (last_from ys (seen ++ y ∷ []) x ∙ ap (λ (l : List (List ℕ)). rest ++ new_only (among x l) x []) (append_assoc seen (y ∷ []) ys))
    ∙ new_behind (among y seen) y rest (new_only (among x (seen ++ y ∷ ys)) x [])

pub different_next : (xs : List (List ℕ)) (i : ℕ) (t : Bool) → i < length xs → among (nth xs i) (take i xs) ≡ t
    → different (take (i + 1) xs) ≡ different (take i xs) ++ new_only t (nth xs i) []
unfolding different
different_next xs i t h e =
    ap (λ (k : ℕ). different (take k xs)) (add-one i)
    ∙ ap different (take-suc xs i [] h)
    ∙ last_from (take i xs) [] (nth xs i)
    ∙ ap (λ (b : Bool). different (take i xs) ++ new_only b (nth xs i) []) e

-- ---- none twice

-- what is known of the different names behind some that were seen
record Fresh (seen ys : List (List ℕ)) : Type 0 where
  pub unseen : (i : ℕ) → i < length ys → among (nth ys i) seen ≡ false
  pub no_two : Distinct ys

fresh_one : (seen : List (List ℕ)) (x : List ℕ) (ys : List (List ℕ)) (t : Bool) → among x seen ≡ t → Fresh (seen ++ x ∷ []) ys → Fresh seen (new_only t x ys)
fresh_one seen x ys true e f = record { unseen = λ i h. not_seen (nth ys i) x seen (f.unseen i h); no_two = f.no_two }
fresh_one seen x ys false e f = record { unseen = first; no_two = two }
  where
    first : (i : ℕ) → i < length (x ∷ ys) → among (nth (x ∷ ys) i) seen ≡ false
    first zero h = e
    first (suc i) h = let k : i < length ys = omega arith in not_seen (nth ys i) x seen (f.unseen i k)

    two : Distinct (x ∷ ys)
    two i zero h k p = omega arith
    two zero (suc j) h k p = let l : j < length ys = omega arith in not_last (nth ys j) x seen (f.unseen j l) p
    two (suc i) (suc j) h k p = f.no_two i j (omega arith) (omega arith) p

fresh_from : (xs seen : List (List ℕ)) → Fresh seen (different_from seen xs)
unfolding different_from
fresh_from [] seen = record { unseen = λ i h. absurd (omega arith); no_two = λ i j h k p. omega arith }
fresh_from (x ∷ xs) seen = fresh_one seen x (different_from (seen ++ x ∷ []) xs) (among x seen) refl (fresh_from xs (seen ++ x ∷ []))

-- ---- the same names

same_one : (a s r q : Bool) → (((a || s) || r) ≡ ((a || s) || q)) → (a || (s || r)) ≡ (a || (s || q))
same_one true s r q e = refl
same_one false true r q e = refl
same_one false false r q e = e

same_seen : (a s r q : Bool) → (s ≡ true → a ≡ true) → (((a || s) || r) ≡ ((a || s) || q)) → (a || r) ≡ (a || (s || q))
same_seen true s r q h e = refl
same_seen false true r q h e = absurd (false_not_true (h refl))
same_seen false false r q h e = e

module _ (x : List ℕ) where
  kept_one : (seen : List (List ℕ)) (y : List ℕ) (ys rest : List (List ℕ)) (t : Bool) → among y seen ≡ t
      → (among x (seen ++ y ∷ []) || among x rest) ≡ (among x (seen ++ y ∷ []) || among x ys)
      → (among x seen || among x (new_only t y rest)) ≡ (among x seen || (same y x || among x ys))
  unfolding among
  kept_one seen y ys rest true e h =
      same_seen (among x seen) (same y x) (among x rest) (among x ys) (λ p. ap (λ (l : List ℕ). among l seen) (sym (same_true y x p)) ∙ e)
      (sym (ap (λ (t : Bool). t || among x rest) (among_last x y seen)) ∙ h ∙ ap (λ (t : Bool). t || among x ys) (among_last x y seen))
  kept_one seen y ys rest false e h =
      same_one (among x seen) (same y x) (among x rest) (among x ys)
      (sym (ap (λ (t : Bool). t || among x rest) (among_last x y seen)) ∙ h ∙ ap (λ (t : Bool). t || among x ys) (among_last x y seen))

  kept_from : (ys seen : List (List ℕ)) → (among x seen || among x (different_from seen ys)) ≡ (among x seen || among x ys)
  unfolding among different_from
  kept_from [] seen = refl
  kept_from (y ∷ ys) seen = kept_one seen y ys (different_from (seen ++ y ∷ []) ys) (among y seen) refl (kept_from ys (seen ++ y ∷ []))

pub once_each : (xs : List (List ℕ)) → OnceEach xs
unfolding different among
once_each xs = record { no_two = (fresh_from xs []).no_two; same_names = λ x. kept_from x xs [] }

-- ---- the buckets

module _ (image : List ℕ) where
  fewer_one : (x : List ℕ) (ys : List (List ℕ)) (n : ℕ) (t : Bool) → buckets_read image ys ≤ n → buckets_read image (new_only t x ys)
      ≤ reads (lookup image x) + n
  unfolding buckets_read
  fewer_one x ys n true h = omega arith
  fewer_one x ys n false h = omega arith

  fewer_from : (xs seen : List (List ℕ)) → buckets_read image (different_from seen xs) ≤ buckets_read image xs
  unfolding buckets_read different_from
  fewer_from [] seen = omega arith
  fewer_from (x ∷ xs) seen =
      fewer_one x (different_from (seen ++ x ∷ []) xs) (buckets_read image xs) (among x seen) (fewer_from xs (seen ++ x ∷ []))

  pub not_above : (xs : List (List ℕ)) → buckets_read image (different xs) ≤ buckets_read image xs
  unfolding different
  not_above xs = fewer_from xs []

-- with all names different, they are the different ones
all_from : (xs seen : List (List ℕ)) → ((i : ℕ) → i < length xs → among (nth xs i) seen ≡ false) → Distinct xs → different_from seen xs ≡ xs
unfolding different_from
all_from [] seen new two = refl
all_from (x ∷ xs) seen new two =
    ap (λ (t : Bool). new_only t x (different_from (seen ++ x ∷ []) xs)) (new 0 (omega arith))
    ∙ ap (λ (l : List (List ℕ)). x ∷ l) (all_from xs (seen ++ x ∷ []) later (λ i j h k p. two (suc i) (suc j) (omega arith) (omega arith) p))
  where
    later : (i : ℕ) → i < length xs → among (nth xs i) (seen ++ x ∷ []) ≡ false
    later i h =
        among_last (nth xs i) x seen
        ∙ ap (λ (t : Bool). t || same x (nth xs i)) (new (suc i) (omega arith))
        ∙ same_false x (nth xs i) (λ p. two 0 (suc i) (omega arith) (omega arith) p)

pub all_different : (image : List ℕ) (xs : List (List ℕ)) → Distinct xs → buckets_read image (different xs) ≡ buckets_read image xs
unfolding different among
all_different image xs two = ap (buckets_read image) (all_from xs [] (λ i h. refl) two)
