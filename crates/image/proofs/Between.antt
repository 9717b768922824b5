-- The bytes between two places of a buffer, and the entry at their front. Assumes nothing.
use Rattle.std.proofs.Common.{◌≡◌, ℕ, zero, suc, ◌+◌, ◌-◌, ◌<◌, ◌≤◌, Bool, true, false, cond, List, [], ◌∷◌, length, get_or, take, drop, set, sym, refl, ap}
use Rattle.std.proofs.Common.{◌∙◌, arith, length-drop, length-take, get_or-drop, get_or-take, drop-drop, eq-eqb, ne_eqb, le-leb}
use lib.Seq.{sets, take-set-le}
use borrow.Author.Tests.{lt-leb}
use Rattle.image.specs.Bytes.{word}
use Rattle.image.specs.Stored.{first_whole, between}
use Rattle.image.specs.Steps.EntryLength.{whole_length}
use Rattle.image.specs.Steps.Contracts.{WholeLengthPre, NotWhole, WholeLength, NameAtPre}
use Rattle.image.proofs.EntryArea.{whole_first}

pub length_between : (buf : List ℕ) (at end : ℕ) → at ≤ end → end ≤ length buf → length (between buf at end) ≡ end - at
length_between buf at end h k = simp (length-take, length-drop) (omega arith)

pub get_d_between : (buf : List ℕ) (at end i : ℕ) → i < end - at → get_or (between buf at end) i 0 ≡ get_or buf (at + i) 0
get_d_between buf at end i h = get_or-take (end - at) (drop at buf) i 0 h ∙ get_or-drop at buf i 0

pub word_between : (buf : List ℕ) (at end o : ℕ) → o + 4 ≤ end - at → word (between buf at end) o ≡ word buf (at + o)
unfolding word
word_between buf at end o h =
    omega
    (arith, get_d_between buf at end o (omega arith), byte 1 (omega arith), byte 2 (omega arith), byte 3 (omega arith))
  where
    byte : (k : ℕ) → o + k < end - at → get_or (between buf at end) (o + k) 0 ≡ get_or buf (at + o + k) 0
    byte k l =
        let e : at + (o + k) ≡ at + o + k = omega arith in
        get_d_between buf at end (o + k) l ∙ ap (λ (i : ℕ). get_or buf i 0) e

pub drop-take : (n m : ℕ) (l : List ℕ) → drop n (take m l) ≡ take (m - n) (drop n l)
drop-take zero m l = let e : m ≡ m - 0 = omega arith in ap (λ (k : ℕ). take k l) e
drop-take (suc n) zero l = let e : 0 ≡ 0 - suc n = omega arith in ap (λ (k : ℕ). take k (drop (suc n) l)) e
drop-take (suc n) (suc m) [] = none (suc m - suc n)
  where
    none : (k : ℕ) → ◌≡◌ {A = List ℕ} [] (take k [])
    none zero = refl
    none (suc k) = refl
drop-take (suc n) (suc m) (x ∷ l) =
    let e : m - n ≡ suc m - suc n = omega arith in
    drop-take n m l ∙ ap (λ (k : ℕ). take k (drop n l)) e

pub drop_between : (buf : List ℕ) (at end k : ℕ) → drop k (between buf at end) ≡ between buf (at + k) end
drop_between buf at end k =
    let e : end - at - k ≡ end - (at + k) = omega arith in
    drop-take k (end - at) (drop at buf)
    ∙ ap (λ (l : List ℕ). take (end - at - k) l) (drop-drop k at buf)
    ∙ ap (λ (n : ℕ). take n (drop (at + k) buf)) e

take-take_min : (n m : ℕ) (l : List ℕ) → n ≤ m → take n (take m l) ≡ take n l
take-take_min zero m l h = refl
take-take_min (suc n) zero l h = absurd (omega arith)
take-take_min (suc n) (suc m) [] h = refl
take-take_min (suc n) (suc m) (x ∷ l) h =
    let k : n ≤ m = omega arith in
    ap (λ (r : List ℕ). x ∷ r) (take-take_min n m l k)

word_take : (buf : List ℕ) (end o : ℕ) → o + 4 ≤ end → word (take end buf) o ≡ word buf o
unfolding word
word_take buf end o h =
    omega (
      arith,
      get_or-take end buf o 0 (omega arith),
      get_or-take end buf (o + 1) 0 (omega arith),
      get_or-take end buf (o + 2) 0 (omega arith),
      get_or-take end buf (o + 3) 0 (omega arith),
    )

-- ---- what depends on the bytes before `end` alone

module _ (a b : List ℕ) (end : ℕ) (same : take end a ≡ take end b) where
  pub between_same : (at : ℕ) → between a at end ≡ between b at end
  between_same at = sym (drop-take at end a) ∙ ap (drop at) same ∙ drop-take at end b

  pub word_same : (o : ℕ) → o + 4 ≤ end → word a o ≡ word b o
  word_same o h = sym (word_take a end o h) ∙ ap (λ (l : List ℕ). word l o) same ∙ word_take b end o h

-- stores from a place on leave what is before it
pub take_sets : (vs l : List ℕ) (n i : ℕ) → n ≤ i → take n (sets l i vs) ≡ take n l
take_sets [] l n i h = refl
take_sets (v ∷ vs) l n i h = take_sets vs (set l i v) n (suc i) (omega arith) ∙ take-set-le n l i v h

-- the name of the entry at the front
pub name_between : (buf : List ℕ) (at end n : ℕ) → 8 + n ≤ end - at → 1 ≤ n
    → take (n - 1) (drop 8 (between buf at end)) ≡ take (n - 1) (drop (at + 8) buf)
name_between buf at end n h k =
    ap (λ (l : List ℕ). take (n - 1) l) (drop_between buf at end 8)
    ∙ take-take_min (n - 1) (end - (at + 8)) (drop (at + 8) buf) (omega arith)

-- ---- the length word of a whole entry, 0 otherwise

module _ (bytes : List ℕ) where
  pub too_short : length bytes < 8 → 0 ≡ whole_length bytes
  unfolding whole_length
  too_short h = rw (lt-leb 8 (length bytes) h)

  pub no_length : 8 ≤ length bytes → word bytes 4 ≡ 0 → 0 ≡ whole_length bytes
  unfolding whole_length
  no_length h k = rw (le-leb 8 (length bytes) h, lt-leb 1 (word bytes 4) (omega arith))

  pub cut : 8 ≤ length bytes → 1 ≤ word bytes 4 → length bytes < 8 + word bytes 4 → 0 ≡ whole_length bytes
  unfolding whole_length
  cut h k l = rw (le-leb 8 (length bytes) h, le-leb 1 (word bytes 4) k, lt-leb (8 + word bytes 4) (length bytes) l)

  pub no_zero : 8 ≤ length bytes → 1 ≤ word bytes 4 → 8 + word bytes 4 ≤ length bytes → (get_or bytes (7 + word bytes 4) 0 ≡ 0 → ⊥)
      → 0 ≡ whole_length bytes
  unfolding whole_length
  no_zero h k l m =
      rw
      (le-leb 8 (length bytes) h, le-leb 1 (word bytes 4) k, le-leb (8 + word bytes 4) (length bytes) l, ne_eqb (get_or bytes (7 + word bytes 4) 0) 0 m)

  pub is_whole : 8 ≤ length bytes → 1 ≤ word bytes 4 → 8 + word bytes 4 ≤ length bytes → get_or bytes (7 + word bytes 4) 0 ≡ 0
      → word bytes 4 ≡ whole_length bytes
  unfolding whole_length
  is_whole h k l m =
      rw
      (le-leb 8 (length bytes) h, le-leb 1 (word bytes 4) k, le-leb (8 + word bytes 4) (length bytes) l, eq-eqb (get_or bytes (7 + word bytes 4) 0) 0 m)

-- what a length word other than 0 says
pub record Front (bytes : List ℕ) (n : ℕ) : Type 0 where
  pub yes : first_whole bytes ≡ true
  pub is : word bytes 4 ≡ n
  pub some : 1 ≤ n
  pub inside : 8 + n ≤ length bytes

pub front : (bytes : List ℕ) (n : ℕ) → n ≡ whole_length bytes → (n ≡ 0 → ⊥) → Front bytes n
unfolding whole_length
front bytes n e k = front_where_whole (first_whole bytes) refl e
  where
    front_where_whole : (b : Bool) → first_whole bytes ≡ b → n ≡ cond b (word bytes 4) 0 → Front bytes n
    front_where_whole true p q =
        let w = whole_first bytes p in
        record { yes = p; is = sym q; some = omega arith; inside = omega arith }
    front_where_whole false p q = absurd (k q)

-- a whole entry lies before the end, so its name can be read
pub record EntryRoom (buf : List ℕ) (at end n : ℕ) : Type 0 where
  pub before : at + (8 + n) ≤ end
  pub name : NameAtPre buf at n

pub entry_room : (buf : List ℕ) (at end n : ℕ) → at ≤ end → end ≤ length buf → n ≡ whole_length (between buf at end) → (n ≡ 0 → ⊥)
    → EntryRoom buf at end n
entry_room buf at end n h k e nz =
    let f = front (between buf at end) n e nz in
    let before : at + (8 + n) ≤ end = omega (arith, f.inside, length_between buf at end h k) in
    record { before = before; name = record { inside = omega arith; some = f.some } }

pub not_whole : (bytes : List ℕ) → 0 ≡ whole_length bytes → first_whole bytes ≡ false
unfolding whole_length
not_whole bytes e = none_where_whole (first_whole bytes) refl e
  where
    none_where_whole : (b : Bool) → first_whole bytes ≡ b → 0 ≡ cond b (word bytes 4) 0 → b ≡ false
    none_where_whole true p q = let w = whole_first bytes p in absurd (omega arith)
    none_where_whole false p q = refl

-- ---- the same, as code reads it in place: n is the length word

module _ {buf : List ℕ} {at end : ℕ} (pre : WholeLengthPre buf at end) where
  size : length (between buf at end) ≡ end - at
  size = length_between buf at end pre.from pre.inside

  pub short_there : end - at < 8 → NotWhole buf at end
  short_there e = let s = size in sym (too_short (between buf at end) (omega arith))

  module _ (e : 8 ≤ end - at) (n : ℕ) (q : n ≡ word buf (at + 4)) where
    length_there : word (between buf at end) 4 ≡ n
    length_there = word_between buf at end 4 (omega arith) ∙ sym q

    pub none_there : n ≡ 0 → NotWhole buf at end
    none_there z = let s = size in sym (no_length (between buf at end) (omega arith) (length_there ∙ z))

    module _ (z : n ≡ 0 → ⊥) where
      pub cut_there : end - at < 8 + n → NotWhole buf at end
      cut_there l =
          let s = size in
          let w = length_there in
          sym (cut (between buf at end) (omega arith) (omega arith) (omega arith))

      module _ (l : 8 + n ≤ end - at) where
        last_there : get_or (between buf at end) (7 + word (between buf at end) 4) 0 ≡ get_or buf (at + 7 + n) 0
        last_there =
            let a : at + (7 + n) ≡ at + 7 + n = omega arith in
            ap (λ (i : ℕ). get_or (between buf at end) (7 + i) 0) length_there
            ∙ get_d_between buf at end (7 + n) (omega arith)
            ∙ ap (λ (i : ℕ). get_or buf i 0) a

        pub open_there : (get_or buf (at + 7 + n) 0 ≡ 0 → ⊥) → NotWhole buf at end
        open_there m =
            let s = size in
            let w = length_there in
            sym (no_zero (between buf at end) (omega arith) (omega arith) (omega arith) (λ y. m (sym last_there ∙ y)))

        pub whole_there : n < 4294967296 → get_or buf (at + 7 + n) 0 ≡ 0 → WholeLength buf at end n
        whole_there small m =
            let s = size in
            let w = length_there in
            record {
              is = sym w ∙ is_whole (between buf at end) (omega arith) (omega arith) (omega arith) (last_there ∙ m);
              some = omega arith;
              small = small;
            }

-- ---- what the length word of a whole entry tells
module _ {buf : List ℕ} {at end n : ℕ} (pre : WholeLengthPre buf at end) (w : WholeLength buf at end n) where
  pub whole_front : Front (between buf at end) n
  whole_front = front (between buf at end) n w.is (λ z. omega (arith, w.some))

  pub whole_room : EntryRoom buf at end n
  whole_room = entry_room buf at end n pre.from pre.inside w.is (λ z. omega (arith, w.some))

  -- it is the word that is read there again
  pub whole_again : {m : ℕ} → m ≡ word buf (at + 4) → WholeLength buf at end m
  whole_again {m} read =
      let f = whole_front in
      let s = size pre in
      let same : n ≡ m = sym f.is ∙ word_between buf at end 4 (omega arith) ∙ sym read in
      record { is = sym same ∙ w.is; some = omega (arith, w.some); small = omega (arith, w.small) }
