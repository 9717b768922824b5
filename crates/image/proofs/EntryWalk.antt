-- One entry of a walk over entries. Assumes nothing.
use Rattle.std.proofs.Common.{◌≡◌, ℕ, suc, ◌+◌, ◌-◌, ◌<◌, ◌≤◌, max, Bool, false, ◌&&◌, ◌||◌, eqb, List, ◌∷◌, length, get_or, take, drop, set, sym, refl, ap}
use Rattle.std.proofs.Common.{◌∙◌, arith, get_or-set_other, get_or-set_same, eq-eqb, ne_eqb}
use native.Mathlib.Decide.{dec_lt, ℕ_discrete}
use mathlib.Core.Bool.{or_assoc, or-false}
use lib.Seq.{set_out}
use Rattle.jhash.specs.NameHash.{hash_of, hash_or_zero}
use Rattle.image.specs.Bytes.{word, same}
use Rattle.image.specs.Tables.{table_of}
use Rattle.image.specs.Image.{Entry, back_size, has_name, contains_name}
use Rattle.image.specs.Stored.{first_whole, first_entry, after_first, whole, entries_in, between}
use Rattle.image.specs.Steps.EntryLength.{whole_length}
use Rattle.image.specs.Steps.Walk.{IsSoughtPre}
use Rattle.image.specs.Tally.{tallied, raised_counts, counts_after}
use Rattle.image.proofs.Equal.{same_false}
use Rattle.image.proofs.Between.{Front, not_whole, length_between, drop_between, word_between, name_between}

-- one more in one table raises no count by more than one
set_one : (l : List ℕ) (u : ℕ) → get_or (set l u (get_or l u 0 + 1)) u 0 ≤ get_or l u 0 + 1
set_one l u =
    elim (dec_lt u (length l)) [
      | yes h ↦ omega (arith, get_or-set_same l u (get_or l u 0 + 1) 0 h)
      | no h ↦ omega (arith, ap (λ (k : List ℕ). get_or k u 0) (set_out l u (get_or l u 0 + 1) (omega arith)))
    ]

pub raised_one : (counts : List ℕ) (h t : ℕ) → get_or (raised_counts counts h) t 0 ≤ get_or counts t 0 + 1
unfolding raised_counts
raised_one counts h t =
    elim (ℕ_discrete t (table_of h)) [
      | yes e ↦ rw e (set_one counts (table_of h))
      | no n ↦ omega (arith, get_or-set_other counts (table_of h) t (get_or counts (table_of h) 0 + 1) 0 n)
    ]

-- what is to be found of the entries from `at` on
pub record Rest (buf : List ℕ) (end entries : ℕ) (counts₀ : List ℕ) (at left back : ℕ) (counts : List ℕ) : Type 0 where
  pub inside : at ≤ end
  pub whole_same : whole left (between buf at end) ≡ whole entries (between buf 2072 end)
  pub back_same : max back (back_size (entries_in left (between buf at end))) ≡ back_size (entries_in entries (between buf 2072 end))
  pub counts_same : tallied counts (entries_in left (between buf at end)) ≡ tallied counts₀ (entries_in entries (between buf 2072 end))
  pub counts_small : (t : ℕ) → get_or counts t 0 + left ≤ entries

pub walk_start : (buf : List ℕ) (end entries : ℕ) (counts : List ℕ) → 2072 ≤ end → ((t : ℕ) → get_or counts t 0 ≡ 0)
    → Rest buf end entries counts 2072 entries 0 counts
walk_start buf end entries counts h z =
    record {
      inside = h;
      whole_same = refl;
      back_same = omega arith;
      counts_same = refl;
      counts_small = λ t. omega (arith, z t);
    }

whole_suc : (m : ℕ) (bytes : List ℕ) → whole (suc m) bytes ≡ (first_whole bytes && whole m (after_first bytes))
unfolding whole
whole_suc m bytes = refl

entries_in_suc : (m : ℕ) (bytes : List ℕ) → entries_in (suc m) bytes ≡ first_entry bytes ∷ entries_in m (after_first bytes)
unfolding entries_in
entries_in_suc m bytes = refl

back_size-cons : (e : Entry) (es : List Entry) → back_size (e ∷ es) ≡ max (e.id + 1) (back_size es)
unfolding back_size
back_size-cons e es = refl

pub tallied_cons : (counts : List ℕ) (e : Entry) (es : List Entry) → tallied counts (e ∷ es) ≡ tallied (raised_counts counts (hash_of e.name)) es
unfolding tallied counts_after
tallied_cons counts e es = refl

-- the bytes and the entries after the first
module _ (buf : List ℕ) (at end n m : ℕ) (h : at ≤ end) (k : end ≤ length buf) (f : Front (between buf at end) n) where
  inner : 8 + n ≤ end - at
  inner = let i = f.inside in let e = length_between buf at end h k in omega arith

  pub after_first_lem : after_first (between buf at end) ≡ between buf (at + (8 + n)) end
  after_first_lem =
      ap (λ (w : ℕ). drop (8 + w) (between buf at end)) f.is ∙ drop_between buf at end (8 + n)

  pub whole_rest : whole (suc m) (between buf at end) ≡ whole m (between buf (at + (8 + n)) end)
  whole_rest =
      whole_suc m (between buf at end)
      ∙ ap (λ (b : Bool). b && whole m (after_first (between buf at end))) f.yes
      ∙ ap (λ (l : List ℕ). whole m l) after_first_lem

  pub first_id_lem : (first_entry (between buf at end)).id ≡ word buf at
  first_id_lem =
      let e : at + 0 ≡ at = omega arith in
      let j = inner in
      word_between buf at end 0 (omega arith) ∙ ap (λ (o : ℕ). word buf o) e

  pub first_name_lem : (first_entry (between buf at end)).name ≡ take (n - 1) (drop (at + 8) buf)
  first_name_lem =
      ap (λ (w : ℕ). take (w - 1) (drop 8 (between buf at end))) f.is ∙ name_between buf at end n inner f.some

  pub entries_rest : entries_in (suc m) (between buf at end) ≡ first_entry (between buf at end) ∷ entries_in m (between buf (at + (8 + n)) end)
  entries_rest =
      entries_in_suc m (between buf at end)
      ∙ ap (λ (l : List ℕ). first_entry (between buf at end) ∷ entries_in m l) after_first_lem

-- one step of the walk
pub walk_step : (buf : List ℕ) (end entries : ℕ) (counts₀ : List ℕ) (at left back : ℕ) (counts : List ℕ) → end ≤ length buf
    → Rest buf end entries counts₀ at left back counts → 0 < left
    → (n h id : ℕ) (name counts' : List ℕ) → Front (between buf at end) n → n < 4294967296 → id < 4294967296
    → name ≡ take (n - 1) (drop (at + 8) buf) → h ≡ hash_of name → id ≡ word buf at → counts' ≡ raised_counts counts h
    → Rest buf end entries counts₀ (at + (8 + n)) (left - 1) (max back (id + 1)) counts'
walk_step buf end entries counts₀ at left back counts k r some n h id name counts' f small idsmall en eh ei ec =
    let m = left - 1 in
    let l : left ≡ suc m = omega arith in
    let a = r.inside in
    let fi = f.inside in
    let le = length_between buf at end a k in
    let and_first = first_entry (between buf at end) in
    let later = entries_in m (between buf (at + (8 + n)) end) in
    let es : entries_in left (between buf at end) ≡ and_first ∷ later =
    ap (λ (q : ℕ). entries_in q (between buf at end)) l ∙ entries_rest buf at end n m a k f in
    let fid : and_first.id ≡ id = first_id_lem buf at end n m a k f ∙ sym ei in
    let fh : hash_of and_first.name ≡ h = ap hash_of (first_name_lem buf at end n m a k f ∙ sym en) ∙ sym eh in
    let bs : back_size (entries_in left (between buf at end)) ≡ max (id + 1) (back_size later) =
    ap back_size es ∙ back_size-cons and_first later ∙ ap (λ (q : ℕ). max (q + 1) (back_size later)) fid in
    let ts : tallied counts (entries_in left (between buf at end)) ≡ tallied counts' later =
    ap (λ (q : List Entry). tallied counts q) es ∙ tallied_cons counts and_first later
    ∙ ap (λ (q : ℕ). tallied (raised_counts counts q) later) fh ∙ ap (λ (q : List ℕ). tallied q later) (sym ec) in
    record {
      inside = omega arith;
      whole_same = sym (whole_rest buf at end n m a k f) ∙ ap (λ (q : ℕ). whole q (between buf at end)) (sym l) ∙ r.whole_same;
      back_same = omega (arith, r.back_same);
      counts_same = sym ts ∙ r.counts_same;
      counts_small = λ t. small_count t (raised_one counts h t) (r.counts_small t);
    }
  where
    small_count : (t : ℕ) → get_or (raised_counts counts h) t 0 ≤ get_or counts t 0 + 1 → get_or counts t 0 + left ≤ entries
        → get_or counts' t 0 + (left - 1) ≤ entries
    small_count t p q = let e = ap (λ (c : List ℕ). get_or c t 0) ec in omega arith

-- ---- whether a name is found

-- found so far, or to be found among the entries from `at` on
abbrev pub ContainsRest : List ℕ → ℕ → ℕ → List ℕ → ℕ → ℕ → Bool → Type 0
ContainsRest buf end entries sought at left so_far =
    (so_far || contains_name sought (entries_in left (between buf at end))) ≡ contains_name sought (entries_in entries (between buf 2072 end))

contains_name-cons : (name : List ℕ) (e : Entry) (es : List Entry) → contains_name name (e ∷ es) ≡ (has_name name e || contains_name name es)
unfolding contains_name
contains_name-cons name e es = refl

-- a name of another hash is another name
pub other_hash : {name sought : List ℕ} {h want : ℕ} → IsSoughtPre name h sought want → (h ≡ want → ⊥) → same name sought ≡ false
other_hash {name} {sought} p differ =
    same_false name sought (λ e. differ (p.named ∙ ap hash_or_zero e ∙ sym p.wanted))

-- the loop of the walk
pub record WalkInv (buf : List ℕ) (end entries : ℕ) (counts₀ sought counts : List ℕ) (at left back : ℕ) (contains : Bool) : Type 0 where
  pub rest : Rest buf end entries counts₀ at left back counts
  pub contains_rest : ContainsRest buf end entries sought at left contains

-- one step: b says whether the name of the entry at `at` is the one that is sought
pub contains_step : (buf : List ℕ) (end entries : ℕ) (sought : List ℕ) (at left : ℕ) (so_far : Bool) → end ≤ length buf → at ≤ end → 0 < left
    → ContainsRest buf end entries sought at left so_far → (n : ℕ) (name : List ℕ) (b : Bool) → Front (between buf at end) n
    → name ≡ take (n - 1) (drop (at + 8) buf) → b ≡ same name sought
    → ContainsRest buf end entries sought (at + (8 + n)) (left - 1) (so_far || b)
contains_step buf end entries sought at left so_far k a some m n name b f en eb =
    let later = entries_in (left - 1) (between buf (at + (8 + n)) end) in
    let and_first = first_entry (between buf at end) in
    let l : left ≡ suc (left - 1) = omega arith in
    let es : entries_in left (between buf at end) ≡ and_first ∷ later =
    ap (λ (q : ℕ). entries_in q (between buf at end)) l ∙ entries_rest buf at end n (left - 1) a k f in
    let h : b ≡ has_name sought and_first = eb ∙ ap (λ (q : List ℕ). same q sought) (en ∙ sym (first_name_lem buf at end n (left - 1) a k f)) in
    or_assoc so_far b (contains_name sought later)
    ∙ ap (λ (q : Bool). so_far || (q || contains_name sought later)) h
    ∙ ap (λ (q : Bool). so_far || q) (sym (contains_name-cons sought and_first later) ∙ ap (contains_name sought) (sym es))
    ∙ m

-- no entry is left
pub contains_end : (buf : List ℕ) (end entries : ℕ) (sought : List ℕ) (at left : ℕ) (so_far : Bool) → left ≡ 0
    → ContainsRest buf end entries sought at left so_far
    → so_far ≡ contains_name sought (entries_in entries (between buf 2072 end))
unfolding contains_name entries_in
contains_end buf end entries sought at left so_far z m =
    sym (or-false so_far)
    ∙ ap (λ (q : ℕ). so_far || contains_name sought (entries_in q (between buf at end))) (sym z)
    ∙ m

-- a broken entry
pub walk_broken : (buf : List ℕ) (end entries : ℕ) (counts₀ : List ℕ) (at left back : ℕ) (counts : List ℕ)
    → Rest buf end entries counts₀ at left back counts → 0 < left → 0 ≡ whole_length (between buf at end)
    → false ≡ whole entries (between buf 2072 end)
walk_broken buf end entries counts₀ at left back counts r some z =
    let l : left ≡ suc (left - 1) = omega arith in
    sym
    (sym r.whole_same
    ∙ ap (λ (q : ℕ). whole q (between buf at end)) l
    ∙ whole_suc (left - 1) (between buf at end)
    ∙ ap (λ (b : Bool). b && whole (left - 1) (after_first (between buf at end))) (not_whole (between buf at end) z))

-- the end of the walk
pub walk_end : (buf : List ℕ) (end entries : ℕ) (counts₀ : List ℕ) (at back : ℕ) (counts : List ℕ) → end ≤ length buf
    → Rest buf end entries counts₀ at 0 back counts
    → (eqb at end ≡ whole entries (between buf 2072 end)) × (back ≡ back_size (entries_in entries (between buf 2072 end)))
    × (counts ≡ tallied counts₀ (entries_in entries (between buf 2072 end)))
unfolding whole entries_in tallied back_size
walk_end buf end entries counts₀ at back counts k r =
    (same_place ∙ ap (λ (n : ℕ). eqb n 0) (sym (length_between buf at end r.inside k)) ∙ r.whole_same, omega (arith, r.back_same), r.counts_same)
  where
    same_place : eqb at end ≡ eqb (end - at) 0
    same_place =
        elim (ℕ_discrete at end) [
          | yes e ↦ eq-eqb at end e ∙ sym (eq-eqb (end - at) 0 (omega arith))
          | no n ↦ ne_eqb at end n ∙ sym (ne_eqb (end - at) 0 (λ z. n (omega (arith, r.inside))))
        ]

-- no entry is left, and the walk did not come to the end
pub walk_past : (buf : List ℕ) (end entries : ℕ) (counts₀ : List ℕ) (at back : ℕ) (counts : List ℕ) → end ≤ length buf
    → Rest buf end entries counts₀ at 0 back counts → (at ≡ end → ⊥) → whole entries (between buf 2072 end) ≡ false
walk_past buf end entries counts₀ at back counts k r n =
    sym (walk_end buf end entries counts₀ at back counts k r).0 ∙ ne_eqb at end n
