-- A walk over the entries of a canonical image: what is ahead of a place, and one turn. P is what the walk keeps of it. Assumes nothing.
use Prim.Native.Nat.{ℕ, suc, ◌+◌, ◌-◌, ◌≤◌, ◌<◌}
use native.Mathlib.Omega.{arith}
use mathlib.Core.Path.{◌≡◌, sym, ap, subst, ◌∙◌}
use mathlib.Core.List.{List, [], ◌∷◌, ◌++◌}
use lib.ListN.{length, take, drop}
use Rattle.jhash.specs.Word.{AllBytes}
use Rattle.image.specs.Bytes.{word, cat}
use Rattle.image.specs.Image.{Entry, head_size, entry_bytes}
use Rattle.image.specs.Steps.Contracts.{NameAtPre, NameRead}
use Rattle.image.proofs.At.{At, at_same, at_equal, at_left, at_right}
use Rattle.image.proofs.EntryAt.{entry_fits, id_word, length_word, name_bytes}
use Rattle.image.proofs.EntryArea.{length-entries_in}
use Rattle.image.proofs.Lists.{cat_cons}
use Rattle.image.proofs.Parts.{entries_at}
use Rattle.image.proofs.Sizes.{length-entry_bytes, length_image}
use Rattle.reader.specs.Open.{opening}
use Rattle.lists.proofs.Parse.{AllWordSized}
use Rattle.canonical.specs.Canonical.{counted, puts_in}
use Rattle.canonical.specs.Steps.Contracts.{CanonicalWithEntries}
use Rattle.canonical.proofs.ReadBack.{all_wordly, ids_of, made_puts, canonical_only}

-- `left` entries are ahead of the place `at`
pub record Ahead (P : ℕ → List Entry → Type 0) (img : List ℕ) (at left : ℕ) : Type 0 where
  pub entries : List Entry
  pub number : length entries ≡ left
  pub there : At img at (cat entry_bytes entries)
  pub words : AllWordSized entries
  pub short : length img ≤ 4294967295
  pub holds : P at entries

-- the entry at that place, and those behind it
pub record Turn (P : ℕ → List Entry → Type 0) (img : List ℕ) (at left : ℕ) : Type 0 where
  pub entry : Entry
  pub rest : List Entry
  pub number : suc (length rest) ≡ left
  pub there : At img at (entry_bytes entry ++ cat entry_bytes rest)
  pub words : AllWordSized (entry ∷ rest)
  pub short : length img ≤ 4294967295
  pub holds : P at (entry ∷ rest)

pub puts_number : (img : List ℕ) → length (puts_in img) ≡ counted (opening img)
unfolding puts_in
puts_number img = length-entries_in (counted (opening img)) (drop head_size img)

module _ {P : ℕ → List Entry → Type 0} {img : List ℕ} where
  pub ahead_starts : (n : ℕ) → AllBytes img → CanonicalWithEntries img n → P head_size (puts_in img) → Ahead P img head_size n
  ahead_starts n bytes c p =
      let m = canonical_only img bytes c.canonical in
      let puts = made_puts img m in
      let fits = m.fits in
      let size = ap length m.is in
      record {
        entries = m.puts;
        number = ap length (sym puts) ∙ puts_number img ∙ sym c.number;
        there = rw m.is at (entries_at m.mode m.puts);
        words = all_wordly m.puts (ids_of m.puts m.each) (omega arith);
        short = omega (arith, length_image m.mode m.puts);
        holds = subst (P head_size) puts p;
      }

  module _ {at left : ℕ} (w : Ahead P img at left) where
    pub ahead_ends : left ≡ 0 → P at []
    ahead_ends z = none_ahead w.entries w.number w.holds
      where
        none_ahead : (es : List Entry) → length es ≡ left → P at es → P at []
        none_ahead [] n p = p
        none_ahead (e ∷ es) n p = absurd (omega arith)

    pub turn : 0 < left → Turn P img at left
    turn more = first_ahead w.entries w.number w.there w.words w.holds
      where
        first_ahead : (es : List Entry) → length es ≡ left → At img at (cat entry_bytes es) → AllWordSized es → P at es → Turn P img at left
        first_ahead [] n a s p = absurd (omega arith)
        first_ahead (e ∷ es) n a s p =
            record { entry = e; rest = es; number = n; there = at_equal (cat_cons entry_bytes e es) a; words = s; short = w.short; holds = p }

  module _ {at left : ℕ} (t : Turn P img at left) where
    entry_at : At img at (entry_bytes t.entry)
    entry_at = at_left (entry_bytes t.entry) (cat entry_bytes t.rest) t.there

    pub id_is : {id : ℕ} → id ≡ word img at → id ≡ t.entry.id
    id_is e = e ∙ id_word t.entry entry_at t.words.0.id_word

    module _ {len : ℕ} (e : len ≡ word img (at + 4)) where
      pub length_is : len ≡ length t.entry.name + 1
      length_is = e ∙ length_word t.entry entry_at t.words.0.length_word

      pub inside : NameAtPre img at len
      inside = record { inside = omega (arith, length_is, entry_fits t.entry entry_at); some = omega (arith, length_is) }

      pub name_is : {name : List ℕ} → NameRead img at len name → name ≡ t.entry.name
      name_is r =
          let n : len - 1 ≡ length t.entry.name = omega (arith, length_is) in
          r.is ∙ ap (λ (k : ℕ). take k (drop (at + 8) img)) n ∙ name_bytes t.entry entry_at

      -- the walk goes on behind it, with what is kept there
      pub ahead_next : {Q : ℕ → List Entry → Type 0} → Q (at + (8 + len)) t.rest → Ahead Q img (at + (8 + len)) (left - 1)
      ahead_next q =
          let size : at + length (entry_bytes t.entry) ≡ at + (8 + len) = omega (arith, length_is, length-entry_bytes t.entry) in
          record {
            entries = t.rest;
            number = omega (arith, t.number);
            there = at_same size (at_right (entry_bytes t.entry) (cat entry_bytes t.rest) t.there);
            words = t.words.1;
            short = t.short;
            holds = q;
          }
