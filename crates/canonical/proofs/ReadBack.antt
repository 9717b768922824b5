-- Puts and direction are read back from an image, and the decision is right. Assumes nothing.
use Prim.Native.Nat.{ℕ, zero, suc, ◌+◌, ◌-◌, ◌^◌, ◌≤◌, ◌<◌}
use native.Mathlib.Omega.{arith}
use mathlib.Core.Path.{◌≡◌, refl, sym, ap, ap₂, ◌∙◌}
use mathlib.Core.Bool.{true, false, cond, not, ◌&&◌}
use mathlib.Core.List.{List, [], ◌∷◌, ◌++◌, append_assoc}
use lib.ListN.{length, drop}
use lib.Dec.{eqb, leb}
use borrow.Author.Tests.{leb-true, le-leb, not-true}
use Rattle.jhash.specs.Outcome.{Outcome}
use Rattle.image.specs.Bytes.{word, le32, cat, same}
use Rattle.image.specs.Image.{Entry, head_size, entry_bytes, entries_size, back_size, image_size, flag_word, head_bytes, head_words, image}
use Rattle.image.specs.Stored.{entries_in, first_entry, after_first}
use Rattle.image.proofs.EntryArea.{AllBytes, bytes_drop, bytes_take, ids_words}
use Rattle.image.proofs.At.{At}
use Rattle.image.proofs.Bools.{and_first, and_second, and_both}
use Rattle.image.proofs.Equal.{same_true, same_self}
use Rattle.image.proofs.AllOfList.{All, all_map, all_both}
use Rattle.image.proofs.Parts.{head_at, entries_at}
use Rattle.reader.specs.Open.{opening}
use Rattle.lookup_laws.proofs.ImageOpening.{opening_image}
use Rattle.lists.proofs.Parse.{AllWordSized, first_entry_lem, after_first_lem}
use Rattle.image.specs.declared.Mode.{Mode}
use Rattle.image.specs.declared.Mode.TheVariants.{Twoway, Oneway}
use Rattle.image.specs.Zero.{has_zero}
use Rattle.canonical.specs.Steps.Made.{Storable, Made}
use Rattle.canonical.specs.Canonical.{counted, puts_in, mode_in, no_zero_bytes, canonical}

-- entries are read back, whatever follows them
parsed_front : (es : List Entry) (rest : List ℕ) → AllWordSized es → entries_in (length es) (cat entry_bytes es ++ rest) ≡ es
unfolding entries_in cat
parsed_front [] rest ok = refl
parsed_front (e ∷ es) rest ok =
    let tail : List ℕ = cat entry_bytes es ++ rest in
    ap (λ (l : List ℕ). first_entry l ∷ entries_in (length es) (after_first l)) (append_assoc (entry_bytes e) (cat entry_bytes es) rest)
    ∙ ap₂ {C = List Entry} (λ (x : Entry) (xs : List Entry). x ∷ xs) (first_entry_lem e tail ok.0)
    (ap (entries_in (length es)) (after_first_lem e tail ok.0) ∙ parsed_front es rest ok.1)

-- the flag word
pub flag_image : (mode : Mode) (es : List Entry) → word (image mode es) 8 ≡ flag_word mode
unfolding word le32 head_bytes head_words
flag_image Twoway es = ap (λ (l : List ℕ). word l 8) (head_at Twoway es).stands
flag_image Oneway es = ap (λ (l : List ℕ). word l 8) (head_at Oneway es).stands

-- names that are read from bytes are bytes
pub names_bytes : (n : ℕ) (l : List ℕ) → AllBytes l → All (λ (e : Entry). AllBytes e.name) (entries_in n l)
unfolding entries_in
names_bytes zero l bytes = tt
names_bytes (suc n) l bytes =
    (bytes_take (word l 4 - 1) (drop 8 l) (bytes_drop 8 l bytes), names_bytes n (after_first l) (bytes_drop (8 + word l 4) l bytes))

-- the ids are words
abbrev pub WordIds : List Entry → Type 0
WordIds es = All (λ (e : Entry). e.id < 2 ^ 32) es

pub all_wordly : (es : List Entry) → WordIds es → entries_size es < 2 ^ 32 → AllWordSized es
unfolding entries_size
all_wordly [] w s = tt
all_wordly (e ∷ es) w s = (record { id_word = w.0; length_word = omega arith }, all_wordly es w.1 (omega arith))

module _ (mode : Mode) (es : List Entry) (ids : WordIds es) (fits : image_size mode es ≤ 4294967295) where
  -- the puts of an image are read back from it
  pub puts_image : puts_in (image mode es) ≡ es
  unfolding puts_in
  puts_image =
      let a : At (image mode es) head_size (cat entry_bytes es) = entries_at mode es in
      ap (λ (o : Outcome ℕ). entries_in (counted o) (drop head_size (image mode es))) (opening_image mode es fits)
      ∙ ap (entries_in (length es)) a.stands
      ∙ parsed_front es a.post (all_wordly es ids (omega arith))

  pub flag_of_image : mode_in (image mode es) ≡ mode
  flag_of_image = ap (λ (w : ℕ). cond (eqb w 0) Twoway Oneway) (flag_image mode es) ∙ flag_mode mode
    where
      flag_mode : (f : Mode) → cond (eqb (flag_word f) 0) Twoway Oneway ≡ f
      flag_mode Twoway = refl
      flag_mode Oneway = refl

-- in a two-way image the size bounds the ids
pub word_ids : (es : List Entry) (n : ℕ) → back_size es ≤ n → n ≤ 2 ^ 32 → WordIds es
unfolding back_size
word_ids [] n b h = tt
word_ids (e ∷ es) n b h = (omega arith, word_ids es n (omega arith) h)

-- ---- the rule decides

frees : (es : List Entry) → All Storable es → no_zero_bytes es ≡ true
unfolding no_zero_bytes
frees [] a = refl
frees (e ∷ es) a = and_both (not (has_zero e.name)) (no_zero_bytes es) (ap not a.0.free) (frees es a.1)

pub ids_of : (es : List Entry) → All Storable es → WordIds es
ids_of es a = all_map (λ e s. s.id_word) es a

pub storables : (es : List Entry) → All (λ (e : Entry). has_zero e.name ≡ false) es → WordIds es → All Storable es
storables es f i = all_map (λ e s. record { free = s.0; id_word = s.1 }) es (all_both (λ (e : Entry). has_zero e.name ≡ false) _ es f i)

names_free : (es : List Entry) → no_zero_bytes es ≡ true → All (λ (e : Entry). has_zero e.name ≡ false) es
unfolding no_zero_bytes
names_free [] f = tt
names_free (e ∷ es) f = (not-true _ (and_first (not (has_zero e.name)) _ f), names_free es (and_second (not (has_zero e.name)) _ f))

-- puts and direction of an image that puts make are read back
pub made_puts : (img : List ℕ) (m : Made img) → puts_in img ≡ m.puts
made_puts img m = ap puts_in (sym m.is) ∙ puts_image m.mode m.puts (ids_of m.puts m.each) m.fits

pub made_mode : (img : List ℕ) (m : Made img) → mode_in img ≡ m.mode
made_mode img m = ap mode_in (sym m.is) ∙ flag_of_image m.mode m.puts (ids_of m.puts m.each) m.fits

pub canonical_yes : (img : List ℕ) → Made img → canonical img ≡ true
unfolding canonical
canonical_yes img m =
    let p = made_puts img m in
    let d = made_mode img m in
    let i : image (mode_in img) (puts_in img) ≡ img = ap₂ image d p ∙ m.is in
    let s : image_size (mode_in img) (puts_in img) ≡ image_size m.mode m.puts = ap₂ image_size d p in
    and_both (no_zero_bytes (puts_in img) && leb (image_size (mode_in img) (puts_in img)) 4294967295) (same (image (mode_in img) (puts_in img)) img)
    (and_both (no_zero_bytes (puts_in img)) (leb (image_size (mode_in img) (puts_in img)) 4294967295) (ap no_zero_bytes p ∙ frees m.puts m.each)
    (le-leb (image_size (mode_in img) (puts_in img)) 4294967295 (rw s m.fits)))
    (ap (λ (l : List ℕ). same l img) i ∙ same_self img)

pub canonical_only : (img : List ℕ) → AllBytes img → canonical img ≡ true → Made img
unfolding canonical puts_in
canonical_only img bytes h =
    let a = no_zero_bytes (puts_in img) in
    let b = leb (image_size (mode_in img) (puts_in img)) 4294967295 in
    let c = same (image (mode_in img) (puts_in img)) img in
    let ab = and_first (a && b) c h in
    record {
      mode = mode_in img;
      puts = puts_in img;
      each =
          storables (puts_in img) (names_free (puts_in img) (and_first a b ab))
          (ids_words (counted (opening img)) (drop head_size img) (bytes_drop head_size img bytes));
      fits = leb-true (image_size (mode_in img) (puts_in img)) 4294967295 (and_second a b ab);
      is = same_true (image (mode_in img) (puts_in img)) img (and_second (a && b) c h);
    }
