-- No accepted put has a zero byte in its name, so both readings agree on every id of the image. Assumes nothing.
use Prim.Native.Nat.{ℕ, ◌≤◌}
use native.Mathlib.Omega.{arith}
use mathlib.Core.Path.{◌≡◌, refl, sym, ap, ◌∙◌}
use mathlib.Core.Bool.{Bool, true, false, cond, not}
use mathlib.Core.List.{List, [], ◌∷◌}
use mathlib.Core.Option.{Option, some}
use borrow.Author.Tests.{eqb-true}
use lib.Dec.{eqb}
use lib.ListN.{length, take, drop}
use Rattle.image.specs.declared.Mode.{Mode}
use Rattle.image.specs.declared.Mode.TheVariants.{Twoway, Oneway}
use Rattle.image.specs.Image.{Entry, head_size}
use Rattle.image.specs.Head.{back_size_at}
use Rattle.image.specs.Zero.{has_zero}
use Rattle.image.proofs.AllOfRange.{all_true}
use Rattle.image.proofs.AllOfList.{All, all_filter, all_append}
use Rattle.reader.specs.Naming.{Naming, place, unnamed, naming}
use Rattle.consistency.specs.Panel.{agree_on, readings_agree}
use Rattle.consistency.proofs.Panels.{agree_named, agree_unnamed}
use Rattle.lookup_laws.specs.Answer.{bytes_at, name_given, of_id, last_name}
use Rattle.writer.specs.declared.Repeats.{Repeats}
use Rattle.lists.specs.Calls.{Call, put, close, accepted_one, put_due, accepted_after, accepted_from, accepted, WordIds}
use Rattle.lists.specs.Demand3.{image_of}
use Rattle.lists.specs.Theorems.Readings.{Readings}
use Rattle.lists.proofs.ImageRead.{named_in, Read}
use Rattle.lists.proofs.ListPuts.{due_free}
use Rattle.lists.proofs.CallLists.{two_way_lem}
use Rattle.lists.proofs.ReadingAnswered.{list_read}

abbrev Free : Entry → Type 0
Free e = has_zero e.name ≡ false

-- ---- the accepted puts

one_free : (mode : Mode) (repeats : Repeats) (n : ℕ) (es : List Entry) (e : Entry) (b : Bool)
    → eqb (put_due mode repeats n es e) 0 ≡ b → All Free (cond b (e ∷ []) [])
one_free mode repeats n es e true d = (due_free mode repeats n es e (eqb-true (put_due mode repeats n es e) 0 d), tt)
one_free mode repeats n es e false d = tt

free_from : (mode : Mode) (repeats : Repeats) (n : ℕ) (es : List Entry) (cs : List Call) → All Free es → All Free (accepted_from mode repeats n es cs)
unfolding accepted_from
free_from mode repeats n es [] all = all
free_from mode repeats n es (put e ∷ cs) all =
    let one = one_free mode repeats n es e (eqb (put_due mode repeats n es e) 0) refl in
    free_from mode repeats n (accepted_after mode repeats n es (put e)) cs (all_append Free es (accepted_one (put e) (put_due mode repeats n es e)) all one)
free_from mode repeats n es (close ∷ cs) all =
    free_from mode repeats n (accepted_after mode repeats n es close) cs (all_append Free es [] all tt)

pub accepted_free : (mode : Mode) (repeats : Repeats) (n : ℕ) (cs : List Call) → All Free (accepted mode repeats n cs)
unfolding accepted
accepted_free mode repeats n cs = free_from mode repeats n [] cs tt

-- ---- the names that ids give

last_free : (es : List Entry) (name : List ℕ) → All Free es → last_name es ≡ some name → has_zero name ≡ false
last_free [] name all e = absurd (let z : ◌≡◌ {A = ℕ} 0 1 = cc in omega arith)
last_free (e ∷ []) name all p = let same : e.name ≡ name = cc in ap has_zero (sym same) ∙ all.0
last_free (e ∷ f ∷ es) name all p = last_free (f ∷ es) name all.1 p

named_free : (mode : Mode) (es : List Entry) (id : ℕ) (name : List ℕ) → All Free es → named_in mode es id ≡ some name → has_zero name ≡ false
unfolding of_id
named_free Twoway es id name all e = last_free (of_id id es) name (all_filter Free _ es all) e
named_free Oneway es id name all e = absurd (let z : ◌≡◌ {A = ℕ} 0 1 = cc in omega arith)

-- an id agrees where the name that it gives has no zero byte
agrees : (img : List ℕ) (id : ℕ) (given : Option (List ℕ)) → name_given img id ≡ given → ((name : List ℕ) → given ≡ some name → has_zero name ≡ false)
    → agree_on img id ≡ true
agrees img id given e free = agrees_by_naming (naming img id) refl
  where
    agrees_by_naming : (x : Naming) → naming img id ≡ x → agree_on img id ≡ true
    agrees_by_naming (place s n) p =
        let name = take n (drop s img) in
        let held : given ≡ some name = sym e ∙ ap (bytes_at img) p in
        sym (agree_named img id s n (sym p) (has_zero name) refl) ∙ ap not (free name held)
    agrees_by_naming unnamed p = sym (agree_unnamed img id (sym p))

image_agrees : (mode : Mode) (es : List Entry) (img : List ℕ) → Read mode es img → All Free es → readings_agree img ≡ true
unfolding readings_agree
image_agrees mode es img r all =
    all_true (agree_on img) 0 (back_size_at img) (λ i p. agrees img _ (named_in mode es _) (r.id_gives _) (λ name e. named_free mode es _ name all e))

-- ---- lists of calls

module _ (mode : Mode) (repeats : Repeats) (buffer : List ℕ) (room : head_size ≤ length buffer) (cs : List Call) (word : WordIds mode cs) where
  list_agrees : readings_agree (image_of mode repeats buffer cs) ≡ true
  list_agrees =
      image_agrees mode (accepted mode repeats (length buffer) cs) (image_of mode repeats buffer cs)
      (list_read mode repeats buffer room cs word) (accepted_free mode repeats (length buffer) cs)

pub readings : Readings
readings =
    record {
      two_way_lem = λ repeats buffer cs room. list_agrees Twoway repeats buffer room cs (two_way_lem cs);
      one_way = λ repeats buffer cs room word. list_agrees Oneway repeats buffer room cs word;
    }
