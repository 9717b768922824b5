-- What was read so far, and a step of the walk. Assumes nothing.
use Prim.Native.Nat.{ℕ, ◌+◌, ◌≤◌}
use native.Mathlib.Omega.{arith}
use mathlib.Core.Path.{◌≡◌, refl, sym, ap, ◌∙◌}
use mathlib.Core.List.{List, [], ◌++◌, append_assoc, append-nil}
use Rattle.std.specs.Prelude.{Option, None, Some, IfSome}
use Rattle.std.specs.Io.KnownBytes.{Consumes, IsAtEnd}
use Rattle.catalogue.specs.Lines.{after_input}
use lib.ListN.{length, take}
use Rattle.writer.specs.State.{State}
use Rattle.reader.specs.Naming.{Naming, place, unnamed, naming}
use Rattle.reader.specs.IdWalk.{item, done, step_of, step}
use Rattle.reader.proofs.Namings.{named}
use Rattle.catalogue.specs.Steps.Pieces.{Gathering, started, take_piece, input_ended}
use Rattle.catalogue.proofs.WholeInput.{piece_append, in_one}
use Rattle.catalogue.specs.Left.{Left}

-- bytes that were consumed one after the other
consumed_more : (old mid new : Option (List ℕ)) (xs ys : List ℕ) → Consumes old mid xs → Consumes mid new ys → Consumes old new (xs ++ ys)
consumed_more None mid new xs ys p q = tt
consumed_more (Some a) None new xs ys p q = absurd p
consumed_more (Some a) (Some b) None xs ys p q = absurd q
consumed_more (Some a) (Some b) (Some c) xs ys p q = p ∙ ap (λ (z : List ℕ). xs ++ z) q ∙ sym (append_assoc xs ys c)

consumed_none : (known : Option (List ℕ)) → Consumes known known []
consumed_none None = tt
consumed_none (Some xs) = refl

-- at the end all known bytes have been consumed
consumed_all : (old new : Option (List ℕ)) (xs : List ℕ) → Consumes old new xs → IsAtEnd new → IfSome old (λ known. known ≡ xs)
consumed_all None new xs p q = tt
consumed_all (Some a) None xs p q = absurd p
consumed_all (Some a) (Some b) xs p q = p ∙ ap (λ (z : List ℕ). xs ++ z) q ∙ append-nil xs

-- the bytes that were taken from a reader on the way from g to h; what it has left is known before and after
pub record Taken (old new : Option (List ℕ)) (g h : Gathering) : Type 0 where
  pub bytes : List ℕ
  pub so : h ≡ take_piece g bytes
  pub consumed : Consumes old new bytes

pub none_taken : (known : Option (List ℕ)) (g : Gathering) → Taken known known g g
unfolding take_piece
none_taken known g = record { bytes = []; so = refl; consumed = consumed_none known }

pub more_taken : (old mid new : Option (List ℕ)) (g h k : Gathering) (piece : List ℕ) → Taken old mid g h → k ≡ take_piece h piece → Consumes mid new piece
    → Taken old new g k
more_taken old mid new g h k piece t e f =
    record {
      bytes = t.bytes ++ piece;
      so = e ∙ ap (λ (x : Gathering). take_piece x piece) t.so ∙ sym (piece_append g t.bytes piece);
      consumed = consumed_more old mid new t.bytes piece t.consumed f;
    }

-- what they leave
pub taken_left : (old new : Option (List ℕ)) (s r : State) (room : List ℕ) (h : Gathering) → Taken old new (started s room) h → r ≡ input_ended h
    → s.writer.length ≤ length room → Left s r
taken_left old new s r room h t e enough =
    record { input = t.bytes; left = e ∙ ap input_ended t.so ∙ in_one s room t.bytes enough }

-- at the end of the reader's bytes, which a read of none tells: what all of them leave
pub taken_whole : (old mid new : Option (List ℕ)) (s r : State) (room : List ℕ) (h : Gathering) (n : ℕ) (piece : List ℕ) → Taken old mid (started s room) h
    → r ≡ input_ended h → s.writer.length ≤ length room → n ≡ 0 → Consumes mid new (take n piece) → IsAtEnd new → IfSome old (λ bytes. r ≡ after_input s bytes)
taken_whole None mid new s r room h n piece t e enough z f g = tt
taken_whole (Some a) mid new s r room h n piece t e enough z f g =
    let nothing : Consumes mid new (take 0 piece) = rw z at f in
    e ∙ ap input_ended t.so ∙ in_one s room t.bytes enough
    ∙ ap (after_input s)
    (sym (consumed_all (Some a) new (t.bytes ++ []) (consumed_more (Some a) mid new t.bytes [] t.consumed nothing) g ∙ append-nil t.bytes))

-- a step that gives an item: its name lies in the image, and the walk goes on at the next id
pub record Stepping (image : List ℕ) (n s l m : ℕ) : Type 0 where
  pub inside : s + l ≤ length image
  pub onward : m ≡ n + 1

ended : {P : Type 0} (id s l m : ℕ) → done ≡ item id s l m → P
ended id s l m e = let z : ◌≡◌ {A = ℕ} 0 1 = cc in absurd (omega arith)

pub stepping : (image : List ℕ) (n id s l m : ℕ) → step image n ≡ item id s l m → Stepping image n s l m
unfolding step
stepping image n id s l m e = stepping_by_naming (naming image n) refl e
  where
    stepping_by_naming : (x : Naming) → naming image n ≡ x → step_of n x ≡ item id s l m → Stepping image n s l m
    stepping_by_naming unnamed f e = ended id s l m e
    stepping_by_naming (place s' l') f e =
        let inside = (named image n s' l' f).inside in
        let es : s' ≡ s = cc in
        let el : l' ≡ l = cc in
        let em : n + 1 ≡ m = cc in
        record { inside = omega arith; onward = sym em }
