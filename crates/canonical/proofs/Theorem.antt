-- The decision is the rule, and what holds of canonical images. Assumes nothing.
use Prim.Native.Nat.{ℕ, ◌-◌, ◌≤◌, ◌<◌}
use native.Mathlib.Omega.{arith}
use mathlib.Core.Path.{◌≡◌, refl, sym, ap, ◌∙◌}
use mathlib.Core.Bool.{Bool, true, false}
use mathlib.Core.List.{List, [], ◌∷◌, ◌++◌, append_assoc}
use mathlib.Core.Option.{some}
use lib.ListN.{length, get_or, take, drop, length-append, length-drop, take-append-drop, get_or-append}
use Rattle.image.specs.Bytes.{word}
use Rattle.image.specs.Image.{Entry, head_size}
use Rattle.image.specs.declared.Mode.{Mode}
use Rattle.image.specs.declared.Mode.TheVariants.{Twoway, Oneway}
use Rattle.image.proofs.EntryArea.{AllBytes, bytes_drop, bytes_take}
use Rattle.image.proofs.Equal.{same_self}
use Rattle.image.proofs.AllOfList.{All, all_map, all_both}
use Rattle.image.proofs.Lists.{filter-append, filter_yes}
use Rattle.reader.specs.Lookup.{lookup}
use Rattle.reader.specs.Open.{opening}
use Rattle.consistency.specs.Panel.{readings_agree}
use Rattle.consistency.specs.Home.{home}
use Rattle.lookup_laws.specs.Answer.{found_id, name_given, has_name, of_name, first_id, is_named}
use Rattle.writer.specs.declared.Repeats.TheVariants.{On}
use Rattle.lists.specs.Calls.{WordIds, put_all}
use Rattle.lists.specs.Demand3.{image_of}
use Rattle.lists.proofs.ImageRead.{Read}
use Rattle.lists.proofs.ReadingAnswered.{list_read}
use Rattle.lists.proofs.Readings.{readings}
use Rattle.canonical.specs.Steps.Made.{Storable, Made}
use Rattle.canonical.specs.Canonical.{Canonical, counted, puts_in, mode_in, canonical}
use Rattle.canonical.specs.Theorems.CanonicalImages.{CanonicalImage, CanonicalHolds}
use Rattle.canonical.proofs.ReadBack.{names_bytes, made_puts, made_mode, canonical_yes, canonical_only}
use Rattle.canonical.proofs.ChecksHold.{canonical_checked}
use Rattle.canonical.proofs.ListImages.{words, list_made, list_puts, list_mode, lists_injective, accepted_all, made_accepted, made_closes, made_size}
use Rattle.canonical.proofs.ListImages.{made_room}

-- ---- each entry's name is found

first_some : (l r : List Entry) (e : Entry) → (id : ℕ) × (first_id (l ++ e ∷ r) ≡ some id)
first_some [] r e = (e.id, refl)
first_some (f ∷ l) r e = (f.id, refl)

names_first : (done es : List Entry) → All (λ (e : Entry). (id : ℕ) × (first_id (of_name e.name (done ++ es)) ≡ some id)) es
unfolding of_name
names_first done [] = tt
names_first done (e ∷ es) = (own, rw (append_assoc done (e ∷ []) es) at (names_first (done ++ (e ∷ [])) es))
  where
    own : (id : ℕ) × (first_id (of_name e.name (done ++ e ∷ es)) ≡ some id)
    own =
        let test = has_name e.name in
        let s = first_some (of_name e.name done) (of_name e.name es) e in
        let kept = ap (λ (l : List Entry). of_name e.name done ++ l) (filter_yes test e es (same_self e.name)) in
        (s.0, ap first_id (filter-append test done (e ∷ es) ∙ kept) ∙ s.1)

-- ---- a canonical image, and longer bytes

-- the size word is the length
size_word : (img : List ℕ) → Made img → word img 4 ≡ length img
size_word img m = (canonical_checked img m).size

front_word : (img more : List ℕ) → 8 ≤ length img → word (img ++ more) 4 ≡ word img 4
unfolding word
front_word img more h = rw (byte 4 (omega arith), byte 5 (omega arith), byte 6 (omega arith), byte 7 (omega arith))
  where
    byte : (i : ℕ) → i < length img → get_or (img ++ more) i 0 ≡ get_or img i 0
    byte i k = get_or-append img more 0 i k

-- a list of at most as many elements as its front has no more
none_more : (img more : List ℕ) → length (img ++ more) ≡ length img → more ≡ []
none_more img [] e = refl
none_more img (x ∷ more) e = absurd (omega (arith, length-append img (x ∷ more)))

made_alone : (img more : List ℕ) → Made img → Made (img ++ more) → more ≡ []
made_alone img more a b =
    let long : head_size ≤ length img = omega (arith, made_size img a img (omega arith)) in
    none_more img more (sym (size_word (img ++ more) b) ∙ front_word img more (omega arith) ∙ size_word img a)

-- ---- all of it, from the list that makes the image

module _ (img : List ℕ) (m : Made img) where
  -- an own buffer of the image's length
  room : length img ≤ length img
  room = omega arith

  read : Read m.mode m.puts img
  read =
      let all = accepted_all img m img room in
      let closed = made_closes img m img room in
      rw (all, closed) at (list_read m.mode On img (made_room img m img room) (put_all m.puts) (words m.mode m.puts m.each))

  made_agrees : readings_agree img ≡ true
  made_agrees = sym (ap readings_agree (made_closes img m img room)) ∙ agrees_in m.mode (words m.mode m.puts m.each)
    where
      agrees_in : (mode : Mode) → WordIds mode (put_all m.puts) → readings_agree (image_of mode On img (put_all m.puts)) ≡ true
      agrees_in Twoway w = readings.two_way_lem On img (put_all m.puts) (made_room img m img room)
      agrees_in Oneway w = readings.one_way On img (put_all m.puts) (made_room img m img room) w

  made_homes : (id : ℕ) (name : List ℕ) → name_given img id ≡ some name → home img id ≡ true
  made_homes id name h = read.id_home id ∙ ap is_named (sym (read.id_gives id) ∙ h)

  made_found : All (λ (e : Entry). (id : ℕ) × (found_id (lookup img e.name) ≡ some id)) m.puts
  made_found = all_map (λ e f. (f.0, read.names.name_gives e.name ∙ f.1)) m.puts (names_first [] m.puts)

module _ (img : List ℕ) (bytes : AllBytes img) (yes : canonical img ≡ true) where
  made : Made img
  made = canonical_only img bytes yes

  puts_are : made.puts ≡ puts_in img
  puts_are = sym (made_puts img made)

  mode_is : made.mode ≡ mode_in img
  mode_is = sym (made_mode img made)

  is_canonical : CanonicalImage img
  is_canonical =
      record {
        opens = rw puts_are at (canonical_checked img made).opened;
        agrees = made_agrees img made;
        homes = made_homes img made;
        found = rw puts_are at (made_found img made);
        made = λ buffer long. (
          let a = made_accepted img made buffer long in rw (puts_are, mode_is) at a,
          let b = made_closes img made buffer long in rw (puts_are, mode_is) at b,
        );
        alone = λ more b d. alone more b d (canonical (img ++ more)) refl;
        cut = λ k h. cut k h (canonical (take k img)) refl;
      }
    where
      -- a shorter canonical image would go on behind its end
      cut : (k : ℕ) → k < length img → (r : Bool) → canonical (take k img) ≡ r → canonical (take k img) ≡ false
      cut k h true e =
          let whole : Made (take k img ++ drop k img) = rw (take-append-drop k img) made in
          let none : drop k img ≡ [] = made_alone (take k img) (drop k img) (canonical_only (take k img) (bytes_take k img bytes) e) whole in
          let short : length img - k ≡ 0 = sym (length-drop k img) ∙ ap length none in
          absurd (omega arith)
      cut k h false e = e

      alone : (more : List ℕ) → AllBytes (img ++ more) → (more ≡ [] → ⊥) → (r : Bool) → canonical (img ++ more) ≡ r → canonical (img ++ more) ≡ false
      alone more b d true e = absurd (d (made_alone img more made (canonical_only (img ++ more) b e)))
      alone more b d false e = e

-- ---- the rule, and lists

canonical_made : (img : List ℕ) → Canonical img → Made img
canonical_made img o =
    let each : All Storable o.puts = all_map (λ e p. record { free = p.free; id_word = p.id_word }) o.puts o.each in
    rw o.closes at (list_made o.mode On o.buffer o.room (put_all o.puts) (words o.mode o.puts each))

-- the names of an image of bytes are bytes
named_in_bytes : (img : List ℕ) → AllBytes img → All (λ (e : Entry). AllBytes e.name) (puts_in img)
unfolding puts_in
named_in_bytes img bytes = names_bytes (counted (opening img)) (drop head_size img) (bytes_drop head_size img bytes)

made_canonical : (img : List ℕ) → AllBytes img → Made img → Canonical img
made_canonical img bytes m =
    let names : All (λ (e : Entry). AllBytes e.name) m.puts = rw (made_puts img m) at (named_in_bytes img bytes) in
    record {
      mode = m.mode;
      buffer = img;
      room = made_room img m img (omega arith);
      puts = m.puts;
      each =
          all_map (λ (e : Entry) (p : Storable e × AllBytes e.name). record { bytes = p.1; free = p.0.free; id_word = p.0.id_word }) m.puts
          (all_both Storable (λ (e : Entry). AllBytes e.name) m.puts m.each names);
      closes = made_closes img m img (omega arith);
    }

pub canonical_holds : CanonicalHolds
canonical_holds =
    record {
      exactly = λ img bytes. (λ yes. made_canonical img bytes (canonical_only img bytes yes), λ o. canonical_yes img (canonical_made img o));
      holds = is_canonical;
      of_list =
          λ mode repeats buffer cs room word. record {
            is_canonical = canonical_yes (image_of mode repeats buffer cs) (list_made mode repeats buffer room cs word);
            read_back = list_puts mode repeats buffer room cs word;
            mode_back = list_mode mode repeats buffer room cs word;
          };
      different =
          λ mode repeats₁ buffer₁ cs₁ repeats₂ buffer₂ cs₂ room₁ room₂ word₁ word₂ d e.
          d (lists_injective mode repeats₁ buffer₁ room₁ cs₁ word₁ repeats₂ buffer₂ room₂ cs₂ word₂ e);
    }
