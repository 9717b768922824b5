-- What the kind of an entry says: of the image, and of the puts that made it. Assumes nothing.
use Prim.Native.Nat.{ℕ, ◌≤◌}
use native.Mathlib.Omega.{arith}
use mathlib.Core.Path.{◌≡◌, refl, sym, ap, ap₂, ◌∙◌}
use mathlib.Core.Logic.{inl, inr}
use mathlib.Core.Bool.{Bool, true, false}
use mathlib.Core.List.{List, Memᴰ}
use mathlib.Core.Option.{Option, none, some}
use lib.ListN.{length}
use borrow.Author.Tests.{eq-eqb, ne_eqb, eqb-true}
use Rattle.jhash.specs.Outcome.{Outcome, value}
use Rattle.image.specs.Image.{Entry, head_size}
use Rattle.image.specs.declared.Mode.{Mode}
use Rattle.image.specs.declared.Mode.TheVariants.{Twoway, Oneway}
use Rattle.image.proofs.Bools.{false_not_true}
use Rattle.image.proofs.Equal.{same_self, same_true, same_false}
use Rattle.image.proofs.AllOfList.{All, all_map}
use Rattle.reader.specs.Lookup.{lookup}
use Rattle.lookup_laws.specs.Answer.{found_id, name_given, of_name, of_id, first_id, last_name}
use Rattle.writer.specs.declared.Repeats.TheVariants.{On}
use Rattle.lists.specs.Calls.{put_all}
use Rattle.lists.proofs.ImageRead.{Read, named_in}
use Rattle.lists.proofs.ReadingAnswered.{list_read}
use Rattle.canonical.specs.Canonical.{canonical, puts_in, mode_in}
use Rattle.canonical.specs.Steps.Made.{Made}
use Rattle.canonical.proofs.ListImages.{words, accepted_all, made_closes, made_room}
use Rattle.canonical.proofs.ReadBack.{made_puts, made_mode, canonical_yes}
use Rattle.one_to_one.specs.OneToOne.{is_id, is_name, asked, kind_of, kind_in, Failure, first_failure, first_failure_in, one_to_one}
use Rattle.one_to_one.specs.Theorems.Theorem.{Paired, FindsOther, GivesOther, Fails, Inverse, kind_among, SameId, SameName, OneId, OneName}
use Rattle.one_to_one.proofs.Answers.{answered, first_is}
use Rattle.one_to_one.proofs.Failures.{none_fails, all_pass, same_kinds}
use Rattle.one_to_one.proofs.Puts.{each_in, at_one, name_first, id_last, first_entry_lem, last_entry}

-- ---- the tests

is_id_lem : (o : Option ℕ) (id : ℕ) → is_id o id ≡ true → o ≡ some id
is_id_lem none id h = absurd (false_not_true h)
is_id_lem (some i) id h = ap {B = Option ℕ} some (eqb-true i id h)

id_is : (o : Option ℕ) (id : ℕ) → o ≡ some id → is_id o id ≡ true
id_is o id h = ap (λ (x : Option ℕ). is_id x id) h ∙ eq-eqb id id refl

is_name_lem : (o : Option (List ℕ)) (name : List ℕ) → is_name o name ≡ true → o ≡ some name
is_name_lem none name h = absurd (false_not_true h)
is_name_lem (some n) name h = ap {B = Option (List ℕ)} some (same_true n name h)

name_is : (o : Option (List ℕ)) (name : List ℕ) → o ≡ some name → is_name o name ≡ true
name_is o name h = ap (λ (x : Option (List ℕ)). is_name x name) h ∙ same_self name

kind_zero : (finds gives : Bool) → kind_of finds gives ≡ 0 → (finds ≡ true) × (gives ≡ true)
kind_zero true true h = (refl, refl)
kind_zero true false h = absurd (omega arith)
kind_zero false gives h = absurd (omega arith)

asked_so : (mode : Mode) (gives : Bool) → (mode ≡ Twoway → gives ≡ true) → asked mode gives ≡ true
asked_so Twoway gives h = h refl
asked_so Oneway gives h = refl

-- ---- of an image

module _ (img : List ℕ) (e : Entry) where
  pub paired : kind_in img e ≡ 0 → Paired img e
  unfolding kind_in
  paired h =
      let finds = is_id (found_id (lookup img e.name)) e.id in
      let gives = is_name (name_given img e.id) e.name in
      let both = kind_zero finds (asked (mode_in img) gives) h in
      record {
        finds = is_id_lem (found_id (lookup img e.name)) e.id both.0;
        gives = λ m. is_name_lem (name_given img e.id) e.name (ap (λ (x : Mode). asked x gives) (sym m) ∙ both.1);
      }

  pub paired_zero : Paired img e → kind_in img e ≡ 0
  unfolding kind_in
  paired_zero p =
      ap₂ kind_of (id_is (found_id (lookup img e.name)) e.id p.finds)
      (asked_so (mode_in img) (is_name (name_given img e.id) e.name) (λ m. name_is (name_given img e.id) e.name (p.gives m)))

-- yes, by the entries of the image
pub yes_paired : (img : List ℕ) → one_to_one img ≡ value none → All (Paired img) (puts_in img)
unfolding first_failure_in
yes_paired img h = all_map (paired img) (puts_in img) (all_pass (kind_in img) head_size (puts_in img) (first_is img none h))

pub paired_yes : (img : List ℕ) → canonical img ≡ true → All (Paired img) (puts_in img) → one_to_one img ≡ value none
unfolding first_failure_in
paired_yes img own all =
    answered img own
    ∙ ap {B = Outcome (Option Failure)} value (none_fails (kind_in img) head_size (puts_in img) (all_map (paired_zero img) (puts_in img) all))

-- ---- of an image that puts made

module _ (img : List ℕ) (m : Made img) where
  read : Read m.mode m.puts img
  read =
      let room : length img ≤ length img = omega arith in
      rw (accepted_all img m img room, made_closes img m img room) at
      (list_read m.mode On img (made_room img m img room) (put_all m.puts) (words m.mode m.puts m.each))

  pub finds_first : (name : List ℕ) → found_id (lookup img name) ≡ first_id (of_name name m.puts)
  finds_first name = read.names.name_gives name

  pub gives_last : mode_in img ≡ Twoway → (id : ℕ) → name_given img id ≡ last_name (of_id id m.puts)
  gives_last t id = read.id_gives id ∙ ap (λ (x : Mode). named_in x m.puts id) (sym (made_mode img m) ∙ t)

  kind_among_lem : (e : Entry) → kind_in img e ≡ kind_among m.mode m.puts e
  unfolding kind_in
  kind_among_lem e =
      ap₂ kind_of (ap (λ (o : Option ℕ). is_id o e.id) (finds_first e.name))
      (ap (λ (x : Mode). asked x (is_name (name_given img e.id) e.name)) (made_mode img m) ∙ asked_alike m.mode (read.id_gives e.id))
    where
      asked_alike : (mode : Mode) → name_given img e.id ≡ named_in mode m.puts e.id
          → asked mode (is_name (name_given img e.id) e.name) ≡ asked mode (is_name (last_name (of_id e.id m.puts)) e.name)
      asked_alike Twoway h = ap (λ (o : Option (List ℕ)). is_name o e.name) h
      asked_alike Oneway h = refl

  pub by_puts_lem : one_to_one img ≡ value (first_failure (kind_among m.mode m.puts) head_size m.puts)
  unfolding first_failure_in
  by_puts_lem =
      answered img (canonical_yes img m)
      ∙ ap {B = Outcome (Option Failure)} value
      (ap (first_failure (kind_in img) head_size) (made_puts img m)
      ∙ same_kinds (kind_in img) (kind_among m.mode m.puts) kind_among_lem head_size m.puts)

  -- yes, by the puts
  pub yes_one : one_to_one img ≡ value none → OneId m.puts × (m.mode ≡ Twoway → OneName m.puts)
  yes_one h =
      let all : All (Paired img) m.puts = rw (made_puts img m) at (yes_paired img h) in (
        all_map (λ (e : Entry) (p : Paired img e). all_map (λ (f : Entry) (q : Paired img f). one_id e f p q) m.puts all) m.puts all,
        λ t. all_map (λ (e : Entry) (p : Paired img e). all_map (λ (f : Entry) (q : Paired img f). one_name t e f p q) m.puts all) m.puts all,
      )
    where
      one_id : (e f : Entry) → Paired img e → Paired img f → SameId e f
      one_id e f p q h =
          let s : some e.id ≡ some f.id = sym p.finds ∙ ap (λ (n : List ℕ). found_id (lookup img n)) h ∙ q.finds in cc

      one_name : m.mode ≡ Twoway → (e f : Entry) → Paired img e → Paired img f → SameName e f
      one_name t e f p q h =
          let d = made_mode img m ∙ t in
          let s : some e.name ≡ some f.name = sym (p.gives d) ∙ ap (name_given img) h ∙ q.gives d in cc

  -- where no name has two ids, an entry's name finds its id
  pub own_found : OneId m.puts → (e : Entry) → Memᴰ e m.puts → found_id (lookup img e.name) ≡ some e.id
  own_found ids e i =
      let all = at_one (λ (x : Entry). All (SameId x) m.puts) e m.puts ids i in
      let first = name_first m.puts e i in
      let f = first_entry_lem m.puts (SameId e) all e.name first.0 first.1 in
      finds_first e.name ∙ first.1 ∙ ap {B = Option ℕ} some (sym f.3 ∙ sym (f.1 (sym f.2)))

  pub one_yes : OneId m.puts → (m.mode ≡ Twoway → OneName m.puts) → one_to_one img ≡ value none
  one_yes ids names =
      paired_yes img (canonical_yes img m)
      (rw (made_puts img m)
      (all_map (λ (e : Entry) (i : Memᴰ e m.puts). record { finds = own_found ids e i; gives = λ t. gives t e i }) m.puts (each_in m.puts)))
    where
      gives : mode_in img ≡ Twoway → (e : Entry) → Memᴰ e m.puts → name_given img e.id ≡ some e.name
      gives t e i =
          let all = at_one (λ (x : Entry). All (SameName x) m.puts) e m.puts (names (sym (made_mode img m) ∙ t)) i in
          let last = id_last m.puts e i in
          let f = last_entry m.puts (SameName e) all last.0 e.id last.1 in
          gives_last t e.id ∙ last.1 ∙ ap {B = Option (List ℕ)} some (sym f.2 ∙ sym (f.1 (sym f.3)))

  -- so does every name that an id gives
  named_twoway : (id : ℕ) (name : List ℕ) → name_given img id ≡ some name → mode_in img ≡ Twoway
  named_twoway id name h = made_mode img m ∙ by_mode m.mode (sym (read.id_gives id) ∙ h)
    where
      by_mode : (mode : Mode) → named_in mode m.puts id ≡ some name → mode ≡ Twoway
      by_mode Twoway q = refl
      by_mode Oneway q = let z : ◌≡◌ {A = ℕ} 0 1 = cc in absurd (omega arith)

  pub given_found : OneId m.puts → (id : ℕ) (name : List ℕ) → name_given img id ≡ some name → found_id (lookup img name) ≡ some id
  given_found ids id name h =
      let last = sym (gives_last (named_twoway id name h) id) ∙ h in
      let f = last_entry m.puts (λ (e : Entry). Memᴰ e m.puts) (each_in m.puts) name id last in
      ap (λ (n : List ℕ). found_id (lookup img n)) (sym f.2) ∙ own_found ids f.0 f.1 ∙ ap {B = Option ℕ} some f.3

  -- where the answer is yes, lookup and naming are inverse
  pub inverse : mode_in img ≡ Twoway → one_to_one img ≡ value none → Inverse img
  inverse t h name id =
      let all : All (Paired img) m.puts = rw (made_puts img m) at (yes_paired img h) in (
        λ q.
            let f = first_entry_lem m.puts (Paired img) all name id (sym (finds_first name) ∙ q) in
            ap (name_given img) (sym f.3) ∙ f.1.gives t ∙ ap {B = Option (List ℕ)} some f.2,
        λ q.
            let f = last_entry m.puts (Paired img) all name id (sym (gives_last t id) ∙ q) in
            ap (λ (n : List ℕ). found_id (lookup img n)) (sym f.2) ∙ f.1.finds ∙ ap {B = Option ℕ} some f.3,
      )

  -- an entry that fails finds another id, or gives another name
  module _ (e : Entry) (i : Memᴰ e m.puts) where
    finds_other : is_id (found_id (lookup img e.name)) e.id ≡ false → FindsOther img e
    finds_other h =
        let f = name_first m.puts e i in
        let found = finds_first e.name ∙ f.1 in
        record {
          other = f.0;
          found = found;
          another = λ q. false_not_true (sym h ∙ id_is (found_id (lookup img e.name)) e.id (found ∙ ap {B = Option ℕ} some q));
        }

    gives_other : is_id (found_id (lookup img e.name)) e.id ≡ true
        → asked (mode_in img) (is_name (name_given img e.id) e.name) ≡ false → GivesOther img e
    gives_other f h = other_in (mode_in img) refl h
      where
        other_in : (mode : Mode) → mode_in img ≡ mode → asked mode (is_name (name_given img e.id) e.name) ≡ false → GivesOther img e
        other_in Twoway t n =
            let g = id_last m.puts e i in
            let given = gives_last t e.id ∙ g.1 in
            record {
              finds = is_id_lem (found_id (lookup img e.name)) e.id f;
              two_way_lem = t;
              other = g.0;
              given = given;
              another = λ q. false_not_true (sym n ∙ name_is (name_given img e.id) e.name (given ∙ ap {B = Option (List ℕ)} some q));
            }
        other_in Oneway t n = absurd (false_not_true (sym n))

    pub fails : (k : ℕ) → kind_in img e ≡ k → ¬ (k ≡ 0) → Fails img k e
    unfolding kind_in
    fails k h n =
        fails_by (is_id (found_id (lookup img e.name)) e.id) refl (asked (mode_in img) (is_name (name_given img e.id) e.name)) refl h
      where
        fails_by : (f : Bool) → is_id (found_id (lookup img e.name)) e.id ≡ f
            → (g : Bool) → asked (mode_in img) (is_name (name_given img e.id) e.name) ≡ g → kind_of f g ≡ k → Fails img k e
        fails_by true p true q h = absurd (n (sym h))
        fails_by true p false q h = inr (sym h, gives_other p q)
        fails_by false p g q h = inl (sym h, finds_other p)

-- and one that finds another id, or gives another name, fails
pub kind_fails : (img : List ℕ) (k : ℕ) (e : Entry) → Fails img k e → (kind_in img e ≡ k) × ¬ (k ≡ 0)
unfolding kind_in
kind_fails img k e (inl (z, f)) =
    let no_id = ap (λ (o : Option ℕ). is_id o e.id) f.found ∙ ne_eqb f.other e.id f.another in
    (ap (λ (b : Bool). kind_of b (asked (mode_in img) (is_name (name_given img e.id) e.name))) no_id ∙ sym z, λ q. omega arith)
kind_fails img k e (inr (z, g)) =
    let own = id_is (found_id (lookup img e.name)) e.id g.finds in
    let no_name =
    ap₂ (λ (x : Mode) (o : Option (List ℕ)). asked x (is_name o e.name)) g.two_way_lem g.given
    ∙ same_false g.other e.name g.another in
    (ap₂ kind_of own no_name ∙ sym z, λ q. omega arith)
