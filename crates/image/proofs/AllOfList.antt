-- What holds of every element of a list. Assumes nothing.
use Rattle.std.proofs.Common.{◌≡◌, Bool, true, false, cond, List, [], ◌∷◌, ◌++◌, map, refl, ap, ◌∙◌}
use Rattle.image.specs.Bytes.{filter}
pub use Rattle.image.specs.Bytes.{Each as All}

pub all_map : {A : Type 0} {P Q : A → Type 0} → ((x : A) → P x → Q x) → (xs : List A) → All P xs → All Q xs
all_map f [] all = tt
all_map f (x ∷ xs) all = (f x all.0, all_map f xs all.1)

pub all_both : {A : Type 0} (P Q : A → Type 0) (xs : List A) → All P xs → All Q xs → All (λ (x : A). P x × Q x) xs
all_both P Q [] p q = tt
all_both P Q (x ∷ xs) p q = ((p.0, q.0), all_both P Q xs p.1 q.1)

-- of two lists, one after the other
pub all_append : {A : Type 0} (P : A → Type 0) (xs ys : List A) → All P xs → All P ys → All P (xs ++ ys)
all_append P [] ys p q = q
all_append P (x ∷ xs) ys p q = (p.0, all_append P xs ys p.1 q)

-- of one among them
pub all_middle : {A : Type 0} (P : A → Type 0) (xs ys : List A) (y : A) → All P (xs ++ y ∷ ys) → P y
all_middle P [] ys y all = all.0
all_middle P (x ∷ xs) ys y all = all_middle P xs ys y all.1

-- of those that pass a test
pub all_filter : {A : Type 0} (P : A → Type 0) (test : A → Bool) (xs : List A) → All P xs → All P (filter test xs)
unfolding filter
all_filter P test [] all = tt
all_filter P test (x ∷ xs) all = all_with_first (test x) (all_filter P test xs all.1)
  where
    all_with_first : (t : Bool) → All P (filter test xs) → All P (cond t (x ∷ filter test xs) (filter test xs))
    all_with_first true rest = (all.0, rest)
    all_with_first false rest = rest

-- of what a function makes of them
pub all_image : {A B : Type 0} {P : A → Type 0} (Q : B → Type 0) (f : A → B) → ((x : A) → P x → Q (f x)) → (xs : List A) → All P xs → All Q (map f xs)
all_image Q f h [] all = tt
all_image Q f h (x ∷ xs) all = (h x all.0, all_image Q f h xs all.1)

-- functions that agree on every element
pub map_ext : {A B : Type 0} {P : A → Type 0} (f g : A → B) → ((x : A) → P x → f x ≡ g x) → (xs : List A) → All P xs → map f xs ≡ map g xs
map_ext f g h [] all = refl
map_ext {B} f g h (x ∷ xs) all =
    ap (λ (y : B). y ∷ map f xs) (h x all.0) ∙ ap (λ (ys : List B). g x ∷ ys) (map_ext f g h xs all.1)
