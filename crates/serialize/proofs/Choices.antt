-- What holds of a choice by a truth value. Assumes nothing.
use Rattle.std.proofs.Common.{◌≡◌, Bool, true, false, cond, refl}

-- what holds of both branches
pub cond_holds : {A : Type 0} (P : A → Type 0) (b : Bool) {x y : A} → P x → P y → P (cond b x y)
cond_holds P true p q = p
cond_holds P false p q = q

-- a test that is false where it is true is false
pub never_true : (b : Bool) → (b ≡ true → b ≡ false) → b ≡ false
never_true true h = h refl
never_true false h = refl
