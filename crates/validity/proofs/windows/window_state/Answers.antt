-- `validity::windows::window_state` meets its contract. Assumes nothing.
use Rattle.std.proofs.Common.{◌≡◌, refl, ◌∙◌, rules}
use Rattle.std.proofs.lemmas.Iterator.{YieldsList-from_slice}
use Rattle.std.proofs.lemmas.Iterator.Consumers.{fold_from_yields_List}
use Rattle.validity.specs.Steps.Fold.{one_window_state, stepped, stronger}
use Rattle.validity.specs.declared.WindowState.TheVariants.{Inactive, Active, Inverted, InvalidDate}
use Rattle.std.specs.Ordering.{ord_max}
use Rattle.validity.specs.declared.WindowState.{WindowState}
use Rattle.validity.specs.contracts.WindowStateOrd.TheImpl as derived
use Rattle.validity.proofs.WindowLaws.{folds}
use Rattle.validity.proofs.windows.window_state.Goals as goal

strongest : (s t : WindowState) → ord_max derived.cmp-value.it s t ≡ stronger s t
strongest Inactive Inactive = refl
strongest Inactive Active = refl
strongest Inactive Inverted = refl
strongest Inactive InvalidDate = refl
strongest Active Inactive = refl
strongest Active Active = refl
strongest Active Inverted = refl
strongest Active InvalidDate = refl
strongest Inverted Inactive = refl
strongest Inverted Active = refl
strongest Inverted Inverted = refl
strongest Inverted InvalidDate = refl
strongest InvalidDate Inactive = refl
strongest InvalidDate Active = refl
strongest InvalidDate Inverted = refl
strongest InvalidDate InvalidDate = refl

pub returns : goal.returns
returns c =
    let a = c.args in
    fold_from_yields_List _ (stepped a.id a.date) Inactive c.fold.result c.fold.ensures.ran (YieldsList-from_slice a.windows.now cc)
    (λ s w t q h.
    let m : t ≡ ord_max derived.cmp-value.it s (one_window_state a.id a.date w.now) = search rules in (search rules, m ∙ strongest s _))
    ∙ folds a.id a.date a.windows.now
