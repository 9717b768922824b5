-- The derived order of dates is that of the rule. Assumes nothing.
use Rattle.std.proofs.Common.{◌≡◌, ◌<◌, ◌+◌, ◌*◌, ℕ, Bool, true, false, not, nat_lt, sym, ◌∙◌, arith}
use Rattle.std.specs.Ordering.{partial_lt, partial_le}
use Rattle.std.proofs.lemmas.Bool.Decides.{nat_tests}
use borrow.Author.Tests.{not-true, not-false}
use Rattle.validity.specs.Calendar.{earlier}
use Rattle.validity.specs.declared.Date.{Date}
use Rattle.validity.specs.contracts.DatePartialOrd.TheImpl as derived

pub less : (a b : Date) → partial_lt derived.partial_cmp-value.it a b ≡ earlier a b
unfolding earlier
less a b = grind (arith, nat_tests)

pub at_most : (a b : Date) → partial_le derived.partial_cmp-value.it a b ≡ not (earlier b a)
unfolding earlier
at_most a b = grind (arith, nat_tests)

-- by the test's result
module _ (a b : Date) (r : Bool) (e : r ≡ partial_le derived.partial_cmp-value.it a b) where
  pub not_earlier : r ≡ true → earlier b a ≡ false
  not_earlier t = not-true (earlier b a) (sym (e ∙ at_most a b) ∙ t)

  pub is_earlier : r ≡ false → earlier b a ≡ true
  is_earlier f = not-false (earlier b a) (sym (e ∙ at_most a b) ∙ f)

-- a date as one number: its month and its day are below 256
pub by_number : (a b : Date) (m n : ℕ) → a.month < 256 → a.day < 256 → b.month < 256 → b.day < 256
    → m ≡ a.year * 65536 + a.month * 256 + a.day → n ≡ b.year * 65536 + b.month * 256 + b.day → nat_lt m n ≡ earlier a b
unfolding earlier
by_number a b m n am ad bm bd em en = grind (arith, nat_tests, am, ad, bm, bd, em, en)
