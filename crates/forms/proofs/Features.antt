-- A feature code has so few digits that its number fits.
use Prim.Native.Nat.{ℕ, ◌≤◌}
use mathlib.Core.Path.{◌≡◌}
use mathlib.Core.Bool.{true}
use mathlib.Core.List.{List}
use native.Mathlib.Omega.{arith}
use lib.ListN.{length}
use Rattle.text.specs.Decimal.{number}
use Rattle.text.specs.Scan.{among}
use Rattle.text.proofs.Choices.{and_left}
use Rattle.forms.specs.Shape.{digits}
use Rattle.forms.specs.Feature.{feature_codes, is_feature}
use Rattle.forms.proofs.Shapes.{digits_parts}

module _ (s : List ℕ) where
  pub few_digits : (n : ℕ) → n ≤ 6 → digits n s ≡ true → length s ≤ 6
  few_digits n h e = omega (arith, (digits_parts n s e).0)

  pub code_digits : is_feature s ≡ true → length s ≤ 6
  unfolding is_feature
  code_digits e = few_digits 3 (omega arith) (and_left (digits 3 s) (among (number s) feature_codes) e)

pub ruleset number_fits = (few_digits, code_digits)
