-- The examples that the amounts open with, worked out.
use mathlib.Core.Path.{◌≡◌, refl}
use mathlib.Core.Bool.{true, false}
use Rattle.text.specs.Quoted.{bytes}
use Rattle.forms.specs.Shape.{all_digits, digits}
use Rattle.forms.specs.Amount.{cents, pointed, leading_zero, amount}

pub example_amounts : (cents (bytes "12.50") ≡ 1250) × (cents (bytes "0.01") ≡ 1) × (cents (bytes "999999.99") ≡ 99999999)
unfolding cents
example_amounts = (refl, refl, refl)

pub example_none : (pointed (bytes "0.00") ≡ true) × (cents (bytes "0.00") ≡ 0) × (amount (bytes "0.00") ≡ false)
    × (pointed (bytes "01.00") ≡ true) × (leading_zero (bytes "01.00") ≡ true) × (amount (bytes "01.00") ≡ false)
unfolding all_digits digits cents pointed leading_zero amount
example_none = (refl, refl, refl, refl, refl, refl)
