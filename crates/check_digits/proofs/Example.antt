-- The example that the identcodes open with, worked out.
use mathlib.Core.Path.{◌≡◌, refl}
use Rattle.text.specs.Quoted.{byte, bytes}
use Rattle.check_characters.specs.Symbol.{value_of, symbol_of}
use Rattle.check_digits.specs.Identcode.{weight_at, weighed, check_digit, check_digit_of}

pub example_identcode : (weighed (bytes "854637900327598186342") ≡ 204) × (check_digit_of (bytes "854637900327598186342") ≡ byte "6")
unfolding value_of symbol_of weight_at check_digit
example_identcode = (refl, refl)
