-- The examples that the numbers, a day of them, the table of steps, the wedge and the IBANs open with, worked out.
use Prim.Native.Nat.{ℕ, ◌%◌}
use mathlib.Core.Path.{◌≡◌, refl}
use mathlib.Core.List.{List, [], ◌∷◌}
use lib.ListN.{get_or}
use Rattle.text.specs.Quoted.{byte, bytes}
use Rattle.check_characters.specs.Symbol.{value_of, symbol_of}
use Rattle.check_characters.specs.Mod37.{step, carry, passes, check_of}
use Rattle.check_characters.specs.Steps.{steps, entry_for}
use Rattle.check_characters.specs.Wedge.{next_carry, carry_passed}
use Rattle.check_characters.specs.Number.{shape_of, allowed_in_number, checked_as, checked_number}
use Rattle.check_characters.specs.Day.{day_answers, day_answer}
use Rattle.check_characters.specs.Iban.{digits_of, spread, decimal_from, iban_number}
use Rattle.std.specs.Prelude.{Ok}

-- the carry behind each symbol
abbrev carries : ℕ → List ℕ → List ℕ
carries c [] = []
carries c (b ∷ s) = step c (value_of b) ∷ carries (step c (value_of b)) s

pub example_tracking : (carries 36 (bytes "09980000020041") ≡ 35 ∷ 16 ∷ 13 ∷ 5 ∷ 10 ∷ 20 ∷ 3 ∷ 6 ∷ 12 ∷ 28 ∷ 19 ∷ 1 ∷ 10 ∷ 22 ∷ [])
    × (check_of (bytes "09980000020041") ≡ byte "F") × (value_of (byte "F") ≡ 15)
unfolding value_of symbol_of step check_of
example_tracking = (refl, refl, refl)

pub example_entry : (entry_for 36 0 ≡ 1260) × (get_or steps 1260 0 ≡ 35)
unfolding step steps
example_entry = (refl, refl)

pub example_keyed : (next_carry 36 (byte "0") ≡ Ok 35) × (next_carry 22 (byte "F") ≡ Ok carry_passed) × (carry (bytes "09980000020041F") ≡ 2)
unfolding value_of step next_carry
example_keyed = (refl, refl, refl)

pub example_label : (carry (bytes "000280009980000020037155056") ≡ 31) × (check_of (bytes "000280009980000020037155056") ≡ byte "6")
unfolding value_of symbol_of step check_of
example_label = (refl, refl)

pub example_day : (day_answers (bytes "09980000020041F09980000020041G0998000002OO41F") ≡ 0 ∷ 18 ∷ 17 ∷ [])
    × (day_answer (bytes "09980000020041F09980000020041G0998000002OO41F") 3 ≡ Ok 1)
unfolding value_of step passes shape_of allowed_in_number checked_as checked_number day_answers day_answer
example_day = (refl, refl)

pub example_iban : (iban_number (bytes "AT611904300234573201") ≡ 1904300234573201102961) × (1904300234573201102961 % 97 ≡ 1)
    × (iban_number (bytes "AT161904300234573201") ≡ 1904300234573201102916) × (1904300234573201102916 % 97 ≡ 53)
unfolding value_of digits_of
example_iban = (refl, refl, refl, refl)

-- the remainder behind each run of symbols
abbrev remainders : ℕ → List (List ℕ) → List ℕ
remainders r [] = []
remainders r (s ∷ runs) = let next = decimal_from r (spread s) % 97 in next ∷ remainders next runs

pub example_walk : (remainders 0 (bytes "1904" ∷ bytes "3002" ∷ bytes "3457" ∷ bytes "3201" ∷ bytes "AT61" ∷ []) ≡ 61 ∷ 59 ∷ 11 ∷ 2 ∷ 1 ∷ [])
    × (remainders 2 (bytes "AT16" ∷ []) ≡ 53 ∷ [])
unfolding value_of digits_of
example_walk = (refl, refl)
