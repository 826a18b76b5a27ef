-- ISO/IEC 7064, MOD 37,36 (document 01, 'Check characters').
use Rattle.std.specs.Prelude.{ℕ, zero, suc, ◌+◌, ◌-◌, ◌*◌, ◌%◌, Bool, List, [], ◌∷◌, eqb, length, take, get_or, if◌then◌else◌}
use Rattle.check_characters.specs.Symbol.{value_of, symbol_of}

-- "0 read as 36"
abbrev pub thirty_six_for0 : ℕ → ℕ
thirty_six_for0 n = if eqb n 0 then 36 else n

-- "For each symbol add its value, reduce modulo 36 with 0 read as 36, double, reduce modulo 37."
unfoldable pub step : ℕ → ℕ → ℕ
step carry value = 2 * thirty_six_for0 ((carry + value) % 36) % 37

abbrev pub carry_from : ℕ → List ℕ → ℕ
carry_from carry [] = carry
carry_from carry (b ∷ s) = carry_from (step carry (value_of b)) s

-- "the carry starts at 36"
abbrev pub carry : List ℕ → ℕ
carry symbols = carry_from 36 symbols

-- "carry plus its value leave 1 modulo 36"
abbrev pub closes : ℕ → ℕ → Bool
closes carry value = eqb ((carry + value) % 36) 1

-- a number passes: its last symbol is the check character of those in front of it
unfoldable pub passes : List ℕ → Bool
passes symbols = closes (carry (take (length symbols - 1) symbols)) (value_of (get_or symbols (length symbols - 1) 0))

-- the first value from v on that passes a test, of n values
abbrev pub first_value : (ℕ → Bool) → ℕ → ℕ → ℕ
first_value test v zero = v
first_value test v (suc n) = if test v then v else first_value test (suc v) n

-- "The check character makes carry plus its value leave 1 modulo 36."
unfoldable pub check_of : List ℕ → ℕ
check_of symbols = symbol_of (first_value (closes (carry symbols)) 0 36)
