-- IBANs, account numbers by ISO 13616 (document 01, 'Check characters'): the number that one stands for, and what checking one answers.
--
-- AT611904300234573201 stands for 1904300234573201102961: the account, then `A` as 10, `T` as 29, and 61. Its remainder by 97 is 1, and
-- it passes. AT161904300234573201 stands for 1904300234573201102916, which leaves 53: it is refused by 18 at 2 (`example_iban`).
use Rattle.std.specs.Prelude.{ℕ, ◌+◌, ◌*◌, ◌/◌, ◌%◌, Bool, not, ◌&&◌, ◌||◌, List, [], ◌∷◌, ◌++◌, eqb, ltb, leb, length, get_or, take, drop, ⊤, Result, Ok, Err}
use Rattle.std.specs.Prelude.{if◌then◌else◌}
use Rattle.text.specs.Byte.{digit, capital, symbol}
use Rattle.text.specs.Decimal.{number_from}
use Rattle.text.specs.Scan.{first_failing}
use Rattle.refusal.specs.declared.Reason.TheVariants.{WrongLength, WrongSymbol, WrongCheck}
use Rattle.refusal.specs.Table.{because}
use Rattle.check_characters.specs.Symbol.{value_of}
use Rattle.refusal.specs.declared.Refusal.{Refusal}

-- "two capitals, two digits, then capitals or digits"
unfoldable pub allowed_in_iban : ℕ → ℕ → Bool
allowed_in_iban i b = if ltb i 2 then capital b else if ltb i 4 then digit b else symbol b

-- the place of the first symbol that is not allowed where it stands
abbrev pub wrong_in_iban : List ℕ → ℕ
wrong_in_iban symbols = first_failing allowed_in_iban 0 symbols

-- "letters become two digits"
unfoldable pub digits_of : ℕ → List ℕ
digits_of b = if capital b then (value_of b / 10) ∷ (value_of b % 10) ∷ [] else value_of b ∷ []

abbrev pub spread : List ℕ → List ℕ
spread [] = []
spread (b ∷ s) = digits_of b ++ spread s

-- the number that digits write behind digits that write a, each worth itself
abbrev pub decimal_from : ℕ → List ℕ → ℕ
decimal_from a s = number_from (λ d. d) a s

-- "The first four move to the end"
abbrev pub moved : List ℕ → List ℕ
moved symbols = drop 4 symbols ++ take 4 symbols

abbrev pub iban_number : List ℕ → ℕ
iban_number symbols = decimal_from 0 (spread (moved symbols))

-- the check digits as a number
abbrev pub check_digits : List ℕ → ℕ
check_digits symbols = 10 * value_of (get_or symbols 2 0) + value_of (get_or symbols 3 0)

-- "Check digits 00, 01 and 99 are 18."
unfoldable pub barred : ℕ → Bool
barred digits = eqb digits 0 || eqb digits 1 || eqb digits 99

-- "the remainder by 97 is 1"
unfoldable pub sound_of : List ℕ → Bool
sound_of symbols = not (barred (check_digits symbols)) && eqb (iban_number symbols % 97) 1

-- "IBAN: 15 to 34 long", and "the order 16, 17, 18"
unfoldable pub checked_iban : List ℕ → Result ⊤ Refusal
checked_iban symbols =
    if not (leb 15 (length symbols) && leb (length symbols) 34) then Err (because WrongLength 0)
    else if ltb (wrong_in_iban symbols) (length symbols) then Err (because WrongSymbol (wrong_in_iban symbols))
    else if sound_of symbols then Ok tt
    else Err (because WrongCheck 2)
