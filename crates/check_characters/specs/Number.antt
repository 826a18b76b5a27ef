-- DPD numbers (document 01, 'Check characters'): what checking and issuing one answer. The carrier lays down what stands where in
-- them (document 001); the last symbol is a check character by ISO/IEC 7064, MOD 37,36.
--
-- The label code 0002800099800000200371550566 is 7 symbols, 14 digits, 3 digits of service, 3 of country and a check:
--
--     0002800 09980000020037 155 056 6
--
-- The carry of all but the check is 31 (`example_label`), and 31 + 6 leaves 1 modulo 36: it passes. With the check 7 it is refused by
-- 18 at 27, with a small letter by 17 at that letter, and without its check by 16 at 0. src/number.rt has the carries of a tracking
-- number, symbol by symbol (`example_tracking`).
use Rattle.std.specs.Prelude.{ℕ, ◌-◌, ◌≡◌, Bool, false, List, [], ◌∷◌, ◌++◌, eqb, ltb, length, get_or, replicate, if◌then◌else◌, Result, Ok, Err}
use Rattle.text.specs.Byte.{digit, symbol}
use Rattle.text.specs.Scan.{first_failing}
use Rattle.refusal.specs.declared.Reason.TheVariants.{WrongLength, WrongSymbol, WrongCheck}
use Rattle.refusal.specs.Table.{because}
use Rattle.check_characters.specs.Mod37.{passes, check_of}
use Rattle.check_characters.specs.Answer.{room_for, issued_to}
use Rattle.check_characters.specs.declared.number.Kind.{Kind}
use Rattle.check_characters.specs.declared.number.Kind.TheVariants.{Tracking, Label}
use Rattle.refusal.specs.declared.Refusal.{Refusal}

-- "Tracking number: 14 digits and a check. Label code: 7 symbols (A-Z, 0-9), 14 digits, 3 digits of service, 3 of country, a
-- check, 28 in all. A check is A-Z or 0-9."
unfoldable pub shape_of : Kind → List (ℕ → Bool)
shape_of Tracking = replicate 14 digit ++ (symbol ∷ [])
shape_of Label = replicate 7 symbol ++ replicate 14 digit ++ replicate 3 digit ++ replicate 3 digit ++ (symbol ∷ [])

-- "the length (15 or 28) telling the kind"
abbrev pub length_of : Kind → ℕ
length_of Tracking = 15
length_of Label = 28

-- whether a byte may stand at the place i of a number
unfoldable pub allowed_in_number : Kind → ℕ → ℕ → Bool
allowed_in_number kind i b = get_or (shape_of kind) i (λ _. false) b

-- the place of the first symbol that is not allowed where it stands
abbrev pub wrong_in_number : Kind → List ℕ → ℕ
wrong_in_number kind symbols = first_failing (allowed_in_number kind) 0 symbols

-- "Checking a number or an IBAN refuses in the order 16, 17, 18."
unfoldable pub checked_as : Kind → List ℕ → Result Kind Refusal
checked_as kind symbols =
    if ltb (wrong_in_number kind symbols) (length symbols) then Err (because WrongSymbol (wrong_in_number kind symbols))
    else if passes symbols then Ok kind
    else Err (because WrongCheck (length symbols - 1))

unfoldable pub checked_number : List ℕ → Result Kind Refusal
checked_number symbols =
    if eqb (length symbols) (length_of Tracking) then checked_as Tracking symbols
    else if eqb (length symbols) (length_of Label) then checked_as Label symbols
    else Err (because WrongLength 0)

-- "Issuing takes 14 or 27 symbols: 16, 17, then 13", with so many bytes of output
unfoldable pub issue_as : Kind → List ℕ → ℕ → Result ℕ Refusal
issue_as kind body room =
    if ltb (wrong_in_number kind body) (length body) then Err (because WrongSymbol (wrong_in_number kind body))
    else room_for (length_of kind) room

unfoldable pub issue_answer : List ℕ → ℕ → Result ℕ Refusal
issue_answer body room =
    if eqb (length body) 14 then issue_as Tracking body room
    else if eqb (length body) 27 then issue_as Label body room
    else Err (because WrongLength 0)

-- the answer and the output that issuing allows
abbrev pub Issues : List ℕ → List ℕ → Result ℕ Refusal → List ℕ → Type 0
Issues body output answer after = (answer ≡ issue_answer body (length output)) × (after ≡ issued_to answer body (check_of body) output)
