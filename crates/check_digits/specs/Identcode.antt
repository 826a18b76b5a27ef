-- Identcodes, the Post's codes of its parcels (document 02, request 2): what stands where in one, its check digit, and what checking
-- one, reading its parts and issuing one answer. Section 4.1 of document 000 gives the parts and their widths, and its
-- 4.1.6 decides on the check digit; both are quoted by their English edition, document 002.
--
-- The section's example has the digits 854637900327598186342. Weighed they make 204, which leaves 4 by 10: the check digit is 6
-- (`example_identcode`), and 8546379003275981863426 passes. In its parts it is
--
--     85 46379 00327598 18 6342 6
--
-- With the check digit 7 it is refused by 18 at 21, with a letter by 17 at that letter, and without its check digit by 16 at 0.
use Rattle.std.specs.Prelude.{ℕ, suc, ◌+◌, ◌-◌, ◌*◌, ◌%◌, ◌≡◌, Bool, not, List, [], ◌∷◌, eqb, ltb, length, get_or, take, if◌then◌else◌, ⊤, Result, Ok, Err}
use Rattle.text.specs.Byte.{digit}
use Rattle.text.specs.Scan.{first_failing}
use Rattle.refusal.specs.declared.Reason.TheVariants.{WrongLength, WrongSymbol, WrongCheck}
use Rattle.refusal.specs.Table.{because}
use Rattle.check_characters.specs.Symbol.{value_of, symbol_of}
use Rattle.check_characters.specs.Answer.{room_for, issued_to}
use Rattle.check_digits.specs.declared.identcode.Part.{Part}
use Rattle.check_digits.specs.declared.identcode.Parts.{Parts}
use Rattle.refusal.specs.declared.Refusal.{Refusal}

-- "Position: 3-7": from one place of the code to another, both counted from 1; our places are counted from 0
abbrev pub position : ℕ → ℕ → Part
position first last = record { start = first - 1; length = last + 1 - first }

-- sections 4.1.1 to 4.1.6: what stands where
abbrev pub parts : Parts
parts =
    record {
      -- "Origin Country / Partner ID. Position: 1-2 (N2)"
      origin = position 1 2;
      -- "Customer Reference Number. Position: 3-7 (N5)"
      customer = position 3 7;
      -- "Sequential Number. Position: 8-15 (N8)"
      sequence = position 8 15;
      -- "Product-Process-Code (PPC). Position: 16-17 (N2)"
      product = position 16 17;
      -- "Destination - postal code - or country (if not AT). Position: 18-21 (N4)"
      destination = position 18 21;
      -- "Checksum [..]. Position: 22 (N1)"
      check = position 22 22;
    }

-- "N": a digit stands at every place
abbrev pub allowed_in_identcode : ℕ → ℕ → Bool
allowed_in_identcode i b = digit b

-- the place of the first symbol that is none
abbrev pub wrong_in_identcode : List ℕ → ℕ
wrong_in_identcode code = first_failing allowed_in_identcode 0 code

-- "The weighting factor 3,1,3,1 [..] starting with 3 [..] from left to right": the weight at the place i
unfoldable pub weight_at : ℕ → ℕ
weight_at i = if eqb (i % 2) 0 then 3 else 1

-- "The numbers are multiplied by the corresponding weighting. Then the sum is calculated", where the first stands at the place i
abbrev pub weighed_from : ℕ → List ℕ → ℕ
weighed_from i [] = 0
weighed_from i (b ∷ s) = weight_at i * value_of b + weighed_from (suc i) s

abbrev pub weighed : List ℕ → ℕ
weighed digits = weighed_from 0 digits

-- "and divided by 10. The remainder of this division is subtracted from 10. [..] (If the remainder is 0, the checksum is 0)"
unfoldable pub check_digit : ℕ → ℕ
check_digit sum = if eqb (sum % 10) 0 then symbol_of 0 else symbol_of (10 - sum % 10)

-- "All 21 digits are used to calculate the checksum."
abbrev pub check_digit_of : List ℕ → ℕ
check_digit_of body = check_digit (weighed body)

-- a code passes: its last digit is the check digit of those in front of it
unfoldable pub passes : List ℕ → Bool
passes code = eqb (get_or code (length code - 1) 0) (check_digit_of (take (length code - 1) code))

-- "alone 16, 17, 18 as for DPD numbers, 18 at the last digit"
unfoldable pub checked_identcode : List ℕ → Result ⊤ Refusal
checked_identcode code =
    if not (eqb (length code) 22) then Err (because WrongLength 0)
    else if ltb (wrong_in_identcode code) (length code) then Err (because WrongSymbol (wrong_in_identcode code))
    else if passes code then Ok tt
    else Err (because WrongCheck (length code - 1))

-- "Offer the parts to callers": those of a code that passes
abbrev pub parts_where : Result ⊤ Refusal → Result Parts Refusal
parts_where (Ok _) = Ok parts
parts_where (Err refusal) = Err refusal

unfoldable pub parts_answer : List ℕ → Result Parts Refusal
parts_answer code = parts_where (checked_identcode code)

-- "issuing 16, 17, 13", with so many bytes of output
unfoldable pub issue_identcode_answer : List ℕ → ℕ → Result ℕ Refusal
issue_identcode_answer body room =
    if not (eqb (length body) 21) then Err (because WrongLength 0)
    else if ltb (wrong_in_identcode body) (length body) then Err (because WrongSymbol (wrong_in_identcode body))
    else room_for 22 room

-- the answer and the output that issuing allows
abbrev pub IssuesIdentcode : List ℕ → List ℕ → Result ℕ Refusal → List ℕ → Type 0
IssuesIdentcode body output answer after =
    (answer ≡ issue_identcode_answer body (length output)) × (after ≡ issued_to answer body (check_digit_of body) output)
