-- What each call for C and Rust leaves: the number that it returns, the numbers behind the pointers, and the lent buffers.
use Rattle.std.specs.Prelude.{ℕ, ◌≡◌, List, length, Result}
use Rattle.refusal.specs.Table.{Verdict, number_told, place_told, verdict_on}
use Rattle.check_characters.specs.Answer.{issued_to}
use Rattle.check_characters.specs.Mod37.{check_of}
use Rattle.check_characters.specs.Number.{issue_answer, checked_number}
use Rattle.check_characters.specs.Day.{day_answer, answers_after}
use Rattle.check_characters.specs.Wedge.{next_carry}
use Rattle.check_characters.specs.Iban.{checked_iban}
use Rattle.check_digits.specs.Identcode.{check_digit_of, checked_identcode, parts_answer, issue_identcode_answer}
use Rattle.line.specs.Line.{read_answer}
use Rattle.line.specs.Find.{find_answer}
use Rattle.file.specs.Lent.{Lent}
use Rattle.file.specs.File.{judged, list_of}
use Rattle.writer.specs.Write.{record_numbered, between, write_answer, written_to}
use Rattle.purpose.specs.Purpose.{purpose_answer, purpose_of, list_after, output_after}
use Rattle.peliranopi.specs.Told.{lines_told, parcels_told, cents_told, record_told, count_told, next_told, start_told, length_told}
use Rattle.peliranopi.specs.Told.{value_told, kind_told, parts_told}
use Rattle.refusal.specs.declared.Refusal.{Refusal}

-- what every call tells: its number, and the place
abbrev pub Tells : Verdict → ℕ → ℕ → Type 0
Tells verdict number place = (number ≡ number_told verdict) × (place ≡ place_told verdict)

-- judging a file with what is lent
abbrev pub JudgeTells : List ℕ → Lent → ℕ → ℕ → ℕ → ℕ → ℕ → List ℕ → Type 0
JudgeTells file lent number lines parcels cents place list =
    let said = judged file lent in
    Tells (verdict_on said.answer) number place
    × (lines ≡ lines_told said.answer) × (parcels ≡ parcels_told said.answer) × (cents ≡ cents_told said.answer)
    × (list ≡ list_of lent.words said.starts)

-- reading the line at an offset, told a version
abbrev pub LineTells : ℕ → List ℕ → ℕ → ℕ → ℕ → ℕ → ℕ → ℕ → Type 0
LineTells version file offset number kind fields next place =
    let answer = read_answer version file offset in
    Tells (verdict_on answer) number place
    × (kind ≡ record_told answer) × (fields ≡ count_told answer) × (next ≡ next_told answer)

-- finding a field of it
abbrev pub FieldTells : ℕ → List ℕ → ℕ → ℕ → ℕ → ℕ → ℕ → ℕ → Type 0
FieldTells version file offset field number start long place =
    let answer = find_answer version file offset field in
    Tells (verdict_on answer) number place × (start ≡ start_told answer) × (long ≡ length_told answer)

-- writing a line into an output from its fill on, told a version
abbrev pub WriteTells : ℕ → ℕ → List ℕ → List ℕ → List ℕ → ℕ → ℕ → ℕ → ℕ → List ℕ → Type 0
WriteTells version kind text ends output fill number bytes place after =
    let answer = write_answer version kind text ends (length output) fill in
    Tells (verdict_on answer) number place
    × (bytes ≡ value_told answer)
    × (after ≡ written_to answer (record_numbered kind) (between text ends) output fill)

-- writing the purpose of the line with a number, with what is lent
abbrev pub PurposeTells : List ℕ → ℕ → Lent → List ℕ → ℕ → ℕ → ℕ → List ℕ → List ℕ → Type 0
PurposeTells file line lent output number bytes place list after =
    let answer = purpose_answer file line lent (length output) in
    Tells (verdict_on answer) number place
    × (bytes ≡ value_told answer)
    × (list ≡ list_after answer lent.words (judged file lent).starts)
    × (after ≡ output_after answer (purpose_of file line lent) output)

-- checking a number
abbrev pub NumberTells : List ℕ → ℕ → ℕ → ℕ → Type 0
NumberTells symbols number kind place =
    let answer = checked_number symbols in
    Tells (verdict_on answer) number place × (kind ≡ kind_told answer)

-- checking a day's numbers
abbrev pub DayTells : List ℕ → List ℕ → ℕ → ℕ → ℕ → List ℕ → Type 0
DayTells numbers answers number passed place after =
    let answer = day_answer numbers (length answers) in
    Tells (verdict_on answer) number place × (passed ≡ value_told answer) × (after ≡ answers_after answer numbers answers)

-- issuing a number with its check: what the answer tells, and the output then
abbrev pub IssuedTells : Result ℕ Refusal → List ℕ → ℕ → List ℕ → ℕ → ℕ → ℕ → List ℕ → Type 0
IssuedTells answer body check output number bytes place after =
    Tells (verdict_on answer) number place × (bytes ≡ value_told answer) × (after ≡ issued_to answer body check output)

abbrev pub IssueTells : List ℕ → List ℕ → ℕ → ℕ → ℕ → List ℕ → Type 0
IssueTells body output number bytes place after =
    IssuedTells (issue_answer body (length output)) body (check_of body) output number bytes place after

-- the carry after one more symbol
abbrev pub CarryTells : ℕ → ℕ → ℕ → ℕ → ℕ → Type 0
CarryTells carry key number next place =
    let answer = next_carry carry key in
    Tells (verdict_on answer) number place × (next ≡ value_told answer)

-- checking an IBAN
abbrev pub IbanTells : List ℕ → ℕ → ℕ → Type 0
IbanTells symbols number place = Tells (verdict_on (checked_iban symbols)) number place

-- checking an identcode
abbrev pub IdentcodeTells : List ℕ → ℕ → ℕ → Type 0
IdentcodeTells code number place = Tells (verdict_on (checked_identcode code)) number place

-- reading its parts
abbrev pub PartsTells : List ℕ → ℕ → List ℕ → ℕ → Type 0
PartsTells code number parts place =
    let answer = parts_answer code in
    Tells (verdict_on answer) number place × (parts ≡ parts_told answer)

-- issuing one
abbrev pub IssueIdentcodeTells : List ℕ → List ℕ → ℕ → ℕ → ℕ → List ℕ → Type 0
IssueIdentcodeTells body output number bytes place after =
    IssuedTells (issue_identcode_answer body (length output)) body (check_digit_of body) output number bytes place after
