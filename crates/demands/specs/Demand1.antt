-- Demand 1: "Each entry point takes every input, of every length, ends, and never reads or writes outside the buffers lent to
-- it." That is what the checker shows of every function, and no entry point has a `requires`. "It refuses by the numbers in our
-- table, at the first place the table's order gives, and what each buffer then holds is fixed": of each entry point, two outcomes
-- that its contract allows are equal.
use Rattle.std.specs.Prelude.{ℕ, ◌+◌, ◌≡◌, List, length, replicate, ⊤, Result}
use Rattle.text.specs.Placed.{placed}
use Rattle.check_characters.specs.Answer.{room_for, issued_to}
use Rattle.check_characters.specs.Number.{Issues, checked_number}
use Rattle.check_characters.specs.Day.{ChecksDay}
use Rattle.check_characters.specs.Wedge.{next_carry}
use Rattle.check_characters.specs.Iban.{checked_iban}
use Rattle.check_digits.specs.Identcode.{checked_identcode, parts_answer, IssuesIdentcode}
use Rattle.identcodes.specs.Tree.{Finds}
use Rattle.identcodes.specs.declared.CodeAnswer.{CodeAnswer}
use Rattle.fields.specs.Profile.{profile}
use Rattle.fields.specs.Field.{tested}
use Rattle.records.specs.declared.version.Version.{Version}
use Rattle.records.specs.declared.record.Record.{Record}
use Rattle.line.specs.Line.{read_answer}
use Rattle.line.specs.Find.{find_answer}
use Rattle.file.specs.Lent.{Lent}
use Rattle.file.specs.File.{Judges}
use Rattle.writer.specs.Write.{Writes}
use Rattle.purpose.specs.Purpose.{Purposes}
use Rattle.peliranopi.specs.Calls.{JudgeTells, LineTells, FieldTells, WriteTells, PurposeTells, NumberTells, IssueTells, IbanTells}
use Rattle.peliranopi.specs.Calls.{DayTells, CarryTells, IdentcodeTells, PartsTells, IssueIdentcodeTells}
use Rattle.check_characters.specs.declared.number.Kind.{Kind}
use Rattle.check_digits.specs.declared.identcode.Parts.{Parts}
use Rattle.line.specs.declared.read.Line.{Line}
use Rattle.line.specs.declared.find.Span.{Span}
use Rattle.file.specs.declared.whole.Totals.{Totals}
use Rattle.refusal.specs.declared.Refusal.{Refusal}
use Rattle.refusal.specs.declared.Reason.{Reason}

-- A contract `answer ≡ definition of the inputs` leaves one answer. That is the contract of every public function but those that
-- write into a buffer, which have relations of their own (`Issues`, `Judges` and so on).
abbrev pub CheckNumberUnique : Type 0
CheckNumberUnique =
    (symbols : List ℕ) (a b : Result Kind Refusal) → a ≡ checked_number symbols → b ≡ checked_number symbols → a ≡ b

abbrev pub CheckNumbersUnique : Type 0
CheckNumbersUnique =
    (numbers answers : List ℕ) (a b : Result ℕ Refusal) (x y : List ℕ) → ChecksDay numbers answers a x → ChecksDay numbers answers b y →
    (a ≡ b) × (x ≡ y)

abbrev pub IssueNumberUnique : Type 0
IssueNumberUnique =
    (body output : List ℕ) (a b : Result ℕ Refusal) (x y : List ℕ) → Issues body output a x → Issues body output b y →
    (a ≡ b) × (x ≡ y)

abbrev pub NextCarryUnique : Type 0
NextCarryUnique =
    (carry key : ℕ) (a b : Result ℕ Refusal) → a ≡ next_carry carry key → b ≡ next_carry carry key → a ≡ b

abbrev pub CheckIbanUnique : Type 0
CheckIbanUnique =
    (symbols : List ℕ) (a b : Result ⊤ Refusal) → a ≡ checked_iban symbols → b ≡ checked_iban symbols → a ≡ b

abbrev pub CheckIdentcodeUnique : Type 0
CheckIdentcodeUnique =
    (code : List ℕ) (a b : Result ⊤ Refusal) → a ≡ checked_identcode code → b ≡ checked_identcode code → a ≡ b

abbrev pub ReadIdentcodeUnique : Type 0
ReadIdentcodeUnique =
    (code : List ℕ) (a b : Result Parts Refusal) → a ≡ parts_answer code → b ≡ parts_answer code → a ≡ b

abbrev pub IssueIdentcodeUnique : Type 0
IssueIdentcodeUnique =
    (body output : List ℕ) (a b : Result ℕ Refusal) (x y : List ℕ) → IssuesIdentcode body output a x → IssuesIdentcode body output b y →
    (a ≡ b) × (x ≡ y)

abbrev pub ReadLineUnique : Type 0
ReadLineUnique =
    (told : ℕ) (file : List ℕ) (offset : ℕ) (a b : Result Line Refusal) → a ≡ read_answer told file offset → b ≡ read_answer told file offset → a ≡ b

abbrev pub FindFieldUnique : Type 0
FindFieldUnique =
    (told : ℕ) (file : List ℕ) (offset n : ℕ) (a b : Result Span Refusal) → a ≡ find_answer told file offset n → b ≡ find_answer told file offset n → a ≡ b

abbrev pub TestFieldUnique : Type 0
TestFieldUnique =
    (version : Version) (kind : Record) (n : ℕ) (beside f : List ℕ) (a b : Result ⊤ Reason) → a ≡ tested (profile version kind) n beside f →
    b ≡ tested (profile version kind) n beside f → a ≡ b

abbrev pub JudgeUnique : Type 0
JudgeUnique =
    (file : List ℕ) (lent : Lent) (a b : Result Totals Refusal) (x y : List ℕ) → Judges file lent a x → Judges file lent b y → (a ≡ b) × (x ≡ y)

-- a run placed in an output
abbrev pub PlaceUnique : Type 0
PlaceUnique =
    (output : List ℕ) (place : ℕ) (run x y : List ℕ) → x ≡ placed output place run → y ≡ placed output place run → x ≡ y

-- a number written with its check, whatever it is
abbrev pub IssueUnique : Type 0
IssueUnique =
    (body : List ℕ) (check : ℕ) (output : List ℕ) (a b : Result ℕ Refusal) (x y : List ℕ) →
    (a ≡ room_for (length body + 1) (length output)) × (x ≡ issued_to a body check output) →
    (b ≡ room_for (length body + 1) (length output)) × (y ≡ issued_to b body check output) → (a ≡ b) × (x ≡ y)

-- an identcode looked for, and the tree then
abbrev pub FindOrGrowUnique : Type 0
FindOrGrowUnique =
    (file tree : List ℕ) (parcels offset : ℕ) (a b : CodeAnswer) (x y : List ℕ) →
    Finds file tree parcels offset a x → Finds file tree parcels offset b y → (a ≡ b) × (x ≡ y)

-- a list cleared
abbrev pub ClearUnique : Type 0
ClearUnique =
    (words x y : List ℕ) → x ≡ replicate (length words) 0 → y ≡ replicate (length words) 0 → x ≡ y

abbrev pub WriteLineUnique : Type 0
WriteLineUnique =
    (told number : ℕ) (text ends output : List ℕ) (fill : ℕ) (a b : Result ℕ Refusal) (x y : List ℕ) →
    Writes told number text ends output fill a x → Writes told number text ends output fill b y → (a ≡ b) × (x ≡ y)

abbrev pub WritePurposeUnique : Type 0
WritePurposeUnique =
    (file : List ℕ) (n : ℕ) (lent : Lent) (output : List ℕ) (a b : Result ℕ Refusal) (list list₂ x y : List ℕ) →
    Purposes file n lent output a list x → Purposes file n lent output b list₂ y → (a ≡ b) × (list ≡ list₂) × (x ≡ y)

-- The same calls for C and Rust (crate peliranopi): the number returned, each number behind a pointer, each lent buffer.
abbrev pub JudgeCallUnique : Type 0
JudgeCallUnique =
    (file : List ℕ) (lent : Lent) (n lines parcels cents place n₂ lines₂ parcels₂ cents₂ place₂ : ℕ) (list list₂ : List ℕ) →
    JudgeTells file lent n lines parcels cents place list → JudgeTells file lent n₂ lines₂ parcels₂ cents₂ place₂ list₂ →
    (n ≡ n₂) × (lines ≡ lines₂) × (parcels ≡ parcels₂) × (cents ≡ cents₂) × (place ≡ place₂) × (list ≡ list₂)

abbrev pub ReadLineCallUnique : Type 0
ReadLineCallUnique =
    (told : ℕ) (file : List ℕ) (offset n kind fields next place n₂ kind₂ fields₂ next₂ place₂ : ℕ) →
    LineTells told file offset n kind fields next place → LineTells told file offset n₂ kind₂ fields₂ next₂ place₂ →
    (n ≡ n₂) × (kind ≡ kind₂) × (fields ≡ fields₂) × (next ≡ next₂) × (place ≡ place₂)

abbrev pub FindFieldCallUnique : Type 0
FindFieldCallUnique =
    (told : ℕ) (file : List ℕ) (offset field n start long place n₂ start₂ long₂ place₂ : ℕ) →
    FieldTells told file offset field n start long place → FieldTells told file offset field n₂ start₂ long₂ place₂ →
    (n ≡ n₂) × (start ≡ start₂) × (long ≡ long₂) × (place ≡ place₂)

abbrev pub WriteLineCallUnique : Type 0
WriteLineCallUnique =
    (told kind : ℕ) (text ends output : List ℕ) (fill n bytes place n₂ bytes₂ place₂ : ℕ) (x y : List ℕ) →
    WriteTells told kind text ends output fill n bytes place x → WriteTells told kind text ends output fill n₂ bytes₂ place₂ y →
    (n ≡ n₂) × (bytes ≡ bytes₂) × (place ≡ place₂) × (x ≡ y)

abbrev pub WritePurposeCallUnique : Type 0
WritePurposeCallUnique =
    (file : List ℕ) (line : ℕ) (lent : Lent) (output : List ℕ) (n bytes place n₂ bytes₂ place₂ : ℕ) (list list₂ x y : List ℕ) →
    PurposeTells file line lent output n bytes place list x → PurposeTells file line lent output n₂ bytes₂ place₂ list₂ y →
    (n ≡ n₂) × (bytes ≡ bytes₂) × (place ≡ place₂) × (list ≡ list₂) × (x ≡ y)

abbrev pub CheckNumberCallUnique : Type 0
CheckNumberCallUnique =
    (symbols : List ℕ) (n kind place n₂ kind₂ place₂ : ℕ) → NumberTells symbols n kind place → NumberTells symbols n₂ kind₂ place₂ →
    (n ≡ n₂) × (kind ≡ kind₂) × (place ≡ place₂)

abbrev pub CheckNumbersCallUnique : Type 0
CheckNumbersCallUnique =
    (numbers answers : List ℕ) (n passed place n₂ passed₂ place₂ : ℕ) (x y : List ℕ) → DayTells numbers answers n passed place x →
    DayTells numbers answers n₂ passed₂ place₂ y → (n ≡ n₂) × (passed ≡ passed₂) × (place ≡ place₂) × (x ≡ y)

abbrev pub IssueNumberCallUnique : Type 0
IssueNumberCallUnique =
    (body output : List ℕ) (n bytes place n₂ bytes₂ place₂ : ℕ) (x y : List ℕ) → IssueTells body output n bytes place x →
    IssueTells body output n₂ bytes₂ place₂ y → (n ≡ n₂) × (bytes ≡ bytes₂) × (place ≡ place₂) × (x ≡ y)

abbrev pub NextCarryCallUnique : Type 0
NextCarryCallUnique =
    (carry key n next place n₂ next₂ place₂ : ℕ) → CarryTells carry key n next place → CarryTells carry key n₂ next₂ place₂ →
    (n ≡ n₂) × (next ≡ next₂) × (place ≡ place₂)

abbrev pub CheckIbanCallUnique : Type 0
CheckIbanCallUnique =
    (symbols : List ℕ) (n place n₂ place₂ : ℕ) → IbanTells symbols n place → IbanTells symbols n₂ place₂ → (n ≡ n₂) × (place ≡ place₂)

abbrev pub CheckIdentcodeCallUnique : Type 0
CheckIdentcodeCallUnique =
    (code : List ℕ) (n place n₂ place₂ : ℕ) → IdentcodeTells code n place → IdentcodeTells code n₂ place₂ → (n ≡ n₂) × (place ≡ place₂)

abbrev pub ReadIdentcodeCallUnique : Type 0
ReadIdentcodeCallUnique =
    (code : List ℕ) (n place n₂ place₂ : ℕ) (parts parts₂ : List ℕ) → PartsTells code n parts place → PartsTells code n₂ parts₂ place₂ →
    (n ≡ n₂) × (parts ≡ parts₂) × (place ≡ place₂)

abbrev pub IssueIdentcodeCallUnique : Type 0
IssueIdentcodeCallUnique =
    (body output : List ℕ) (n bytes place n₂ bytes₂ place₂ : ℕ) (x y : List ℕ) → IssueIdentcodeTells body output n bytes place x →
    IssueIdentcodeTells body output n₂ bytes₂ place₂ y → (n ≡ n₂) × (bytes ≡ bytes₂) × (place ≡ place₂) × (x ≡ y)
