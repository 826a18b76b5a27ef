-- Demand 1: "It refuses by the numbers in our table, at the first place the table's order gives". Document 01, 'Refusal numbers': "Each is
-- given exactly then." Each call refuses, with this number and place, exactly when the input's own lines, fields and symbols say so; and
-- what the lent buffers then hold.
use Rattle.std.specs.Prelude.{ℕ, ◌+◌, ◌≤◌, ◌≡◌, true, List, [], ◌∷◌, ◌⊎◌, ◌↔◌, length, drop, replicate, Result, Ok, Err}
use Rattle.refusal.specs.Table.{because}
use Rattle.refusal.specs.declared.Refusal.{Refusal}
use Rattle.refusal.specs.declared.Reason.TheVariants.{FieldForm}
use Rattle.check_characters.specs.Number.{Issues, checked_number}
use Rattle.check_characters.specs.Day.{ChecksDay}
use Rattle.check_characters.specs.Wedge.{next_carry}
use Rattle.check_characters.specs.Iban.{checked_iban}
use Rattle.check_digits.specs.Identcode.{checked_identcode, parts_answer, IssuesIdentcode}
use Rattle.check_characters.specs.declared.number.Kind.{Kind}
use Rattle.records.specs.Record.{may_end}
use Rattle.fields.specs.Profile.{profile, width_in_table}
use Rattle.records.specs.Version.{UnderVersion}
use Rattle.records.specs.declared.version.Version.{Version}
use Rattle.records.specs.declared.record.Due.{Due}
use Rattle.records.specs.declared.record.Due.TheVariants.{First}
use Rattle.records.specs.declared.record.Record.TheVariants.{Parcel}
use Rattle.line.specs.Line.{line_answer, alone, file_limit, read_answer}
use Rattle.line.specs.Find.{find_answer}
use Rattle.line.specs.declared.read.Line.{Line}
use Rattle.file.specs.Lent.{Lent}
use Rattle.file.specs.Version.{version_of}
use Rattle.file.specs.File.{Judges}
use Rattle.writer.specs.Write.{Writes}
use Rattle.purpose.specs.Purpose.{Purposes}
use Rattle.grammar.specs.Grammar.{Filled, Reads, StandsInLine}
use Rattle.grammar.specs.Written.{Writable}
use Rattle.allowed.specs.Allowed.{FileLine, file_bytes, AllowedFile}
use Rattle.slips.specs.Exactly.{SoundNumber, SoundIban, SoundIdentcode}
use Rattle.slips.specs.Typed.{Leads}
use Rattle.refused.specs.Line.{Counted, RefusedAt, RefusedTold, RefusedFind}
use Rattle.refused.specs.File.{Begins, due_behind, told_behind, RefusedFile, Means}
use Rattle.refused.specs.Write.{RefusedWrite}
use Rattle.refused.specs.Purpose.{RefusedPurpose}
use Rattle.refused.specs.Number.{RefusedNumber, RefusedIban, RefusedIssue}
use Rattle.refused.specs.Day.{AnsweredDay, RefusedDay}
use Rattle.refused.specs.Wedge.{RefusedKey}
use Rattle.refused.specs.Identcode.{RefusedIdentcode, RefusedIdentcodeIssue}
use Rattle.file.specs.declared.whole.Totals.{Totals}

-- A file is refused exactly when it is too long; or the list of countries has an odd length; or it begins with lines that are allowed,
-- and the next one is refused by its own rule, is a shipment into a listed country whose sender lacks a contact, repeats an identcode, or
-- finds no word in the list; or its lines are all fine and it ends where a record is due. "On a refusal all words are 0."
abbrev pub FileRefusedExactly : Type 0
FileRefusedExactly =
    (file : List ℕ) (lent : Lent) (refusal : Refusal) (list : List ℕ) →
    Judges file lent (Err refusal) list ↔ (RefusedFile file lent refusal × (list ≡ replicate lent.words 0))

-- Accepted or refused, the judge's answer and the list mean what the paper says of the file's own lines, and no other answer does.
abbrev pub JudgeExactly : Type 0
JudgeExactly =
    (file : List ℕ) (lent : Lent) (answer : Result Totals Refusal) (list : List ℕ) →
    Judges file lent answer list ↔ Means file lent answer list

-- Every file is allowed, with a word for each line, or refused;
abbrev pub AlwaysOne : Type 0
AlwaysOne =
    (file : List ℕ) (lent : Lent) →
    ((ls : List FileLine) × AllowedFile lent.countries file ls × (length ls ≤ lent.words)) ⊎
    ((refusal : Refusal) × RefusedFile file lent refusal)

-- never both;
abbrev pub NeverBoth : Type 0
NeverBoth =
    (file : List ℕ) (lent : Lent) (ls : List FileLine) (refusal : Refusal) →
    AllowedFile lent.countries file ls → length ls ≤ lent.words → RefusedFile file lent refusal → ⊥

-- and by one number at one place.
abbrev pub OneRefusal : Type 0
OneRefusal =
    (file : List ℕ) (lent : Lent) (refusal other : Refusal) →
    RefusedFile file lent refusal → RefusedFile file lent other → refusal ≡ other

-- The lines with which a refused file begins are those of an allowed one: they only lack the end.
abbrev pub AllowedBegins : Type 0
AllowedBegins =
    (countries file : List ℕ) (ls : List FileLine) →
    AllowedFile countries file ls ↔ (Begins countries file ls [] × (may_end (due_behind First ls) ≡ true))

-- One line at an offset: 22, then "1, 2, 3, 5 to 9"; 4 is the file's, where a record is due.
abbrev pub LineRefusedExactly : Type 0
LineRefusedExactly =
    (told : ℕ) (file : List ℕ) (offset : ℕ) (refusal : Refusal) → (read_answer told file offset ≡ Err refusal) ↔
    RefusedTold told (λ version. RefusedAt (alone (profile version)) file offset) refusal

-- One field of it: the line's refusals, then 15.
abbrev pub FieldRefusedExactly : Type 0
FieldRefusedExactly =
    (told : ℕ) (file : List ℕ) (offset n : ℕ) (refusal : Refusal) → (find_answer told file offset n ≡ Err refusal) ↔
    RefusedTold told (λ version. RefusedFind (profile version) file offset n) refusal

-- The writer; "a refusal changes none" of the output's bytes.
abbrev pub WriteRefusedExactly : Type 0
WriteRefusedExactly =
    (told number : ℕ) (text ends output : List ℕ) (fill : ℕ) (refusal : Refusal) (after : List ℕ) →
    Writes told number text ends output fill (Err refusal) after ↔
    (RefusedTold told (λ version. RefusedWrite (profile version) number text ends (length output) fill) refusal × (after ≡ output))

-- The payment purpose; "The output's other bytes stay, and all of them on a refusal; the list's words are all 0 after 15 or 13 too."
abbrev pub PurposeRefusedExactly : Type 0
PurposeRefusedExactly =
    (file : List ℕ) (n : ℕ) (lent : Lent) (output : List ℕ) (refusal : Refusal) (list after : List ℕ) →
    Purposes file n lent output (Err refusal) list after ↔
    (RefusedPurpose file n lent (length output) refusal × (list ≡ replicate lent.words 0) × (after ≡ output))

-- A tracking number or label code, an IBAN, and the body of a number to be issued: "a refusal writes nothing".
abbrev pub NumberRefusedExactly : Type 0
NumberRefusedExactly =
    (symbols : List ℕ) (refusal : Refusal) →
    (checked_number symbols ≡ Err refusal) ↔ RefusedNumber symbols refusal

abbrev pub IbanRefusedExactly : Type 0
IbanRefusedExactly =
    (symbols : List ℕ) (refusal : Refusal) →
    (checked_iban symbols ≡ Err refusal) ↔ RefusedIban symbols refusal

abbrev pub IssueRefusedExactly : Type 0
IssueRefusedExactly =
    (body output : List ℕ) (refusal : Refusal) (after : List ℕ) →
    Issues body output (Err refusal) after ↔ (RefusedIssue body (length output) refusal × (after ≡ output))

-- Document 02, request 4. The carry after one more key: 15, then 17.
abbrev pub KeyRefusedExactly : Type 0
KeyRefusedExactly =
    (carry key : ℕ) (refusal : Refusal) →
    (next_carry carry key ≡ Err refusal) ↔ RefusedKey carry key refusal

-- Document 02, request 6. A day's numbers: 16, then 13; "either leaves the answers untouched".
abbrev pub DayRefusedExactly : Type 0
DayRefusedExactly =
    (numbers answers after : List ℕ) (refusal : Refusal) →
    ChecksDay numbers answers (Err refusal) after ↔ (RefusedDay numbers (length answers) refusal × (after ≡ answers))

-- Document 02, request 2. An identcode, its parts, and the 21 digits of one to be issued: "with nothing written".
abbrev pub IdentcodeRefusedExactly : Type 0
IdentcodeRefusedExactly =
    (code : List ℕ) (refusal : Refusal) →
    (checked_identcode code ≡ Err refusal) ↔ RefusedIdentcode code refusal

abbrev pub PartsRefusedExactly : Type 0
PartsRefusedExactly =
    (code : List ℕ) (refusal : Refusal) →
    (parts_answer code ≡ Err refusal) ↔ RefusedIdentcode code refusal

abbrev pub IssueIdentcodeRefusedExactly : Type 0
IssueIdentcodeRefusedExactly =
    (body output : List ℕ) (refusal : Refusal) (after : List ℕ) →
    IssuesIdentcode body output (Err refusal) after ↔ (RefusedIdentcodeIssue body (length output) refusal × (after ≡ output))

-- "a failing code in a file is 8", at the field: whatever record is due, a 040 line that may come and whose first field is no wider than
-- the version lets it be, but does not pass, is refused there;
abbrev pub FailingCodeRefused : Type 0
FailingCodeRefused =
    (version : Version) (due : Due) (file : List ℕ) (offset : ℕ) (code : List ℕ) (more : List (List ℕ)) → length file ≤ file_limit →
    offset ≤ length file → Counted (record { rules = profile version; due = due }) (drop offset file) Parcel (code ∷ more) →
    Filled code → length code ≤ width_in_table (profile version Parcel) 1 → (checked_identcode code ≡ Ok tt → ⊥) →
    line_answer (record { rules = profile version; due = due }) file offset ≡ Err (because FieldForm (offset + 4))

-- and so is the file that begins with allowed lines and then has such a line.
abbrev pub FailingCodeRefusesFile : Type 0
FailingCodeRefusesFile =
    (file : List ℕ) (lent : Lent) (ls : List FileLine) (left code : List ℕ) (more : List (List ℕ)) →
    Begins lent.countries file ls left → length ls ≤ lent.words → Counted (told_behind file ls) left Parcel (code ∷ more) →
    Filled code → length code ≤ width_in_table (profile (version_of file) Parcel) 1 → (checked_identcode code ≡ Ok tt → ⊥) →
    Judges file lent (Err (because FieldForm (length (file_bytes ls) + 4))) (replicate lent.words 0)

-- A line, a field, a writing, a number, an IBAN, an identcode, a key and a day's numbers pass or are refused, never both.
abbrev pub LineAlwaysOne : Type 0
LineAlwaysOne =
    (told : ℕ) (file : List ℕ) (offset : ℕ) →
    UnderVersion told (λ version. (line : Line) × ((fs : List (List ℕ)) × Reads (alone (profile version)) file offset line fs)) ⊎
    ((refusal : Refusal) × RefusedTold told (λ version. RefusedAt (alone (profile version)) file offset) refusal)

abbrev pub LineNeverBoth : Type 0
LineNeverBoth =
    (told : ℕ) (file : List ℕ) (offset : ℕ) (refusal : Refusal) →
    UnderVersion told (λ version. (line : Line) × ((fs : List (List ℕ)) × Reads (alone (profile version)) file offset line fs)) →
    RefusedTold told (λ version. RefusedAt (alone (profile version)) file offset) refusal → ⊥

abbrev pub FieldAlwaysOne : Type 0
FieldAlwaysOne =
    (told : ℕ) (file : List ℕ) (offset n : ℕ) →
    UnderVersion told (λ version. (start : ℕ) × ((long : ℕ) × StandsInLine (profile version) file offset n start long)) ⊎
    ((refusal : Refusal) × RefusedTold told (λ version. RefusedFind (profile version) file offset n) refusal)

abbrev pub FieldNeverBoth : Type 0
FieldNeverBoth =
    (told : ℕ) (file : List ℕ) (offset n : ℕ) (refusal : Refusal) →
    UnderVersion told (λ version. (start : ℕ) × ((long : ℕ) × StandsInLine (profile version) file offset n start long)) →
    RefusedTold told (λ version. RefusedFind (profile version) file offset n) refusal → ⊥

abbrev pub WriteAlwaysOne : Type 0
WriteAlwaysOne =
    (told number : ℕ) (text ends : List ℕ) (size fill : ℕ) →
    UnderVersion told (λ version. (n : ℕ) × Writable (profile version) number text ends size fill n) ⊎
    ((refusal : Refusal) × RefusedTold told (λ version. RefusedWrite (profile version) number text ends size fill) refusal)

abbrev pub WriteNeverBoth : Type 0
WriteNeverBoth =
    (told number : ℕ) (text ends : List ℕ) (size fill : ℕ) (refusal : Refusal) →
    UnderVersion told (λ version. (n : ℕ) × Writable (profile version) number text ends size fill n) →
    RefusedTold told (λ version. RefusedWrite (profile version) number text ends size fill) refusal → ⊥

abbrev pub NumberAlwaysOne : Type 0
NumberAlwaysOne =
    (symbols : List ℕ) →
    ((kind : Kind) × SoundNumber kind symbols) ⊎ ((refusal : Refusal) × RefusedNumber symbols refusal)

abbrev pub NumberNeverBoth : Type 0
NumberNeverBoth =
    (symbols : List ℕ) (kind : Kind) (refusal : Refusal) →
    SoundNumber kind symbols → RefusedNumber symbols refusal → ⊥

abbrev pub IbanAlwaysOne : Type 0
IbanAlwaysOne =
    (symbols : List ℕ) → SoundIban symbols ⊎ ((refusal : Refusal) × RefusedIban symbols refusal)

abbrev pub IbanNeverBoth : Type 0
IbanNeverBoth =
    (symbols : List ℕ) (refusal : Refusal) → SoundIban symbols → RefusedIban symbols refusal → ⊥

abbrev pub IdentcodeAlwaysOne : Type 0
IdentcodeAlwaysOne =
    (code : List ℕ) → SoundIdentcode code ⊎ ((refusal : Refusal) × RefusedIdentcode code refusal)

abbrev pub IdentcodeNeverBoth : Type 0
IdentcodeNeverBoth =
    (code : List ℕ) (refusal : Refusal) → SoundIdentcode code → RefusedIdentcode code refusal → ⊥

abbrev pub KeyAlwaysOne : Type 0
KeyAlwaysOne =
    (carry key : ℕ) → ((next : ℕ) × Leads carry key next) ⊎ ((refusal : Refusal) × RefusedKey carry key refusal)

abbrev pub KeyNeverBoth : Type 0
KeyNeverBoth =
    (carry key next : ℕ) (refusal : Refusal) → Leads carry key next → RefusedKey carry key refusal → ⊥

abbrev pub DayAlwaysOne : Type 0
DayAlwaysOne =
    (numbers answers : List ℕ) →
    ((passed : ℕ) × ((after : List ℕ) × AnsweredDay numbers answers passed after)) ⊎
    ((refusal : Refusal) × RefusedDay numbers (length answers) refusal)

abbrev pub DayNeverBoth : Type 0
DayNeverBoth =
    (numbers answers : List ℕ) (passed : ℕ) (after : List ℕ) (refusal : Refusal) →
    AnsweredDay numbers answers passed after → RefusedDay numbers (length answers) refusal → ⊥
