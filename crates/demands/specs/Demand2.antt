-- Demand 2: "A file is accepted exactly when our profile of the pre-advice manual allows it. Line list, parcel count and cash total
-- are those of the file's own lines. A written line reads back to its fields, and an accepted line written again gives its own bytes.
-- DPD numbers and IBANs pass exactly by ISO 7064." With the list of countries that is lent as part of the file's rules (document 02,
-- request 1); what that list does stands in Countries. Identcodes pass exactly by the manual (request 2).
use Rattle.std.specs.Prelude.{ℕ, ◌+◌, ◌-◌, ◌≤◌, ◌≡◌, List, [], ◌∷◌, ◌++◌, ◌↔◌, length, take, drop, Some, Result, Ok}
use Rattle.check_characters.specs.Number.{Issues, checked_number}
use Rattle.check_characters.specs.Iban.{checked_iban}
use Rattle.check_digits.specs.Identcode.{checked_identcode, parts_answer, IssuesIdentcode}
use Rattle.check_characters.specs.declared.number.Kind.{Kind}
use Rattle.check_digits.specs.declared.identcode.Parts.{Parts}
use Rattle.fields.specs.Profile.{profile}
use Rattle.records.specs.Version.{version_numbered, UnderVersion}
use Rattle.records.specs.declared.version.Version.{Version}
use Rattle.line.specs.Line.{alone, read_answer}
use Rattle.line.specs.Find.{find_answer}
use Rattle.line.specs.declared.read.Line.{Line}
use Rattle.grammar.specs.Grammar.{Reads, FieldStands, StandsInLine}
use Rattle.file.specs.Lent.{Lent}
use Rattle.file.specs.File.{Judges}
use Rattle.file.specs.declared.whole.Totals.{Totals}
use Rattle.records.specs.declared.record.Due.{Due}
use Rattle.records.specs.declared.record.Record.{Record}
use Rattle.text.specs.Placed.{written}
use Rattle.writer.specs.Write.{record_numbered, between, write_answer, Writes}
use Rattle.grammar.specs.Written.{in_one, ends_from, Writable, ReadsBack}
use Rattle.allowed.specs.Allowed.{FileLine, AllowedFile, Accepts, identcodes}
use Rattle.slips.specs.Exactly.{SoundNumber, SoundIban, SoundIdentcode, Divides, in_order, without_check, digits_joined, body_of}
use Rattle.refusal.specs.declared.Refusal.{Refusal}

-- A file is accepted, with these totals and this list, exactly when it is allowed with the countries that were lent, the list has a
-- word for each of its lines, the totals are those of its lines, and each word is where that line starts, every other 0. So a judge
-- that refuses everything, one with a constant answer and invented counts are shut out.
abbrev pub FileExactly : Type 0
FileExactly =
    (file : List ℕ) (lent : Lent) (totals : Totals) (list : List ℕ) → Judges file lent (Ok totals) list ↔ Accepts file lent totals list

-- No other division of the bytes into lines exists: the lines of an allowed file are its own, with whichever countries it is allowed.
abbrev pub OneDivisionIntoLines : Type 0
OneDivisionIntoLines =
    (countries others file : List ℕ) (ls ks : List FileLine) → AllowedFile countries file ls → AllowedFile others file ks → ls ≡ ks

-- A line alone is accepted exactly when a version was told and the bytes from the offset on are the rendering of a line that its rules
-- allow; the answer names its record, its count and where the next line starts.
abbrev pub LineExactly : Type 0
LineExactly =
    (told : ℕ) (file : List ℕ) (offset : ℕ) (line : Line) → (read_answer told file offset ≡ Ok line) ↔
    UnderVersion told (λ version. (fs : List (List ℕ)) × Reads (alone (profile version)) file offset line fs)

-- Of an accepted line each field is found where it stands, and no other.
abbrev pub FieldExactly : Type 0
FieldExactly =
    (told : ℕ) (version : Version) → version_numbered told ≡ Some version →
    (file : List ℕ) (offset : ℕ) (line : Line) (fs : List (List ℕ)) (n start long : ℕ) → Reads (alone (profile version)) file offset line fs →
    (find_answer told file offset n ≡ Ok (record { start = start; long = long })) ↔ FieldStands line.kind fs file offset n start long

-- A field is found exactly when an allowed line stands at the offset and the field stands in it.
abbrev pub FoundExactly : Type 0
FoundExactly =
    (told : ℕ) (file : List ℕ) (offset n start long : ℕ) → (find_answer told file offset n ≡ Ok (record { start = start; long = long })) ↔
    UnderVersion told (λ version. StandsInLine (profile version) file offset n start long)

-- At one offset stands one line with one list of fields, whichever record is due and under whichever version.
abbrev pub OneReading : Type 0
OneReading =
    (version another : Version) (due late : Due) (file : List ℕ) (offset : ℕ) (line other : Line) (fs gs : List (List ℕ)) →
    Reads (record { rules = profile version; due = due }) file offset line fs →
    Reads (record { rules = profile another; due = late }) file offset other gs →
    (line ≡ other) × (fs ≡ gs)

-- "A written line reads back to its fields": the bytes that were written, by themselves and under the version that the writer was told,
-- are accepted as the line of that record and of those fields, and each field is found again.
abbrev pub WrittenReadsBack : Type 0
WrittenReadsBack =
    (told number : ℕ) (text ends output : List ℕ) (fill n : ℕ) (after : List ℕ) → Writes told number text ends output fill (Ok n) after →
    UnderVersion told (λ version. (kind : Record) × ((record_numbered number ≡ Some kind) × ((length (take n (drop fill after)) ≡ n) ×
    ReadsBack told version kind (between text ends) (take n (drop fill after)))))

-- "an accepted line written again gives its own bytes", under the version by which it was accepted, wherever there is room for it
abbrev pub AcceptedWritesAgain : Type 0
AcceptedWritesAgain =
    (version : Version) (file : List ℕ) (offset : ℕ) (line : Line) (fs : List (List ℕ)) → Reads (alone (profile version)) file offset line fs →
    (told : ℕ) → version_numbered told ≡ Some version →
    (number : ℕ) (output : List ℕ) (fill : ℕ) → record_numbered number ≡ Some line.kind → fill + (line.next - offset) ≤ length output →
    (answer : Result ℕ Refusal) (after : List ℕ) → Writes told number (in_one fs) (ends_from 0 fs) output fill answer after →
    (answer ≡ Ok (line.next - offset)) × (after ≡ written output fill (take (line.next - offset) (drop offset file)))

-- a line is written exactly when a version was told, its record is known, its ends hold, the version's rules allow it and there is room;
-- so a writer that writes nothing is shut out
abbrev pub WrittenExactly : Type 0
WrittenExactly =
    (told number : ℕ) (text ends : List ℕ) (size fill n : ℕ) → (write_answer told number text ends size fill ≡ Ok n) ↔
    UnderVersion told (λ version. Writable (profile version) number text ends size fill n)

-- a tracking number or label code is accepted exactly when it has its kind's length and shape and its check closes the carry
abbrev pub NumberExactly : Type 0
NumberExactly =
    (kind : Kind) (symbols : List ℕ) → (checked_number symbols ≡ Ok kind) ↔ SoundNumber kind symbols

-- an IBAN is accepted exactly when it has the length and shape of one, its check digits may stand, and the remainder by 97 is 1
abbrev pub IbanExactly : Type 0
IbanExactly =
    (symbols : List ℕ) → (checked_iban symbols ≡ Ok tt) ↔ SoundIban symbols

-- what issuing writes is accepted
abbrev pub IssuedIsAccepted : Type 0
IssuedIsAccepted =
    (body output after : List ℕ) (n : ℕ) → Issues body output (Ok n) after →
    (kind : Kind) × (checked_number (take n after) ≡ Ok kind)

-- an accepted number is what issuing its body writes, wherever there is room for it: its check is the only one
abbrev pub AcceptedIsIssued : Type 0
AcceptedIsIssued =
    (kind : Kind) (symbols output after : List ℕ) (answer : Result ℕ Refusal) → checked_number symbols ≡ Ok kind → length symbols ≤ length output →
    Issues (body_of symbols) output answer after
    → (answer ≡ Ok (length symbols)) × (after ≡ symbols ++ drop (length symbols) output)

-- an identcode is accepted exactly when it has 22 digits and the last is the check digit of the others
abbrev pub IdentcodeExactly : Type 0
IdentcodeExactly =
    (code : List ℕ) → (checked_identcode code ≡ Ok tt) ↔ SoundIdentcode code

-- its six parts are read exactly then, each behind the other with the manual's widths;
abbrev pub PartsExactly : Type 0
PartsExactly =
    (code : List ℕ) (parts : Parts) → (parts_answer code ≡ Ok parts) ↔ (SoundIdentcode code × Divides parts)

-- and joined again they are the code
abbrev pub PartsJoined : Type 0
PartsJoined =
    (code : List ℕ) (parts : Parts) → parts_answer code ≡ Ok parts → digits_joined code (in_order parts) ≡ code

-- an identcode that is issued is accepted
abbrev pub IssuedIdentcodeIsAccepted : Type 0
IssuedIdentcodeIsAccepted =
    (body output after : List ℕ) (n : ℕ) → IssuesIdentcode body output (Ok n) after → checked_identcode (take n after) ≡ Ok tt

-- and an accepted one is what issuing its body writes, wherever there is room for it
abbrev pub AcceptedIdentcodeIsIssued : Type 0
AcceptedIdentcodeIsIssued =
    (code output after : List ℕ) (answer : Result ℕ Refusal) → checked_identcode code ≡ Ok tt → length code ≤ length output →
    IssuesIdentcode (body_of code) output answer after → (answer ≡ Ok (length code)) × (after ≡ code ++ drop (length code) output)

-- "issue a code from its parts, joined without the check": those of an accepted code give the code again
abbrev pub PartsIssuedAgain : Type 0
PartsIssuedAgain =
    (code output after : List ℕ) (parts : Parts) (answer : Result ℕ Refusal) → parts_answer code ≡ Ok parts → length code ≤ length output →
    IssuesIdentcode (digits_joined code (without_check parts)) output answer after →
    (answer ≡ Ok (length code)) × (after ≡ code ++ drop (length code) output)

-- "040.1 must pass from now on": each identcode of an allowed file does
abbrev pub EachPasses : List (List ℕ) → Type 0
EachPasses [] = Unit {0}
EachPasses (code ∷ codes) = (checked_identcode code ≡ Ok tt) × EachPasses codes

abbrev pub CodesPass : Type 0
CodesPass =
    (countries file : List ℕ) (ls : List FileLine) → AllowedFile countries file ls → EachPasses (identcodes ls)
