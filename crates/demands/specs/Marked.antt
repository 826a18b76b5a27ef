-- Document 01, "Marked, to be proved", and 'The program and its cases': the marked cases as one list.
use Rattle.std.specs.Prelude.{ℕ, ◌≡◌, Bool, true, false, List, [], ◌∷◌, ◌++◌, map, replicate, Result, Ok, Err}
use Prim.Native.String.{String}
use Rattle.refusal.specs.Table.{because, Verdict, verdict_on}
use Rattle.refusal.specs.declared.Reason.TheVariants.{UnknownRecord, FieldCount, FieldEmpty, FieldForm, FileEnds, ContactMissing, CountriesOdd}
use Rattle.text.specs.Quoted.{bytes}
use Rattle.forms.specs.Amount.{amount}
use Rattle.forms.specs.Date.{date_time}
use Rattle.check_characters.specs.Answer.{issued_to}
use Rattle.check_characters.specs.Number.{checked_number}
use Rattle.check_characters.specs.Iban.{checked_iban}
use Rattle.check_digits.specs.Identcode.{check_digit_of, checked_identcode, parts_answer, issue_identcode_answer}
use Rattle.slips.specs.Exactly.{digits_in, in_order}
use Rattle.file.specs.Lent.{Lent}
use Rattle.file.specs.File.{judged}
use Rattle.purpose.specs.Purpose.{purpose_of}
use Rattle.records.specs.declared.version.Version.TheVariants.{Seven}
use Rattle.allowed.specs.Allowed.{FileLine, AllowedUnder, AllowedFile}
use Rattle.check_digits.specs.declared.identcode.Parts.{Parts}
use Rattle.file.specs.declared.whole.Totals.{Totals}
use Rattle.refusal.specs.declared.Refusal.{Refusal}

-- "This file (each line ended by CR LF)"
abbrev pub lines : List String → List ℕ
lines [] = []
lines (text ∷ more) = bytes text ++ bytes "\r\n" ++ lines more

abbrev pub file_of : String → String → String → List ℕ
file_of header sender parcel =
    lines
    (header ∷ sender ∷
    "030;;;;;;;;;;;;;;;;B;;;;AT;1020;Wien;;Gasse;;2;;;;;;;;;;;;;;" ∷ parcel ∷ "050;10" ∷
    "060;006;;12.50;EUR;Muster;AT611904300234573201;ABCDATWW;;;" ∷ [])

abbrev pub example_of : String → String → List ℕ
example_of sender parcel = file_of "010;0012345678;Muster;2021-02-23T13:37:50;2021-02-24T14:20:55;1005;5;;;;" sender parcel

-- document 02, request 2: "Our example file's identcode is exchanged for a valid one."
abbrev pub example : List ℕ
example = example_of "020;A;;;;AT;1010;Wien;;Gasse;;1;1;a@b;;;" "040;1000000000000000000007;;"

-- the same without the sender's phone
abbrev pub unreachable : List ℕ
unreachable = example_of "020;A;;;;AT;1010;Wien;;Gasse;;1;;a@b;;;" "040;1000000000000000000007;;"

-- the example with the identcode that it had, which fails
abbrev pub failing : List ℕ
failing = example_of "020;A;;;;AT;1010;Wien;;Gasse;;1;1;a@b;;;" "040;1000000000000000000001;;"

-- document 02, request 5: the example without what version 7 calls optional, with this version and this parcel
abbrev pub versioned : String → String → List ℕ
versioned header parcel = file_of header "020;A;;;;AT;1010;Wien;;Gasse;;1;1;a@b;;;" parcel

abbrev pub five : String
five = "010;0012345678;;2021-02-23T13:37:50;2021-02-24T14:20:55;;5;;;;"

abbrev pub seven : String
seven = "010;0012345678;;2021-02-23T13:37:50;2021-02-24T14:20:55;;7;;;;"

-- "lends 4,096 words"; document 02, request 1: "an empty list, which the program lends"
abbrev pub lent_with : String → Lent
lent_with countries = record { countries = bytes countries; words = 4096 }

-- the digits of a code's parts, none where it is refused
abbrev pub pieces_of : List ℕ → Result Parts Refusal → List (List ℕ)
pieces_of code (Ok parts) = map (λ part. digits_in code part) (in_order parts)
pieces_of code (Err refusal) = []

-- what the paper says of an input: the verdict on a DPD number or an IBAN, whether an amount or a date-time holds; what judging a file
-- with these countries answers, and where its lines start; the purpose of the line with a number; the verdict on an identcode, the
-- digits of its parts, and the code that is issued from digits
pub data Case : Type 0 where
  number : String → Verdict → Case
  iban : String → Verdict → Case
  money : String → Bool → Case
  date : String → Bool → Case
  file : List ℕ → String → Result Totals Refusal → List ℕ → Case
  purpose : List ℕ → ℕ → String → Case
  identcode : String → Verdict → Case
  parts : String → List String → Case
  issued : String → String → Case

abbrev pub Holds : Case → Type 0
Holds (number text verdict) = verdict_on (checked_number (bytes text)) ≡ verdict
Holds (iban text verdict) = verdict_on (checked_iban (bytes text)) ≡ verdict
Holds (money text holds) = amount (bytes text) ≡ holds
Holds (date text holds) = date_time (bytes text) ≡ holds
Holds (file input countries answer starts) = judged input (lent_with countries) ≡ record { answer = answer; starts = starts }
Holds (purpose input n text) = purpose_of input n (lent_with "") ≡ bytes text
Holds (identcode text verdict) = verdict_on (checked_identcode (bytes text)) ≡ verdict
Holds (parts text pieces) = pieces_of (bytes text) (parts_answer (bytes text)) ≡ map bytes pieces
Holds (issued body text) = issued_to (issue_identcode_answer (bytes body) 22) (bytes body) (check_digit_of (bytes body)) (replicate 22 0) ≡ bytes text

abbrev pub AllHold : List Case → Type 0
AllHold [] = Unit {0}
AllHold (c ∷ cs) = Holds c × AllHold cs

abbrev pub marked : List Case
marked =
    Case.number "09980000020041F" Verdict.passes
    ∷ Case.number "09980000020041f" (Verdict.refused 17 14)
    ∷ Case.number "09980000020041" (Verdict.refused 16 0)
    ∷ Case.number "00000000000000U" Verdict.passes
    ∷ Case.number "09230000000000Z" Verdict.passes
    ∷ Case.number "09320000000000Z" Verdict.passes
    ∷ Case.number "0002800099800000200371550566" Verdict.passes
    ∷ Case.number "0002800099800000200371550567" (Verdict.refused 18 27)
    ∷ Case.iban "AT611904300234573201" Verdict.passes
    ∷ Case.iban "AT161904300234573201" (Verdict.refused 18 2)
    ∷ Case.money "0.01" true
    ∷ Case.money "999999.99" true
    ∷ Case.money "0.00" false
    ∷ Case.money "01.00" false
    ∷ Case.date "2024-02-29T00:00:00" true
    ∷ Case.date "2023-02-29T00:00:00" false
    -- "gives `ok 6 1 1250`"
    ∷ Case.file example "" (Ok (record { lines = 6; parcels = 1; cents = 1250 })) (0 ∷ 74 ∷ 116 ∷ 178 ∷ 208 ∷ 216 ∷ [])
    -- "Line 5, counted from 0, has the purpose `1000000000000000000001/B`"; it is now that of the code exchanged
    ∷ Case.purpose example 5 "1000000000000000000007/B"
    -- "Empty input gives `no 12 0`; CR LF alone `no 3 0`; `010;` with CR LF `no 5 0`."
    ∷ Case.file [] "" (Err (because FileEnds 0)) []
    ∷ Case.file (lines ("" ∷ [])) "" (Err (because UnknownRecord 0)) []
    ∷ Case.file (lines ("010;" ∷ [])) "" (Err (because FieldCount 0)) []
    -- document 02, request 1: "With an empty list, which the program lends, nobody needs them", and with a list of the consignee's country
    -- somebody does; "the list's length is odd"
    ∷ Case.file unreachable "" (Ok (record { lines = 6; parcels = 1; cents = 1250 })) (0 ∷ 74 ∷ 115 ∷ 177 ∷ 207 ∷ 215 ∷ [])
    ∷ Case.file unreachable "XATX" (Ok (record { lines = 6; parcels = 1; cents = 1250 })) (0 ∷ 74 ∷ 115 ∷ 177 ∷ 207 ∷ 215 ∷ [])
    ∷ Case.file unreachable "DEAT" (Err (because ContactMissing 115)) []
    ∷ Case.file example "DEAT" (Ok (record { lines = 6; parcels = 1; cents = 1250 })) (0 ∷ 74 ∷ 116 ∷ 178 ∷ 208 ∷ 216 ∷ [])
    ∷ Case.file unreachable "DEA" (Err (because CountriesOdd 0)) []
    -- document 02, request 2; document 000, section 4.1.6, the worked example; 4.2, the code of the figure
    ∷ Case.issued "854637900327598186342" "8546379003275981863426"
    ∷ Case.identcode "8546379003275981863426" Verdict.passes
    ∷ Case.identcode "8546379003275981863427" (Verdict.refused 18 21)
    ∷ Case.identcode "85463790032759818634:6" (Verdict.refused 17 20)
    ∷ Case.identcode "854637900327598186342" (Verdict.refused 16 0)
    -- "(If the remainder is 0, the checksum is 0)"
    ∷ Case.issued "170000000000000000000" "1700000000000000000000"
    ∷ Case.identcode "1700000000000000000001" (Verdict.refused 18 21)
    ∷ Case.parts "1012345123456781212349" ("10" ∷ "12345" ∷ "12345678" ∷ "12" ∷ "1234" ∷ "9" ∷ [])
    -- "a failing code in a file is 8"
    ∷ Case.file failing "" (Err (because FieldForm 182)) []
    -- document 02, request 5: 010.2 and 010.5 are "optional" in document 002, 040.4 "required"; in version 5 it is the other way round
    ∷ Case.file (versioned seven "040;1000000000000000000007;;;C") "" (Ok (record { lines = 6; parcels = 1; cents = 1250 }))
    (0 ∷ 64 ∷ 106 ∷ 168 ∷ 200 ∷ 208 ∷ [])
    ∷ Case.file (versioned seven "040;1000000000000000000007;;;") "" (Err (because FieldEmpty 197)) []
    ∷ Case.file (versioned five "040;1000000000000000000007;;;") "" (Err (because FieldEmpty 15)) []
    -- a 040 line of three fields has no field 4 that could be empty
    ∷ Case.file (versioned seven "040;1000000000000000000007;;") "" (Ok (record { lines = 6; parcels = 1; cents = 1250 }))
    (0 ∷ 64 ∷ 106 ∷ 168 ∷ 198 ∷ 206 ∷ [])
    ∷ []

abbrev pub MarkedHold : Type 0
MarkedHold = AllHold marked

-- the example is an allowed file, and one of version 7 is: the rules contradict nobody
abbrev pub AFileIsAllowed : Type 0
AFileIsAllowed = (ls : List FileLine) × AllowedFile [] example ls

abbrev pub AFileOfSevenIsAllowed : Type 0
AFileOfSevenIsAllowed = (ls : List FileLine) × AllowedUnder Seven [] (versioned seven "040;1000000000000000000007;;;C") ls
