-- Demand 2: "A file is accepted exactly when our profile of the pre-advice manual allows it. Line list, parcel count and cash total
-- are those of the file's own lines." Document 02, request 1: "demand 2 reads with the list as part of the file's rules"; request 5:
-- "Demand 2 reads per version". What an allowed file is, as a list of lines, apart from any way of judging it.
use Rattle.std.specs.Prelude.{ℕ, ◌+◌, ◌≤◌, ◌≡◌, Bool, true, false, ◌&&◌, ◌||◌, List, [], ◌∷◌, ◌++◌, length, if◌then◌else◌}
use Rattle.text.specs.Quoted.{bytes}
use Rattle.text.specs.Scan.{same}
use Rattle.forms.specs.Amount.{cents}
use Rattle.records.specs.Record.{◌is_a◌, may_come, may_end}
use Rattle.fields.specs.Form.{is_cash}
use Rattle.records.specs.declared.record.Record.{Record}
use Rattle.records.specs.declared.record.Record.TheVariants.{Header, Sender, Shipment, Parcel, Feature}
use Rattle.records.specs.declared.record.Due.{Due}
use Rattle.records.specs.declared.record.Due.TheVariants.{First, After}
use Rattle.fields.specs.Profile.{Rules, profile}
use Rattle.records.specs.Version.{is_version}
use Rattle.records.specs.declared.version.Version.{Version}
use Rattle.records.specs.declared.version.Version.TheVariants.{Five, Seven}
use Rattle.line.specs.Parts.{field_no}
use Rattle.line.specs.Render.{render}
use Rattle.grammar.specs.Grammar.{AllFilled, LineOk}
use Rattle.countries.specs.List.{is_paired, is_listed}
use Rattle.file.specs.Lent.{Lent}
use Rattle.file.specs.File.{list_of}
use Rattle.file.specs.declared.whole.Totals.{Totals}
use Rattle.line.specs.Line.{file_limit}

-- a line of a file: its record and its fields
pub record FileLine : Type 0 where
  pub kind : Record
  pub fields : List (List ℕ)

-- the bytes of a line, and of lines one after the other
abbrev pub line_bytes : FileLine → List ℕ
line_bytes l = render l.kind l.fields

abbrev pub file_bytes : List FileLine → List ℕ
file_bytes [] = []
file_bytes (l ∷ ls) = line_bytes l ++ file_bytes ls

-- each line keeps the rules
abbrev pub LinesOk : Rules → List FileLine → Type 0
LinesOk rules [] = Unit {0}
LinesOk rules (l ∷ ls) = LineOk rules l.kind l.fields × LinesOk rules ls

-- document 02, request 5: "The version on the header decides for the whole file which field rules hold": 7 where 010.6 is `7`
abbrev pub version_on : List FileLine → Version
version_on [] = Five
version_on (l ∷ ls) = if l.kind is_a Header && is_version Seven (field_no l.fields 6) then Seven else Five

-- "Record order": each record may come where it comes, and "The end is allowed only there."
abbrev pub InOrder : Due → List FileLine → Type 0
InOrder due [] = may_end due ≡ true
InOrder due (l ∷ ls) = (may_come due l.kind ≡ true) × InOrder (After l.kind) ls

-- the identcodes (040.1) of lines
abbrev pub codes_on : Record → List (List ℕ) → List (List ℕ)
codes_on kind fs = if kind is_a Parcel then field_no fs 1 ∷ [] else []

abbrev pub identcodes : List FileLine → List (List ℕ)
identcodes [] = []
identcodes (l ∷ ls) = codes_on l.kind l.fields ++ identcodes ls

-- a code is one of these
abbrev pub one_of_codes : List ℕ → List (List ℕ) → Bool
one_of_codes code [] = false
one_of_codes code (c ∷ cs) = same c code || one_of_codes code cs

-- "No identcode (040.1) occurs twice in a file": none stands among those behind it
abbrev pub NoneTwice : List (List ℕ) → Type 0
NoneTwice [] = Unit {0}
NoneTwice (c ∷ cs) = (one_of_codes c cs ≡ false) × NoneTwice cs

-- the shipments under a sender: the 030 lines behind it, up to the next sender
abbrev pub shipments_under : List FileLine → List FileLine
shipments_under [] = []
shipments_under (l ∷ ls) =
    if l.kind is_a Sender then []
    else if l.kind is_a Shipment then l ∷ shipments_under ls
    else shipments_under ls

-- "some shipment .. has a consignee country on a list the caller lends": 030.20 of one of these
abbrev pub some_into : List ℕ → List FileLine → Bool
some_into countries [] = false
some_into countries (l ∷ ls) = is_listed countries (field_no l.fields 20) || some_into countries ls

-- a sender's phone and mail, 020.12 and 020.13
abbrev pub HasContacts : FileLine → Type 0
HasContacts l = AllFilled l.fields (12 ∷ 13 ∷ [])

-- "They are needed only if some shipment under that sender has a consignee country on a list the caller lends"
abbrev pub ContactsKept : List ℕ → List FileLine → Type 0
ContactsKept countries [] = Unit {0}
ContactsKept countries (l ∷ ls) =
    (l.kind ≡ Sender → some_into countries (shipments_under ls) ≡ true → HasContacts l) × ContactsKept countries ls

-- a file that is allowed by the rules of a version with a list of countries, and its lines
pub record AllowedUnder (version : Version) (countries file : List ℕ) (ls : List FileLine) : Type 0 where
  -- else 20: "the list's length is odd"
  pub paired : is_paired countries ≡ true
  pub bytes : file ≡ file_bytes ls
  -- "At most 65,535 bytes."
  pub in_limit : length file ≤ file_limit
  pub lines : LinesOk (profile version) ls
  pub order : InOrder First ls
  pub codes : NoneTwice (identcodes ls)
  pub contacts : ContactsKept countries ls

-- a file that is allowed: by the rules of its own header's version
abbrev pub AllowedFile : List ℕ → List ℕ → List FileLine → Type 0
AllowedFile countries file ls = AllowedUnder (version_on ls) countries file ls

-- "number of 040 lines": each counts one
abbrev pub parcel_count : List FileLine → ℕ
parcel_count [] = 0
parcel_count (l ∷ ls) = (if l.kind is_a Parcel then 1 else 0) + parcel_count ls

-- a line "with code 006 or 022 and currency `EUR`"
abbrev pub collects_euros : FileLine → Bool
collects_euros l = l.kind is_a Feature && (is_cash (field_no l.fields 1) && same (field_no l.fields 4) (bytes "EUR"))

-- "the cash total in cents, which is the sum of 060.3 over lines with code 006 or 022 and currency `EUR`"
abbrev pub cash_total : List FileLine → ℕ
cash_total [] = 0
cash_total (l ∷ ls) = (if collects_euros l then cents (field_no l.fields 3) else 0) + cash_total ls

-- "Accepted: number of lines, number of 040 lines, and the cash total in cents"
abbrev pub totals_of : List FileLine → Totals
totals_of ls = record { lines = length ls; parcels = parcel_count ls; cents = cash_total ls }

-- "that line's first offset": where lines start, the first of them at this offset
abbrev pub line_starts : ℕ → List FileLine → List ℕ
line_starts offset [] = []
line_starts offset (l ∷ ls) = offset ∷ line_starts (offset + length (line_bytes l)) ls

-- what it means that a file is accepted, with what is lent, with these totals and this list
pub record Accepts (file : List ℕ) (lent : Lent) (totals : Totals) (list : List ℕ) : Type 0 where
  pub lines : List FileLine
  pub allowed : AllowedFile lent.countries file lines
  -- else 11: "no word left in the line list"
  pub room : length lines ≤ lent.words
  pub counts : totals ≡ totals_of lines
  -- "every word below the line count holds that line's first offset, and every other word is 0"
  pub starts : list ≡ list_of lent.words (line_starts 0 lines)
