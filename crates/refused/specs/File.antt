-- Document 01, 'Refusal numbers', and document 02, request 1: when a file is refused, by which number and at which place, said of the
-- file's own lines.
use Rattle.std.specs.Prelude.{ℕ, ◌≤◌, ◌<◌, ◌≡◌, true, false, List, [], ◌∷◌, ◌++◌, length, replicate, Result, Ok, Err}
use Rattle.text.specs.Quoted.{bytes}
use Rattle.refusal.specs.Table.{because}
use Rattle.refusal.specs.declared.Refusal.{Refusal}
use Rattle.refusal.specs.declared.Reason.TheVariants.{FileTooLong, IdentcodeRepeated, ListFull, FileEnds, ContactMissing, CountriesOdd}
use Rattle.records.specs.Record.{may_come, may_end}
use Rattle.fields.specs.Profile.{profile}
use Rattle.records.specs.declared.record.Record.TheVariants.{Sender, Shipment, Parcel}
use Rattle.records.specs.declared.record.Due.{Due}
use Rattle.records.specs.declared.record.Due.TheVariants.{First, After}
use Rattle.line.specs.Parts.{field_no}
use Rattle.line.specs.Told.{Told}
use Rattle.line.specs.Line.{file_limit}
use Rattle.countries.specs.List.{is_paired, is_listed}
use Rattle.file.specs.Lent.{Lent}
use Rattle.file.specs.Version.{version_of}
use Rattle.grammar.specs.Grammar.{LineOk}
use Rattle.allowed.specs.Allowed.{FileLine, line_bytes, file_bytes, LinesOk, identcodes, one_of_codes, NoneTwice}
use Rattle.allowed.specs.Allowed.{HasContacts, ContactsKept, Accepts}
use Rattle.refused.specs.Line.{RefusedLine}
use Rattle.file.specs.declared.whole.Totals.{Totals}

-- "Record order": each of these records may come where it comes
abbrev pub Come : Due → List FileLine → Type 0
Come due [] = Unit {0}
Come due (l ∷ ls) = (may_come due l.kind ≡ true) × Come (After l.kind) ls

-- what is due behind these lines
abbrev pub due_behind : Due → List FileLine → Due
due_behind due [] = due
due_behind due (l ∷ ls) = due_behind (After l.kind) ls

-- the line behind these is judged by the rules of the file's version, where such a record is due
abbrev pub told_behind : List ℕ → List FileLine → Told
told_behind file ls = record { rules = profile (version_of file); due = due_behind First ls }

-- the file begins with these lines, which are allowed by the rules of its version with a list of countries; these bytes are left
pub record Begins (countries file : List ℕ) (ls : List FileLine) (left : List ℕ) : Type 0 where
  -- "At most 65,535 bytes."
  pub in_limit : length file ≤ file_limit
  -- else 20: "the list's length is odd"
  pub paired : is_paired countries ≡ true
  pub there : file ≡ file_bytes ls ++ left
  pub lines : LinesOk (profile (version_of file)) ls
  pub order : Come First ls
  pub codes : NoneTwice (identcodes ls)
  pub contacts : ContactsKept countries ls

-- behind them stands this line, which keeps its rules and may come there
pub record NextLine (countries file : List ℕ) (ls : List FileLine) (l : FileLine) (left : List ℕ) : Type 0 where
  pub begins : Begins countries file ls (line_bytes l ++ left)
  pub ok : LineOk (profile (version_of file)) l.kind l.fields
  pub comes : may_come (due_behind First ls) l.kind ≡ true

-- no sender is among these lines
abbrev pub NoSender : List FileLine → Type 0
NoSender [] = Unit {0}
NoSender (l ∷ ls) = (l.kind ≡ Sender → ⊥) × NoSender ls

-- "either contact field is empty": of the sender nearest above the next line
pub record Unreachable (ls : List FileLine) : Type 0 where
  pub front : List FileLine
  pub sender : FileLine
  pub under : List FileLine
  pub there : ls ≡ front ++ (sender ∷ under)
  pub sends : sender.kind ≡ Sender
  pub nearest : NoSender under
  pub lacks : HasContacts sender → ⊥

-- a file is refused, with what is lent, with this number and place
pub data RefusedFile (file : List ℕ) (lent : Lent) : Refusal → Type 0 where
  -- 1: "1 comes first of all.", at "65,535"
  file_too_long : file_limit < length file → RefusedFile file lent (because FileTooLong file_limit)
  -- 20: "the list's length is odd, place 0, after 1"
  countries_odd : length file ≤ file_limit → is_paired lent.countries ≡ false → RefusedFile file lent (because CountriesOdd 0)
  -- 2 to 9: "Lines go in file order"; where no byte is left there is no line
  line_refused :
      (ls : List FileLine) (left : List ℕ) (refusal : Refusal) → Begins lent.countries file ls left → length ls ≤ lent.words →
      (left ≡ [] → ⊥) → RefusedLine (told_behind file ls) (length (file_bytes ls)) left refusal → RefusedFile file lent refusal
  -- 19: "either contact field is empty under a sender who needs both, place the start of the first 030 line that needs it, after 9 on
  -- that line"
  contact_missing :
      (ls : List FileLine) (l : FileLine) (left : List ℕ) → NextLine lent.countries file ls l left → length ls ≤ lent.words →
      l.kind ≡ Shipment → is_listed lent.countries (field_no l.fields 20) ≡ true → Unreachable ls →
      RefusedFile file lent (because ContactMissing (length (file_bytes ls)))
  -- 10: "identcode already on an earlier line", at "field start"
  identcode_repeated :
      (ls : List FileLine) (l : FileLine) (left : List ℕ) → NextLine lent.countries file ls l left → length ls ≤ lent.words →
      l.kind ≡ Parcel → one_of_codes (field_no l.fields 1) (identcodes ls) ≡ true →
      RefusedFile file lent (because IdentcodeRepeated (length (file_bytes ls ++ bytes "040;")))
  -- 11: "no word left in the line list", at "line start"
  list_full :
      (ls : List FileLine) (l : FileLine) (left : List ℕ) → Begins lent.countries file (ls ++ (l ∷ [])) left → length ls ≡ lent.words →
      RefusedFile file lent (because ListFull (length (file_bytes ls)))
  -- 12: "file ends where a record is due", at "file length"
  file_ends :
      (ls : List FileLine) → Begins lent.countries file ls [] → length ls ≤ lent.words → may_end (due_behind First ls) ≡ false →
      RefusedFile file lent (because FileEnds (length file))

-- what the judge's answer and the list behind it mean, for every file
abbrev pub Means : List ℕ → Lent → Result Totals Refusal → List ℕ → Type 0
Means file lent (Ok totals) list = Accepts file lent totals list
-- "On a refusal all words are 0."
Means file lent (Err refusal) list = RefusedFile file lent refusal × (list ≡ replicate lent.words 0)
