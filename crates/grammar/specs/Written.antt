-- Document 01, 'Writer': when a line is written, apart from any order of tests, and what reading it back means.
use Rattle.std.specs.Prelude.{ℕ, ◌+◌, ◌≤◌, ◌≡◌, true, List, [], ◌∷◌, ◌++◌, length, take, drop, Some, Ok}
use Rattle.fields.specs.Profile.{Rules, profile}
use Rattle.records.specs.declared.version.Version.{Version}
use Rattle.records.specs.declared.record.Record.{Record}
use Rattle.line.specs.Parts.{field_no}
use Rattle.line.specs.Render.{render}
use Rattle.line.specs.Line.{read_answer}
use Rattle.line.specs.Find.{find_answer}
use Rattle.writer.specs.Write.{record_numbered, ends_hold, between}
use Rattle.grammar.specs.Grammar.{LineOk}

-- what a caller hands over for fields: "one text with all fields joined", and "a list of field ends"
abbrev pub in_one : List (List ℕ) → List ℕ
in_one [] = []
in_one (f ∷ fs) = f ++ in_one fs

-- where each of these fields ends, the first from the place start on
abbrev pub ends_from : ℕ → List (List ℕ) → List ℕ
ends_from start [] = []
ends_from start (f ∷ fs) = (start + length f) ∷ ends_from (start + length f) fs

-- when a line is written, apart from any order of tests: it is of a known record, its ends hold, it is allowed, and there is room
pub record Writable (rules : Rules) (number : ℕ) (text ends : List ℕ) (size fill n : ℕ) : Type 0 where
  pub kind : Record
  pub known : record_numbered number ≡ Some kind
  pub held : ends_hold ends (length text) ≡ true
  pub allowed : LineOk rules kind (between text ends)
  pub fits : fill + length (render kind (between text ends)) ≤ size
  pub long : n ≡ length (render kind (between text ends))

-- "Reading back is of the written line's bytes by themselves": they are the line of this record with these fields, they are read as
-- that by calls that are told the version, and each field is found again
pub record ReadsBack (told : ℕ) (version : Version) (kind : Record) (fs : List (List ℕ)) (line : List ℕ) : Type 0 where
  pub allowed : LineOk (profile version) kind fs
  pub rendered : line ≡ render kind fs
  pub read : read_answer told line 0 ≡ Ok (record { kind = kind; count = length fs; next = length line })
  pub found :
      (n : ℕ) → 1 ≤ n → n ≤ length fs → (start : ℕ) × ((find_answer told line 0 n ≡ Ok (record { start = start; long = length (field_no fs n) })) ×
      (take (length (field_no fs n)) (drop start line) ≡ field_no fs n))
