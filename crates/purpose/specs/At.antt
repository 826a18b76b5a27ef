-- A line of a file, known by where it starts.
use Rattle.std.specs.Prelude.{ℕ, Bool, List}
use Rattle.text.specs.Scan.{same}
use Rattle.line.specs.Parts.{split, part_at}
use Rattle.line.specs.Need.{is_filled}
use Rattle.line.specs.Line.{text_at}

-- the part with this number of the line that starts here: the record type for 0, else the field
abbrev pub field_at : List ℕ → ℕ → ℕ → List ℕ
field_at file offset n = part_at (text_at file offset) n

-- "A field of spaces is filled; only zero bytes is empty."
abbrev pub filled_at : List ℕ → ℕ → ℕ → Bool
filled_at file offset n = is_filled (split (text_at file offset)) n

-- a line of this record type starts here
unfoldable pub is_typed : List ℕ → ℕ → List ℕ → Bool
is_typed file offset name = same (field_at file offset 0) name
