-- How lines are laid out for one call of a day's numbers: the number of each, 15 bytes after 15 bytes, and a mark for each, whether it has
-- a number.
use Rattle.std.specs.Prelude.{◌≡◌, ℕ, ◌≤◌, Bool, false, List, map, length, take, ◌==◌, slice_index, slice_index_or, if◌then◌else◌}
use Rattle.text.specs.Placed.{written, placed}
use Rattle.text.specs.Tabled.{tabled}
use Rattle.refusal.specs.Table.{number_told, verdict_on}
use Rattle.check_characters.specs.Number.{checked_number}
use Rattle.check_characters.specs.Day.{number_at}
use Rattle.scans.specs.declared.Answered.{Answered}
use Rattle.scans.specs.Scans.{whole_lines, number_on, line_answer, answered_of}

-- a line has a number where that has the length of a tracking number
abbrev pub is_number : List ℕ → Bool
is_number line = length (number_on line) == 15

-- the line's number stands at its place; where it has none, nothing changes
abbrev pub laid : List ℕ → ℕ → List ℕ → List ℕ
laid numbers place line = if is_number line then placed numbers place (number_on line) else numbers

-- the answer of a line that has no number is 16
abbrev pub ruled : Bool → ℕ → ℕ
ruled mark answer = if mark then answer else 16

-- what the number and the mark in the place i make the answer
unfoldable pub answer_at : List ℕ → List Bool → ℕ → ℕ
answer_at numbers marks i = ruled (slice_index_or marks i false) (number_told (verdict_on (checked_number (number_at numbers i))))

-- the first lines of a text are laid out, as many as there is room for
abbrev pub Lays : List ℕ → ℕ → Answered → List ℕ → List Bool → Type 0
Lays text room answered numbers marks =
    (answered ≡ answered_of (take room (whole_lines text)))
    × (map line_answer (take room (whole_lines text)) ≡ tabled (answer_at numbers marks) 0 answered.lines)
    × (answered.lines ≤ room) × (answered.lines ≤ answered.next) × (answered.next ≤ length text)

-- each mark ruled over the answer in its place
abbrev pub overruled : List Bool → List ℕ → List ℕ
overruled marks answers = written answers 0 (tabled (λ i. ruled (slice_index_or marks i false) (slice_index answers i)) 0 (length marks))
