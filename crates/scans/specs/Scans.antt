-- The returns bench (document 02, request 6; R6e of docs/DECISIONS.md): tracking numbers come one a line, and each line has its answer, also
-- one of a wrong length.
--
-- The text `09980000020041F CR LF 0998 LF 0998` has two whole lines. Their answers are 0 and 16; the four bytes behind the last line feed
-- are no whole line yet (`example_scans`).
use Rattle.std.specs.Prelude.{◌≡◌, ℕ, suc, ◌+◌, ◌-◌, ◌/◌, ◌%◌, ◌≤◌, min, ltb, List, [], ◌∷◌, ◌++◌, map, length, take, ◌==◌, nat_lt}
use Rattle.std.specs.Prelude.{slice_index, slice_range, if◌then◌else◌}
use Rattle.text.specs.Placed.{written, placed}
use Rattle.text.specs.Quoted.{byte}
use Rattle.refusal.specs.Table.{number_told, verdict_on}
use Rattle.check_characters.specs.Number.{checked_number}
use Rattle.scans.specs.declared.Answered.{Answered}

-- the whole lines of a text that stands behind the start of a line, each without its line feed
abbrev pub lines_from : List ℕ → List ℕ → List (List ℕ)
lines_from line [] = []
lines_from line (b ∷ text) = if b == 10 then line ∷ lines_from [] text else lines_from (line ++ (b ∷ [])) text

abbrev pub whole_lines : List ℕ → List (List ℕ)
whole_lines text = lines_from [] text

-- a carriage return in front of the line feed belongs to the line's end
unfoldable pub number_on : List ℕ → List ℕ
number_on line = if slice_index line (length line - 1) == 13 then take (length line - 1) line else line

-- "as each number would get alone"; 16 where it has not the length of a tracking number
unfoldable pub line_answer : List ℕ → ℕ
line_answer line =
    if length (number_on line) == 15 then number_told (verdict_on (checked_number (number_on line))) else 16

-- so many lines are answered by one call, where there are so many answer bytes
abbrev pub at_once : ℕ → ℕ
at_once room = min room 1024

-- the lines that one call answers
abbrev pub due_lines : List ℕ → ℕ → List (List ℕ)
due_lines text room = take (at_once room) (whole_lines text)

-- the bytes of lines, with their line feeds
abbrev pub bytes_of : List (List ℕ) → ℕ
bytes_of [] = 0
bytes_of (line ∷ lines) = suc (length line) + bytes_of lines

-- so many lines, and where the text goes on behind them
unfoldable pub answered_of : List (List ℕ) → Answered
answered_of lines = record { lines = length lines; next = bytes_of lines }

-- each line has its answer, in its place
abbrev pub AnswersLines : List ℕ → List ℕ → Answered → List ℕ → Type 0
AnswersLines text answers answered after =
    (answered ≡ answered_of (due_lines text (length answers)))
    × (after ≡ written answers 0 (map line_answer (due_lines text (length answers))))
    × (answered.lines ≤ length answers) × (answered.lines ≤ answered.next) × (answered.next ≤ length text)

-- the number of an answer on a line of its own; an answer has one digit or two
abbrev pub printed_one : ℕ → List ℕ
printed_one answer =
    if nat_lt answer 10 then (byte "0" + answer) ∷ 10 ∷ [] else (byte "0" + answer / 10) ∷ (byte "0" + answer % 10) ∷ 10 ∷ []

abbrev pub printed : List ℕ → List ℕ
printed [] = []
printed (answer ∷ answers) = printed_one answer ++ printed answers

-- the answers stand at the output's front, where that has three bytes for each; else nothing is printed
abbrev pub Prints : List ℕ → List ℕ → ℕ → List ℕ → Type 0
Prints answers output count after =
    (count ≡ (if ltb (length output / 3) (length answers) then 0 else length (printed answers)))
    × (after ≡ (if ltb (length output / 3) (length answers) then output else placed output 0 (printed answers)))
    × (count ≤ length after)

-- what waits for the rest of its line, from a place of the buffer to another. 17 bytes of it are enough: one of them may be a carriage
-- return, and 16 are too long
abbrev pub kept : List ℕ → ℕ → ℕ → List ℕ
kept buffer from to = take 17 (slice_range buffer from to)

-- it stands at the buffer's front, where the next read goes on behind it
abbrev pub Keeps : List ℕ → ℕ → ℕ → ℕ → List ℕ → Type 0
Keeps buffer from to waiting after =
    (waiting ≡ length (kept buffer from to)) × (after ≡ written buffer 0 (kept buffer from to)) × (waiting ≤ 17)
