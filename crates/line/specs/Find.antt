-- Document 01, "One field adds a field number, then 15 for 0 or above the count, and answers start and length."
use Rattle.std.specs.Prelude.{ℕ, ◌+◌, ◌||◌, List, ltb, eqb, length, if◌then◌else◌, Result, Ok, Err}
use Rattle.refusal.specs.Table.{because}
use Rattle.refusal.specs.declared.Reason.TheVariants.{NotThere}
use Rattle.fields.specs.Profile.{Rules, profile}
use Rattle.records.specs.Version.{version_numbered, under_version}
use Rattle.line.specs.Parts.{start_of, part_at}
use Rattle.line.specs.Line.{text_at, alone, line_answer}
use Rattle.line.specs.declared.read.Line.{Line}
use Rattle.line.specs.declared.find.Span.{Span}
use Rattle.refusal.specs.declared.Refusal.{Refusal}

unfoldable pub in_line : Result Line Refusal → List ℕ → ℕ → ℕ → Result Span Refusal
in_line (Err refusal) file offset n = Err refusal
in_line (Ok line) file offset n =
    if eqb n 0 || ltb line.count n then Err (because NotThere 0)
    else Ok (record { start = offset + start_of (text_at file offset) n; long = length (part_at (text_at file offset) n) })

unfoldable pub field_answer : Rules → List ℕ → ℕ → ℕ → Result Span Refusal
field_answer rules file offset n = in_line (line_answer (alone rules) file offset) file offset n

-- "Line calls are told the version"
unfoldable pub find_answer : ℕ → List ℕ → ℕ → ℕ → Result Span Refusal
find_answer version file offset n = under_version (version_numbered version) Err (λ told. field_answer (profile told) file offset n)
