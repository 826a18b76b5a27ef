-- Document 01, "One line at an offset, judged alone (1, 2, 3, 5 to 9)", and in a file with 4 at its place in the order.
use Rattle.std.specs.Prelude.{ℕ, ◌+◌, ◌-◌, Bool, not, List, ltb, length, take, drop, if◌then◌else◌, ⊤, Option, Some, None, Result, Ok, Err}
use Rattle.text.specs.Byte.{text_byte}
use Rattle.text.specs.Quoted.{bytes}
use Rattle.text.specs.Scan.{first_failing, same}
use Rattle.refusal.specs.Table.{because}
use Rattle.refusal.specs.declared.Reason.TheVariants.{FileTooLong, NoLineEnd, UnknownRecord, OutOfOrder, FieldCount, FeatureLacks}
use Rattle.fields.specs.Profile.{Rules, profile}
use Rattle.records.specs.Version.{version_numbered, under_version}
use Rattle.records.specs.Record.{named, count_fits, may_come}
use Rattle.records.specs.declared.record.Record.{Record}
use Rattle.records.specs.declared.record.Due.TheVariants.{Any}
use Rattle.line.specs.Parts.{split, name_of, fields_of}
use Rattle.line.specs.Walk.{walk}
use Rattle.line.specs.Need.{lacks}
use Rattle.line.specs.Told.{Told}
use Rattle.line.specs.declared.read.Line.{Line}
use Rattle.refusal.specs.declared.Refusal.{Refusal}

-- "A line runs to its first other byte": the first byte from here on that is no text byte, or the file's length
abbrev pub line_end : List ℕ → ℕ → ℕ
line_end file offset = first_failing (λ _ b. text_byte b) offset (drop offset file)

-- "which must be CR followed by LF"
unfoldable pub ends_well : List ℕ → ℕ → Bool
ends_well file end = same (take 2 (drop end file)) (bytes "\r\n")

-- the text of the line that starts here
abbrev pub text_at : List ℕ → ℕ → List ℕ
text_at file offset = take (line_end file offset - offset) (drop offset file)

-- "At most 65,535 bytes."
abbrev pub file_limit : ℕ
file_limit = 65535

-- 1, then 2: where the text of the line that starts here ends
unfoldable pub text_answer : List ℕ → ℕ → Result ℕ Refusal
text_answer file offset =
    if ltb file_limit (length file) then Err (because FileTooLong file_limit)
    else if ltb (length file) offset then Err (because NoLineEnd (length file))
    else if not (ends_well file (line_end file offset)) then Err (because NoLineEnd (line_end file offset))
    else Ok (line_end file offset)

-- the fields are in order, or one is not; then 9
unfoldable pub after_walk : Result ⊤ Refusal → Record → ℕ → List ℕ → Result Line Refusal
after_walk (Err refusal) kind offset line = Err refusal
after_walk (Ok tt) kind offset line =
    if lacks kind (split line) then Err (because FeatureLacks offset)
    else Ok (record { kind = kind; count = length (fields_of line); next = offset + length line + 2 })

-- the text of a line of this record that starts at this place: 5, then the fields
unfoldable pub of_kind : Rules → Record → ℕ → List ℕ → Result Line Refusal
of_kind rules kind offset line =
    if not (count_fits kind (length (fields_of line))) then Err (because FieldCount offset)
    else after_walk (walk (rules kind) 1 (offset + length (name_of line) + 1) (name_of line) (fields_of line)) kind offset line

-- 3, then 4
unfoldable pub of_named : Option Record → Told → ℕ → List ℕ → Result Line Refusal
of_named None told offset line = Err (because UnknownRecord offset)
of_named (Some kind) told offset line = if not (may_come told.due kind) then Err (because OutOfOrder offset) else of_kind told.rules kind offset line

unfoldable pub of_text : Told → ℕ → List ℕ → Result Line Refusal
of_text told offset line = of_named (named (name_of line)) told offset line

-- a line judged alone
abbrev pub alone : Rules → Told
alone rules = record { rules = rules; due = Any }

-- the line that starts here: its text, and what is answered of it
abbrev pub on_text : Result ℕ Refusal → Told → List ℕ → ℕ → Result Line Refusal
on_text (Err refusal) told file offset = Err refusal
on_text (Ok end) told file offset = of_text told offset (take (end - offset) (drop offset file))

unfoldable pub line_answer : Told → List ℕ → ℕ → Result Line Refusal
line_answer told file offset = on_text (text_answer file offset) told file offset

-- "Line calls are told the version"
unfoldable pub read_answer : ℕ → List ℕ → ℕ → Result Line Refusal
read_answer version file offset = under_version (version_numbered version) Err (λ told. line_answer (alone (profile told)) file offset)
