-- Document 01, 'Writer': "Record type as a number (10 for 010, up to 60), one text with all fields joined, a list of field ends, an
-- output and its fill. Order: 3, 14, 5, fields (6, 7, 8), 9, 13."
use Rattle.std.specs.Prelude.{ℕ, suc, ◌+◌, ◌-◌, ◌≡◌, Bool, not, ◌&&◌, List, [], ◌∷◌, leb, eqb, length, take, drop, if◌then◌else◌, ⊤, Option, Some, None, Result, Ok, Err}
use Rattle.text.specs.Placed.{written}
use Rattle.text.specs.Scan.{all}
use Rattle.refusal.specs.Table.{because, verdict_of, Verdict}
use Rattle.refusal.specs.declared.Reason.TheVariants.{UnknownRecord, FieldCount, FieldForm, FeatureLacks, OutputTooShort, FieldEnds}
use Rattle.fields.specs.Profile.{Row, Rules, profile}
use Rattle.records.specs.Version.{version_numbered, under_version}
use Rattle.records.specs.Record.{type_of, count_fits}
use Rattle.fields.specs.Field.{tested}
use Rattle.records.specs.declared.record.Record.{Record}
use Rattle.records.specs.declared.record.Record.TheVariants.{Header, Sender, Shipment, Parcel, Product, Feature}
use Rattle.line.specs.Render.{render, plain}
use Rattle.line.specs.Need.{lacks}
use Rattle.line.specs.Walk.{walk_by}
use Rattle.refusal.specs.declared.Refusal.{Refusal}
use Rattle.refusal.specs.declared.Reason.{Reason}

-- "Record type as a number (10 for 010, up to 60)"; any other is of no record
unfoldable pub record_numbered : ℕ → Option Record
record_numbered n =
    if eqb n 10 then Some Header
    else if eqb n 20 then Some Sender
    else if eqb n 30 then Some Shipment
    else if eqb n 40 then Some Parcel
    else if eqb n 50 then Some Product
    else if eqb n 60 then Some Feature
    else None

-- these ends never fall, from the place start on, and the last is the text's length
abbrev pub rises_to : ℕ → ℕ → List ℕ → Bool
rises_to long start [] = eqb start long
rises_to long start (end ∷ ends) = leb start end && rises_to long end ends

-- what is not refused as "field ends fall, or the last is not the text's length, or no ends with text"
unfoldable pub ends_hold : List ℕ → ℕ → Bool
ends_hold ends long = rises_to long 0 ends

-- the fields that end at these ends, the first from the place start on
abbrev pub fields_from : ℕ → List ℕ → List ℕ → List (List ℕ)
fields_from start text [] = []
fields_from start text (end ∷ ends) = take (end - start) (drop start text) ∷ fields_from end text ends

-- the fields of a text, each between the end in front of it and its own
unfoldable pub between : List ℕ → List ℕ → List (List ℕ)
between text ends = fields_from 0 text ends

-- "A semicolon or non-text byte is 8."
abbrev pub if_plain : Result ⊤ Reason → List ℕ → Result ⊤ Reason
if_plain (Err why) f = Err why
if_plain (Ok _) f = if all plain f then Ok tt else Err FieldForm

-- the reader's rule of a field, then that
unfoldable pub tested_to_write : List Row → ℕ → List ℕ → List ℕ → Result ⊤ Reason
tested_to_write rows n beside f = if_plain (tested rows n beside f) f

-- "Place is the field number for 6 to 8": the next field's is one more
abbrev pub next_number : ℕ → List ℕ → ℕ
next_number n f = suc n

-- these fields, the first with this number; beside it stands the part in front of it
abbrev pub walked : List Row → ℕ → List ℕ → List (List ℕ) → Result ⊤ Refusal
walked rows n beside fs = walk_by (tested_to_write rows) next_number n n beside fs

-- 9, then 13: whether the line fits into an output of this size behind its fill. "A fill past the output is 13."
unfoldable pub of_fields : Record → List (List ℕ) → ℕ → ℕ → Result ℕ Refusal
of_fields kind fs size fill =
    if lacks kind (type_of kind ∷ fs) then Err (because FeatureLacks 0)
    else if leb (fill + length (render kind fs)) size then Ok (length (render kind fs))
    else Err (because OutputTooShort 0)

-- the fields are in order, or one is not
abbrev pub after_walk : Result ⊤ Refusal → Record → List (List ℕ) → ℕ → ℕ → Result ℕ Refusal
after_walk (Err refusal) kind fs size fill = Err refusal
after_walk (Ok _) kind fs size fill = of_fields kind fs size fill

-- 3, then 14, then 5, then the fields
unfoldable pub of_record : Rules → Option Record → List ℕ → List ℕ → ℕ → ℕ → Result ℕ Refusal
of_record rules None text ends size fill = Err (because UnknownRecord 0)
of_record rules (Some kind) text ends size fill =
    if not (ends_hold ends (length text)) then Err (because FieldEnds 0)
    else if not (count_fits kind (length ends)) then Err (because FieldCount 0)
    else after_walk (walked (rules kind) 1 (type_of kind) (between text ends)) kind (between text ends) size fill

-- "The answer is how many bytes were written"
unfoldable pub answer_under : Rules → ℕ → List ℕ → List ℕ → ℕ → ℕ → Result ℕ Refusal
answer_under rules number text ends size fill = of_record rules (record_numbered number) text ends size fill

-- "Line calls are told the version"
unfoldable pub write_answer : ℕ → ℕ → List ℕ → List ℕ → ℕ → ℕ → Result ℕ Refusal
write_answer version number text ends size fill =
    under_version (version_numbered version) Err (λ told. answer_under (profile told) number text ends size fill)

-- "The line goes at the fill, other output bytes stay; a refusal changes none."
abbrev pub line_to : Result ℕ Refusal → Record → List (List ℕ) → List ℕ → ℕ → List ℕ
line_to (Err refusal) kind fs output fill = output
line_to (Ok n) kind fs output fill = written output fill (render kind fs)

-- the output after an answer; under an unknown record nothing is written
unfoldable pub written_to : Result ℕ Refusal → Option Record → List (List ℕ) → List ℕ → ℕ → List ℕ
written_to answer None fs output fill = output
written_to answer (Some kind) fs output fill = line_to answer kind fs output fill

-- the outcomes that the writer may have: its answer, and the output after it
abbrev pub Writes : ℕ → ℕ → List ℕ → List ℕ → List ℕ → ℕ → Result ℕ Refusal → List ℕ → Type 0
Writes version number text ends output fill answer after =
    (answer ≡ write_answer version number text ends (length output) fill)
    × (after ≡ written_to answer (record_numbered number) (between text ends) output fill)
