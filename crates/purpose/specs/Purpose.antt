-- Document 01, 'Payment purpose': the text, what is answered, and what the lent list and the output then hold.
use Rattle.std.specs.Prelude.{ℕ, ◌≡◌, List, [], ◌++◌, ltb, length, take, replicate, if◌then◌else◌, Option, Some, None, Result, Ok, Err}
use Rattle.text.specs.Placed.{written}
use Rattle.text.specs.Quoted.{bytes}
use Rattle.refusal.specs.Table.{because, verdict_of, Verdict}
use Rattle.refusal.specs.declared.Reason.TheVariants.{OutputTooShort, NotThere}
use Rattle.file.specs.Lent.{Lent}
use Rattle.file.specs.File.{judged, list_of}
use Rattle.purpose.specs.At.{field_at}
use Rattle.purpose.specs.Source.{source_of}
use Rattle.purpose.specs.declared.source.Source.{Source}
use Rattle.purpose.specs.declared.source.Source.TheVariants.{Field, Joined}
use Rattle.file.specs.declared.whole.Totals.{Totals}
use Rattle.refusal.specs.declared.Refusal.{Refusal}

-- "The first 35 bytes count."
abbrev pub purpose_long : ℕ
purpose_long = 35

abbrev pub cut : List ℕ → List ℕ
cut text = take purpose_long text

-- the whole text that a source supplies: a field, or "that 040's field 1, `/`, 030.16"
abbrev pub source_text : List ℕ → Source → List ℕ
source_text file (Field offset n) = field_at file offset n
source_text file (Joined parcel shipment) = field_at file parcel 1 ++ bytes "/" ++ field_at file shipment 16

abbrev pub text_from : List ℕ → Option Source → List ℕ
text_from file (Some source) = cut (source_text file source)
text_from file None = []

-- 15, then 13: "output under 35", for an output of so many bytes
unfoldable pub on_source : Option Source → List ℕ → ℕ → Result ℕ Refusal
on_source None file room = Err (because NotThere 0)
on_source (Some source) file room = if ltb room purpose_long then Err (because OutputTooShort 0) else Ok (length (cut (source_text file source)))

-- "Order: the file's refusals, 15, 13"
unfoldable pub on_file : Result Totals Refusal → Option Source → List ℕ → ℕ → Result ℕ Refusal
on_file (Err refusal) sourced file room = Err refusal
on_file (Ok totals) sourced file room = on_source sourced file room

-- the source for the line with this number, with what is lent
abbrev pub purpose_source : List ℕ → ℕ → Lent → Option Source
purpose_source file n lent = source_of file (judged file lent).starts n

abbrev pub purpose_answer : List ℕ → ℕ → Lent → ℕ → Result ℕ Refusal
purpose_answer file n lent room = on_file (judged file lent).answer (purpose_source file n lent) file room

abbrev pub purpose_of : List ℕ → ℕ → Lent → List ℕ
purpose_of file n lent = text_from file (purpose_source file n lent)

-- "list lent as for the whole file", and "the list's words are all 0 after 15 or 13 too"
abbrev pub list_after : Result ℕ Refusal → ℕ → List ℕ → List ℕ
list_after (Ok n) words starts = list_of words starts
list_after (Err refusal) words starts = replicate words 0

-- "The output's other bytes stay, and all of them on a refusal"
abbrev pub output_after : Result ℕ Refusal → List ℕ → List ℕ → List ℕ
output_after (Ok n) text output = written output 0 text
output_after (Err refusal) text output = output

-- the answer, the list and the output that the call allows
abbrev pub Purposes : List ℕ → ℕ → Lent → List ℕ → Result ℕ Refusal → List ℕ → List ℕ → Type 0
Purposes file n lent output answer list after =
    (answer ≡ purpose_answer file n lent (length output))
    × (list ≡ list_after answer lent.words (judged file lent).starts)
    × (after ≡ output_after answer (purpose_of file n lent) output)
