-- Document 01, 'Refusal numbers': "Lines go in file order", and on each line 10 and 11 after the line's own refusals.
-- Document 02, request 1, puts 19 in front of the two: "after 9 on that line".
use Rattle.std.specs.Prelude.{ℕ, ◌+◌, Bool, not, List, ltb, take, if◌then◌else◌, Result, Ok, Err}
use Rattle.refusal.specs.declared.Reason.TheVariants.{ContactMissing, IdentcodeRepeated, ListFull}
use Rattle.refusal.specs.Table.{because}
use Rattle.records.specs.Record.{◌is_a◌}
use Rattle.records.specs.declared.record.Record.{Record}
use Rattle.records.specs.declared.record.Record.TheVariants.{Parcel}
use Rattle.records.specs.declared.record.Due.TheVariants.{After}
use Rattle.fields.specs.Profile.{profile}
use Rattle.line.specs.Told.{Told}
use Rattle.line.specs.Parts.{split}
use Rattle.line.specs.Line.{text_at, line_answer}
use Rattle.line.specs.declared.read.Line.{Line}
use Rattle.file.specs.Lent.{Lent}
use Rattle.file.specs.Contact.{contacts_behind, lacks_contact}
use Rattle.file.specs.Identcode.{repeats}
use Rattle.file.specs.Cash.{cash_of}
use Rattle.file.specs.declared.step.State.{State}
use Rattle.refusal.specs.declared.Refusal.{Refusal}

-- "number of 040 lines": what one line adds
abbrev pub parcels_in : Record → ℕ
parcels_in kind = if kind is_a Parcel then 1 else 0

-- the state behind an accepted line
abbrev pub behind : List ℕ → State → Line → State
behind file state line =
    record {
      at = line.next;
      lines = state.lines + 1;
      parcels = state.parcels + parcels_in line.kind;
      cents = state.cents + cash_of line.kind (split (text_at file state.at));
      version = state.version;
      due = After line.kind;
      contacts = contacts_behind line.kind (split (text_at file state.at)) state.contacts;
    }

-- what the list holds behind so many lines: where each of them starts
unfoldable pub listed_so_far : ℕ → List ℕ → List ℕ
listed_so_far lines list = take lines list

-- a list of so many words has one for the next line, behind so many lines
unfoldable pub has_word : ℕ → ℕ → Bool
has_word words lines = ltb lines words

-- 10, then 11: an accepted line comes into a list of so many words, behind the lines that start at these places
unfoldable pub listing : List ℕ → ℕ → List ℕ → State → Line → Result State Refusal
listing file words starts state line =
    if repeats line.kind file starts state.at then Err (because IdentcodeRepeated (state.at + 4))
    else if not (has_word words state.lines) then Err (because ListFull state.at)
    else Ok (behind file state line)

-- the line's answer, with what is lent, behind the lines that start at these places
unfoldable pub on_line : Result Line Refusal → List ℕ → Lent → List ℕ → State → Result State Refusal
on_line (Err refusal) file lent starts state = Err refusal
on_line (Ok line) file lent starts state =
    if lacks_contact line.kind (split (text_at file state.at)) lent.countries state.contacts
    then Err (because ContactMissing state.at)
    else listing file lent.words starts state line

-- what the judge of the next line is told
abbrev pub told_by : State → Told
told_by state = record { rules = profile state.version; due = state.due }

unfoldable pub step_answer : List ℕ → Lent → List ℕ → State → Result State Refusal
step_answer file lent starts state = on_line (line_answer (told_by state) file state.at) file lent starts state
