-- Document 01, 'Whole file': the lines of a file, one after the other, and what the list then holds.
use Rattle.std.specs.Prelude.{ℕ, zero, suc, ◌+◌, ◌-◌, ◌≡◌, true, not, List, [], ◌∷◌, ◌++◌, ltb, length, replicate, if◌then◌else◌, Result, Ok, Err}
use Rattle.refusal.specs.Table.{because}
use Rattle.refusal.specs.declared.Reason.TheVariants.{FileTooLong, FileEnds, CountriesOdd}
use Rattle.countries.specs.List.{is_paired}
use Rattle.records.specs.Record.{may_end}
use Rattle.records.specs.declared.record.Due.TheVariants.{First}
use Rattle.records.specs.declared.version.Version.{Version}
use Rattle.line.specs.Line.{file_limit}
use Rattle.file.specs.Lent.{Lent}
use Rattle.file.specs.Version.{version_of}
use Rattle.file.specs.Step.{step_answer}
use Rattle.file.specs.declared.step.State.{State}
use Rattle.file.specs.declared.whole.Totals.{Totals}
use Rattle.refusal.specs.declared.Refusal.{Refusal}

-- what is said of a file: the answer, and where its lines start if it is accepted
pub record Judged : Type 0 where
  pub answer : Result Totals Refusal
  pub starts : List ℕ

-- under the rules of a version; before the first sender no contact is missing
abbrev pub begin : Version → State
begin version = record { at = 0; lines = 0; parcels = 0; cents = 0; version = version; due = First; contacts = true }

-- "Accepted: number of lines, number of 040 lines, and the cash total in cents"
abbrev pub passed : List ℕ → State → Judged
passed starts state =
    record { answer = Ok (record { lines = state.lines; parcels = state.parcels; cents = state.cents }); starts = starts }

-- "12 comes last": the file may end here, or a record is due
abbrev pub ended : List ℕ → List ℕ → State → Judged
ended file starts state =
    if may_end state.due then passed starts state
    else record { answer = Err (because FileEnds (length file)); starts = [] }

-- a refused line is the file's refusal; behind an accepted one the next follows
abbrev pub on_step : Result State Refusal → (State → Judged) → Judged
on_step (Ok state) more = more state
on_step (Err refusal) more = record { answer = Err refusal; starts = [] }

-- the file from a state on, with what is lent, behind the lines that start at these places. A file has fewer lines
-- than bytes, so that as many turns as bytes, and one for the end, are enough.
abbrev pub file_from : ℕ → List ℕ → Lent → List ℕ → State → Judged
file_from zero file lent starts state = ended file starts state
file_from (suc turns) file lent starts state =
    if ltb state.at (length file) then
    on_step (step_answer file lent starts state) (λ next. file_from turns file lent (starts ++ (state.at ∷ [])) next)
    else ended file starts state

-- "1 comes first of all.", and "the list's length is odd, place 0, after 1"
unfoldable pub judged : List ℕ → Lent → Judged
judged file lent =
    if ltb file_limit (length file) then record { answer = Err (because FileTooLong file_limit); starts = [] }
    else if not (is_paired lent.countries) then record { answer = Err (because CountriesOdd 0); starts = [] }
    else file_from (length file + 1) file lent [] (begin (version_of file))

-- "every word below the line count holds that line's first offset, and every other word is 0. On a refusal all words are 0."
abbrev pub list_of : ℕ → List ℕ → List ℕ
list_of words starts = starts ++ replicate (words - length starts) 0

-- the answer and the list that judging allows
abbrev pub Judges : List ℕ → Lent → Result Totals Refusal → List ℕ → Type 0
Judges file lent answer list = (answer ≡ (judged file lent).answer) × (list ≡ list_of lent.words (judged file lent).starts)
