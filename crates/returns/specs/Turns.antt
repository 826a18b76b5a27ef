-- What a turn of the returns bench leaves: the lines so far are answered and counted, and what stands behind the last line feed waits.
use Rattle.std.specs.Prelude.{ℕ, ◌≡◌, ◌≤◌, List, [], ◌∷◌, ◌++◌, map, take, Option, Some, None, Result, Ok, Err, IfOk, OnOk}
use Rattle.std.specs.Io.KnownBytes.{Appends, Consumes, Keeps, IsAtEnd}
use Rattle.std.specs.declared.io.Error.{Error}
use Rattle.scans.specs.Scans.{whole_lines, line_answer, bytes_of, printed}
use Rattle.scans.specs.Pieces.{rest_of}
use Rattle.scans.specs.Tallying.{tallied}
use Rattle.scans.specs.declared.tally.Tally.{Tally}
use Rattle.returns.specs.Output.{ending}
use Rattle.returns.specs.declared.Bench.{Bench}
use Rattle.returns.specs.declared.Told.{Told}

-- the answers of all whole lines of a text are counted, each once, and the text goes on behind these
unfoldable pub Tells : List ℕ → Tally → Result Told Error → Type 0
Tells text before telling =
    IfOk telling
    (λ told. (told.next ≡ bytes_of (whole_lines text)) × (told.counts ≡ tallied before (map line_answer (whole_lines text))))

-- and they are printed, behind what was: an output whose bytes are known, before and after, has grown by them
unfoldable pub Says : List ℕ → Option (List ℕ) → Option (List ℕ) → Result Told Error → Type 0
Says text output after telling = OnOk telling (Appends output after (printed (map line_answer (whole_lines text))))

-- the lines of the text are counted, and 17 bytes of the rest wait at the buffer's front: what `bench_answers` says of a piece
abbrev pub Leaves : List ℕ → Tally → Bench → List ℕ → Type 0
Leaves text before bench buffer =
    (bench.counts ≡ tallied before (map line_answer (whole_lines text))) × (take bench.waiting buffer ≡ take 17 (rest_of text))

-- What a turn does that goes on: the input loses a piece, and the lines that the piece makes whole, behind what waited, are answered,
-- counted and printed.
pub record Turns (input output input' output' : Option (List ℕ)) (waiting : List ℕ) (before : Tally) (bench : Bench) (buffer : List ℕ)
    : Type 0 where
  pub piece : List ℕ
  pub lost : Consumes input input' piece
  pub said : Appends output output' (printed (map line_answer (whole_lines (waiting ++ piece))))
  pub counted : bench.counts ≡ tallied before (map line_answer (whole_lines (waiting ++ piece)))
  pub kept : take bench.waiting buffer ≡ take 17 (rest_of (waiting ++ piece))

-- the answer of a last line, where bytes wait: it is answered as if a line feed ended it
abbrev pub waiting_answers : List ℕ → List ℕ
waiting_answers [] = []
waiting_answers (b ∷ line) = map line_answer (whole_lines ((b ∷ line) ++ (10 ∷ [])))

-- what a turn does: it goes on, with at most 17 bytes that wait, or the input has ended, and what waits is answered, and the counts are said
abbrev pub Turned : Option (List ℕ) → Option (List ℕ) → Option (List ℕ) → Option (List ℕ) → List ℕ → Tally → Result (Option Bench) Error
    → List ℕ → Type 0
Turned input output input' output' waiting before (Ok (Some bench)) buffer =
    (bench.waiting ≤ 17) × Turns input output input' output' waiting before bench buffer
Turned input output input' output' waiting before (Ok None) buffer =
    Keeps input input' × IsAtEnd input' × Appends output output' (ending before (waiting_answers waiting))
Turned input output input' output' waiting before (Err error) buffer = Unit {0}
