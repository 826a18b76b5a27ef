-- What the returns bench answers to an input that comes in pieces (R6e of docs/DECISIONS.md). It works each piece off as it comes:
-- `answer_lines` answers the whole lines in front, call after call, and `keep` keeps what is left for the next piece. The program's own
-- functions are held to that by returns/specs/Turns.
use Rattle.std.specs.Prelude.{ℕ, List, [], ◌∷◌, ◌++◌, map, take, ◌==◌, if◌then◌else◌}
use Rattle.scans.specs.Scans.{whole_lines, line_answer}

-- what stands behind the last line feed of a text, where the text stands behind the start of a line
abbrev pub rest_from : List ℕ → List ℕ → List ℕ
rest_from line [] = line
rest_from line (b ∷ text) = if b == 10 then rest_from [] text else rest_from (line ++ (b ∷ [])) text

abbrev pub rest_of : List ℕ → List ℕ
rest_of text = rest_from [] text

-- texts one behind the other
abbrev pub joined : List (List ℕ) → List ℕ
joined [] = []
joined (text ∷ texts) = text ++ joined texts

-- lines with their line feeds
abbrev pub ended : List (List ℕ) → List ℕ
ended lines = joined (map (λ line. line ++ (10 ∷ [])) lines)

-- bytes behind the last line feed are a last line
abbrev pub last_answer : List ℕ → List ℕ
last_answer [] = []
last_answer (b ∷ line) = line_answer (b ∷ line) ∷ []

-- the answers to an input
abbrev pub input_answers : List ℕ → List ℕ
input_answers input = map line_answer (whole_lines input) ++ last_answer (rest_of input)

-- what the bench answers to pieces that come one after the other, where some bytes wait: of a line that is not whole 17 bytes are kept
abbrev pub bench_answers : List ℕ → List (List ℕ) → List ℕ
bench_answers waiting [] = last_answer waiting
bench_answers waiting (piece ∷ pieces) =
    map line_answer (whole_lines (waiting ++ piece)) ++ bench_answers (take 17 (rest_of (waiting ++ piece))) pieces
