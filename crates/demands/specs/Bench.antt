-- The program for the returns bench, which checks a day's numbers one a line (R6e of docs/DECISIONS.md): each line is answered once, however
-- long it is and in whatever pieces the input comes.
use Rattle.std.specs.Prelude.{ℕ, ◌+◌, ◌^◌, ◌<◌, ◌≡◌, true, List, [], ◌∷◌, ◌++◌, length, take, drop, get_or}
use Rattle.text.specs.Scan.{all, in_line}
use Rattle.scans.specs.Scans.{whole_lines, number_on, line_answer, bytes_of, AnswersLines, Prints, Keeps}
use Rattle.scans.specs.Pieces.{rest_of, joined, ended, input_answers, bench_answers}
use Rattle.scans.specs.Tallying.{tallied, no_line, how_often}
use Rattle.scans.specs.declared.Answered.{Answered}
use Rattle.scans.specs.declared.tally.Tally.{Tally}
use Rattle.refused.specs.Day.{AnswerByte}

-- Whatever the pieces, each line of the input is answered once, and in its order.
abbrev pub AnyPieces : Type 0
AnyPieces = (pieces : List (List ℕ)) → bench_answers [] pieces ≡ input_answers (joined pieces)

-- A text is its lines with their line feeds, and the rest,
abbrev pub NothingLost : Type 0
NothingLost = (text : List ℕ) → text ≡ ended (whole_lines text) ++ rest_of text

-- and in none of these stands a line feed.
abbrev pub NoFeedInside : Type 0
NoFeedInside = (text : List ℕ) → ((i : ℕ) → all in_line (get_or (whole_lines text) i []) ≡ true) × (all in_line (rest_of text) ≡ true)

-- Behind lines that were answered the text goes on with the others,
abbrev pub GoesOn : Type 0
GoesOn = (text : List ℕ) (n : ℕ) → whole_lines (drop (bytes_of (take n (whole_lines text))) text) ≡ drop n (whole_lines text)

-- and behind the last of them stands the rest.
abbrev pub RestBehind : Type 0
RestBehind = (text : List ℕ) → drop (bytes_of (whole_lines text)) text ≡ rest_of text

-- A line is answered as its first 17 bytes are: so much is kept of one that is not whole.
abbrev pub SeventeenDo : Type 0
SeventeenDo = (line : List ℕ) → line_answer (take 17 line) ≡ line_answer line

-- A last line is answered like one that a line feed ends.
abbrev pub LastLine : Type 0
LastLine = (text : List ℕ) → whole_lines (rest_of text ++ (10 ∷ [])) ≡ rest_of text ∷ []

-- The answer of a line says what its number is, and is 16 where that has not 15 symbols.
abbrev pub LineMeans : Type 0
LineMeans =
    (line : List ℕ) →
    (length (number_on line) ≡ 15 → AnswerByte (number_on line) (line_answer line)) ×
    ((length (number_on line) ≡ 15 → ⊥) → line_answer line ≡ 16)

-- "a last line with the counts": behind all answers, call after call, the first is that of the lines, and each other that of its answer.
abbrev pub CountsTold : Type 0
CountsTold =
    (answers : List ℕ) → length answers < 2 ^ 64 →
    tallied no_line answers
    ≡ record {
      lines = length answers;
      passed = how_often 0 answers;
      length = how_often 16 answers;
      symbol = how_often 17 answers;
      check = how_often 18 answers;
    }

abbrev pub CountsGoOn : Type 0
CountsGoOn = (tally : Tally) (first rest : List ℕ) → tallied tally (first ++ rest) ≡ tallied (tallied tally first) rest

-- Every line of an input is in one of the four.
abbrev pub CountsAddUp : Type 0
CountsAddUp =
    (input : List ℕ) →
    let answers = input_answers input in
    length answers ≡ how_often 0 answers + how_often 16 answers + how_often 17 answers + how_often 18 answers

-- Of each function two outcomes that its contract allows are equal.
abbrev pub AnswerLinesUnique : Type 0
AnswerLinesUnique =
    (text answers : List ℕ) (a b : Answered) (x y : List ℕ) → AnswersLines text answers a x → AnswersLines text answers b y →
    (a ≡ b) × (x ≡ y)

abbrev pub PrintAnswersUnique : Type 0
PrintAnswersUnique =
    (answers output : List ℕ) (n m : ℕ) (x y : List ℕ) → Prints answers output n x → Prints answers output m y → (n ≡ m) × (x ≡ y)

abbrev pub KeepUnique : Type 0
KeepUnique =
    (buffer : List ℕ) (from to n m : ℕ) (x y : List ℕ) → Keeps buffer from to n x → Keeps buffer from to m y → (n ≡ m) × (x ≡ y)

abbrev pub CountAnswersUnique : Type 0
CountAnswersUnique = (before a b : Tally) (answers : List ℕ) → a ≡ tallied before answers → b ≡ tallied before answers → a ≡ b
