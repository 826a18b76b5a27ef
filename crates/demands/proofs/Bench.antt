-- Proofs of the statements in specs/Bench.
use Prim.Native.Nat.{ℕ, ◌+◌}
use mathlib.Core.Path.{◌≡◌, refl, sym, ◌∙◌}
use mathlib.Core.List.{List, [], ◌∷◌, ◌++◌, map}
use mathlib.Core.Logic.{⊎_elim}
use native.Mathlib.Omega.{arith}
use lib.Dec.{eqb}
use lib.ListN.{length}
use borrow.Author.Tests.{eq-eqb, ne_eqb}
use Rattle.std.specs.Prelude.{if◌then◌else◌}
use Rattle.text.proofs.Numbers.{eq_or_ne}
use Rattle.scans.specs.Scans.{whole_lines, number_on, line_answer}
use Rattle.scans.specs.Pieces.{rest_of, last_answer}
use Rattle.scans.specs.Tallying.{how_often}
use Rattle.scans.proofs.Tallying as tallying
use Rattle.refused.specs.Day.{AnswerByte}
use Rattle.refused.proofs.Days.{byte_means}
use Rattle.scans.proofs.Pieces as pieces
use Rattle.demands.specs.Bench.{
  AnyPieces,
  NothingLost,
  NoFeedInside,
  GoesOn,
  RestBehind,
  SeventeenDo,
  LastLine,
  LineMeans,
  CountsTold,
  CountsGoOn,
  CountsAddUp,
  AnswerLinesUnique,
  PrintAnswersUnique,
  KeepUnique,
  CountAnswersUnique,
}

pub any_pieces : AnyPieces
any_pieces = pieces.any_pieces

pub nothing_lost : NothingLost
nothing_lost = pieces.nothing_lost

pub no_feed_inside : NoFeedInside
no_feed_inside = pieces.no_feed_inside

pub goes_on : GoesOn
goes_on = pieces.goes_on

pub rest_behind : RestBehind
rest_behind = pieces.rest_behind

pub seventeen_do : SeventeenDo
seventeen_do = pieces.seventeen_do

pub last_line : LastLine
last_line = pieces.last_line

pub line_means : LineMeans
unfolding line_answer
line_means line =
    (λ e. rw (eq-eqb (length (number_on line)) 15 e) (byte_means (number_on line) e), λ n. rw (ne_eqb (length (number_on line)) 15 n))

pub counts_told : CountsTold
counts_told = tallying.counts_told

pub counts_go_on : CountsGoOn
counts_go_on = tallying.tally_both

-- how many of the four answers this one is
abbrev is : ℕ → ℕ → ℕ
is answer a = if eqb a answer then 1 else 0

abbrev One : ℕ → Type 0
One a = is 0 a + is 16 a + is 17 a + is 18 a ≡ 1

one_byte : (number : List ℕ) (a : ℕ) → AnswerByte number a → One a
one_byte number a (AnswerByte.sound g) = refl
one_byte number a (AnswerByte.wrong_symbol i g) = refl
one_byte number a (AnswerByte.wrong_check g p) = refl

one_line : (line : List ℕ) → One (line_answer line)
one_line line =
    ⊎_elim (λ e. one_byte (number_on line) (line_answer line) ((line_means line).0 e)) (λ n. rw ((line_means line).1 n))
    (eq_or_ne (length (number_on line)) 15)

abbrev Adds : List ℕ → Type 0
Adds answers = length answers ≡ how_often 0 answers + how_often 16 answers + how_often 17 answers + how_often 18 answers

adds_lines : (lines : List (List ℕ)) (answers : List ℕ) → Adds answers → Adds (map line_answer lines ++ answers)
adds_lines [] answers e = e
adds_lines (line ∷ lines) answers e = omega (arith, one_line line, adds_lines lines answers e)

adds_last : (rest : List ℕ) → Adds (last_answer rest)
adds_last [] = refl
adds_last (b ∷ rest) = omega (arith, one_line (b ∷ rest))

pub counts_add_up : CountsAddUp
counts_add_up input = adds_lines (whole_lines input) (last_answer (rest_of input)) (adds_last (rest_of input))

pub answer_lines_unique : AnswerLinesUnique
answer_lines_unique text answers a b x y p q = (p.0 ∙ sym q.0, p.1 ∙ sym q.1)

pub print_answers_unique : PrintAnswersUnique
print_answers_unique answers output n m x y p q = (p.0 ∙ sym q.0, p.1 ∙ sym q.1)

pub keep_unique : KeepUnique
keep_unique buffer from to n m x y p q = (p.0 ∙ sym q.0, p.1 ∙ sym q.1)

pub count_answers_unique : CountAnswersUnique
count_answers_unique before a b answers p q = p ∙ sym q
