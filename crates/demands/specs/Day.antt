-- Document 02, request 6, 'A day's numbers at once': "One call answers for all of them, an answer byte each: 0, 17 or 18 as each number would
-- get alone, with the count of zeros returned. Answer bytes past the last number stay." specs/Refusals says when it refuses.
use Rattle.std.specs.Prelude.{ℕ, ◌+◌, ◌*◌, ◌<◌, ◌≡◌, List, [], ◌++◌, ◌↔◌, length, get_or, take, Result, Ok}
use Rattle.check_characters.specs.Day.{number_at, how_many, day_answers, zeros, ChecksDay}
use Rattle.refused.specs.Day.{AnsweredDay}
use Rattle.peliranopi.specs.Calls.{DayTells, NumberTells}
use Rattle.refusal.specs.declared.Refusal.{Refusal}

-- A day is answered exactly when it is so many numbers of 15 bytes with an answer byte for each: then each byte says what its own number
-- is, every other byte stays, and what is returned is the count of zeros among the answers written.
abbrev pub DayExactly : Type 0
DayExactly =
    (numbers answers after : List ℕ) (passed : ℕ) →
    ChecksDay numbers answers (Ok passed) after ↔ AnsweredDay numbers answers passed after

-- "as each number would get alone": the answer byte of each is the number that the call on it alone returns.
abbrev pub EachAsAlone : Type 0
EachAsAlone =
    (numbers answers after : List ℕ) (passed place : ℕ) → DayTells numbers answers 0 passed place after →
    (i number kind at : ℕ) → i < how_many numbers → NumberTells (number_at numbers i) number kind at → get_or after i 0 ≡ number

-- "the count of zeros": of the answers that the call leaves for the numbers.
abbrev pub ZerosCounted : Type 0
ZerosCounted =
    (numbers answers after : List ℕ) (passed place : ℕ) → DayTells numbers answers 0 passed place after →
    passed ≡ zeros (take (how_many numbers) after)

-- No numbers: they are answered, none of them passed, and nothing is written.
abbrev pub NoNumbers : Type 0
NoNumbers =
    (answers after : List ℕ) (answer : Result ℕ Refusal) → ChecksDay [] answers answer after ↔ ((answer ≡ Ok 0) × (after ≡ answers))

-- A day in two pieces, cut between two numbers, has the answers of the one and then of the other, and their zeros together: so a program
-- may take as many calls as it likes.
abbrev pub DayInPieces : Type 0
DayInPieces =
    (first rest : List ℕ) (many : ℕ) → length first ≡ 15 * many →
    (day_answers (first ++ rest) ≡ day_answers first ++ day_answers rest) ×
    (zeros (day_answers (first ++ rest)) ≡ zeros (day_answers first) + zeros (day_answers rest))
