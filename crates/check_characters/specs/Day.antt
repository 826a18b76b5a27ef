-- A day's tracking numbers at once (document 02, request 6): "The returns bench scans tracking numbers into one buffer, 15 bytes after 15
-- bytes. One call answers for all of them".
--
-- The 45 bytes 09980000020041F09980000020041G0998000002OO41F are three numbers. Their answers are 0, 18 and 17, and one passed
-- (`example_day`).
use Rattle.std.specs.Prelude.{ℕ, ◌*◌, ◌/◌, ◌%◌, ◌≡◌, not, List, eqb, ltb, length, take, drop, if◌then◌else◌, Result, Ok, Err}
use Rattle.text.specs.Placed.{written}
use Rattle.text.specs.Scan.{count}
use Rattle.text.specs.Tabled.{tabled}
use Rattle.refusal.specs.declared.Reason.TheVariants.{OutputTooShort, WrongLength}
use Rattle.refusal.specs.Table.{because, number_told, verdict_on}
use Rattle.check_characters.specs.Number.{checked_number}
use Rattle.refusal.specs.declared.Refusal.{Refusal}

-- "15 bytes after 15 bytes": the number at the place i
abbrev pub number_at : List ℕ → ℕ → List ℕ
number_at numbers i = take 15 (drop (15 * i) numbers)

-- how many there are
abbrev pub how_many : List ℕ → ℕ
how_many numbers = length numbers / 15

-- "an answer byte each: 0, 17 or 18 as each number would get alone"
unfoldable pub day_answers : List ℕ → List ℕ
day_answers numbers = tabled (λ i. number_told (verdict_on (checked_number (number_at numbers i)))) 0 (how_many numbers)

-- "the count of zeros"
abbrev pub zeros : List ℕ → ℕ
zeros answers = count (λ b. eqb b 0) answers

-- "16 if the length is not a multiple of 15, then 13 if there are fewer answer bytes than numbers", with so many answer bytes
unfoldable pub day_answer : List ℕ → ℕ → Result ℕ Refusal
day_answer numbers room =
    if not (eqb (length numbers % 15) 0) then Err (because WrongLength 0)
    else if ltb room (how_many numbers) then Err (because OutputTooShort 0)
    else Ok (zeros (day_answers numbers))

-- "Answer bytes past the last number stay"; a refusal "leaves the answers untouched"
unfoldable pub answers_after : Result ℕ Refusal → List ℕ → List ℕ → List ℕ
answers_after (Ok passed) numbers answers = written answers 0 (day_answers numbers)
answers_after (Err refusal) numbers answers = answers

-- the answer and the answer bytes that the call allows
abbrev pub ChecksDay : List ℕ → List ℕ → Result ℕ Refusal → List ℕ → Type 0
ChecksDay numbers answers answer after =
    (answer ≡ day_answer numbers (length answers)) × (after ≡ answers_after answer numbers answers)
