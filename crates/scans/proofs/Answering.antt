-- The lines of a text, laid out, checked as a day's numbers and overruled by their marks, have their answers.
use Rattle.std.proofs.Common.{◌≡◌, ℕ, ◌+◌, ◌*◌, ◌%◌, ◌<◌, ◌≤◌, min, Bool, false, List, map, length, get_or, take, drop, sym, ap, ◌∙◌, zero-add, arith}
use Rattle.std.proofs.Common.{length-append, take-append-drop, length-take-le, get_or-take, le-ltb, eq-eqb}
use lib.ListN.{get_or-append}
use Rattle.text.specs.Placed.{written}
use Rattle.text.specs.Tabled.{tabled}
use Rattle.text.proofs.Tables.{tabled_at, tabled_long}
use Rattle.refusal.specs.Table.{number_told, verdict_on}
use Rattle.check_characters.specs.Number.{checked_number}
use Rattle.check_characters.proofs.Days.{number_front}
use Rattle.check_characters.specs.Day.{number_at, how_many, zeros, day_answers, day_answer, answers_after, ChecksDay}
use Rattle.scans.specs.declared.Answered as told_of
use Rattle.scans.specs.Scans.{whole_lines, line_answer, AnswersLines}
use Rattle.scans.specs.Laying.{ruled, answer_at, overruled, Lays}
use Rattle.scans.proofs.Tabling.{tabled_alike, written_again}
use Rattle.std.specs.Prelude.{Result, Ok}
use Rattle.refusal.specs.declared.Refusal.{Refusal}

-- what the number in the place i is told
abbrev told : List ℕ → ℕ → ℕ
told numbers i = number_told (verdict_on (checked_number (number_at numbers i)))

-- n whole numbers, with a byte each, are never refused
module _ (numbers answers : List ℕ) (n : ℕ) (long : length numbers ≡ 15 * n) (room : n ≤ length answers) where
  many : how_many numbers ≡ n
  many = rw long (omega arith)

  pub day_answers_lem : day_answers numbers ≡ tabled (told numbers) 0 n
  unfolding day_answers
  day_answers_lem = rw many

  pub day_written : (day : Result ℕ Refusal) (after : List ℕ) → ChecksDay numbers answers day after →
      after ≡ written answers 0 (day_answers numbers)
  unfolding day_answer answers_after
  day_written day after e =
      let m : length numbers % 15 ≡ 0 = rw long (omega arith) in
      let q : day ≡ Ok (zeros (day_answers numbers)) =
      e.0 ∙ rw (eq-eqb (length numbers % 15) 0 m, le-ltb (length answers) (how_many numbers) (omega (arith, many))) in
      e.1 ∙ rw q

-- each premise is a callee's promise
module _ (text answers : List ℕ) (room : ℕ) (answered : told_of.Answered) (numbers : List ℕ) (marks : List Bool) (day : Result ℕ Refusal) (checked : List ℕ)
    (er : room ≡ min (length answers) 1024) (lays : Lays text room answered numbers marks)
    (wide : 15 * room ≤ length numbers) (marked : room ≤ length marks)
    (checks : ChecksDay (take (15 * answered.lines) numbers) answers day checked) where
  few : answered.lines ≤ length answers
  few = omega (arith, lays.2)

  long : length (take (15 * answered.lines) numbers) ≡ 15 * answered.lines
  long = length-take-le (15 * answered.lines) numbers (omega (arith, lays.2))

  marks_long : length (take answered.lines marks) ≡ answered.lines
  marks_long = length-take-le answered.lines marks (omega (arith, lays.2))

  checked_is : checked ≡ written answers 0 (tabled (told (take (15 * answered.lines) numbers)) 0 answered.lines)
  checked_is = day_written (take (15 * answered.lines) numbers) answers answered.lines long few day checked checks
      ∙ ap (λ s. written answers 0 s) (day_answers_lem (take (15 * answered.lines) numbers) answers answered.lines long few)

  pub checked_long : length (take answered.lines marks) ≤ length checked
  checked_long =
      omega (
        arith,
        marks_long,
        few,
        ap length checked_is,
        length-append (tabled (told (take (15 * answered.lines) numbers)) 0 answered.lines)
            (drop (0 + length (tabled (told (take (15 * answered.lines) numbers)) 0 answered.lines)) answers),
        tabled_long (told (take (15 * answered.lines) numbers)) 0 answered.lines,
      )

  -- the number in a place is the one that was laid there
  same_number : (k : ℕ) → k < answered.lines → number_at (take (15 * answered.lines) numbers) k ≡ number_at numbers k
  same_number k h =
      sym (number_front (take (15 * answered.lines) numbers) (drop (15 * answered.lines) numbers) k (omega (arith, long)))
      ∙ ap (λ s. number_at s k) (take-append-drop (15 * answered.lines) numbers)

  same_answer : (k : ℕ) → k < answered.lines →
      ruled (get_or (take answered.lines marks) k false) (get_or checked k 0) ≡ answer_at numbers marks k
  unfolding answer_at
  same_answer k h =
      let table = tabled (told (take (15 * answered.lines) numbers)) 0 answered.lines in
      let tl = tabled_long (told (take (15 * answered.lines) numbers)) 0 answered.lines in
      let c : get_or checked k 0 ≡ told numbers k =
      ap (λ s. get_or s k 0) checked_is
      ∙ get_or-append table (drop (0 + length table) answers) 0 k (omega (arith, tl))
      ∙ tabled_at (told (take (15 * answered.lines) numbers)) answered.lines k 0 h
      ∙ ap (λ s. number_told (verdict_on (checked_number s))) (same_number k h)
      in
      rw (get_or-take answered.lines marks k false h, c)

  pub answers_lines : (out : List ℕ) → out ≡ overruled (take answered.lines marks) checked → AnswersLines text answers answered out
  answers_lines out eo =
      let rule : ℕ → ℕ = λ i. ruled (get_or (take answered.lines marks) i false) (get_or checked i 0) in
      let first = tabled (told (take (15 * answered.lines) numbers)) 0 answered.lines in
      let first_long = tabled_long (told (take (15 * answered.lines) numbers)) 0 answered.lines in
      let last = tabled (answer_at numbers marks) 0 answered.lines in
      let lastLong = tabled_long (answer_at numbers marks) 0 answered.lines in
      let alike : tabled rule 0 (length (take answered.lines marks)) ≡ last =
      ap (λ k. tabled rule 0 k) marks_long
      ∙ tabled_alike rule (answer_at numbers marks) 0 answered.lines (λ k h. rw zero-add (same_answer k h))
      in
      let all : out ≡ written answers 0 (map line_answer (take room (whole_lines text))) =
      eo ∙ ap (λ s. written checked 0 s) alike
      ∙ ap (λ s. written s 0 last) checked_is
      ∙ written_again answers first last (first_long ∙ sym lastLong) (omega (arith, first_long, few))
      ∙ ap (λ s. written answers 0 s) (sym lays.1)
      in
      (rw (← er) lays.0, rw (← er) all, few, lays.3, lays.4)
