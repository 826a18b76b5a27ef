-- Numbers 15 bytes after 15 bytes: one more is laid at its place, and those in front of it stay.
use Rattle.std.proofs.Common.{◌≡◌, ℕ, ◌+◌, ◌*◌, ◌<◌, ◌≤◌, Bool, true, false, eqb, List, ◌++◌, length, take, drop, set, sym, refl, ap, ◌∙◌}
use Rattle.std.proofs.Common.{append_assoc, arith, take-append-drop, length-take-le, get_or-set_other, get_or-set_same, take_at, drop_at}
use Rattle.std.proofs.Common.{eqb-true}
use Rattle.std.specs.Prelude.{if◌then◌else◌}
use Rattle.text.specs.Placed.{written, placed}
use Rattle.text.proofs.Placing.{placed_there, placed_long}
use Rattle.refusal.specs.Table.{number_told, verdict_on}
use Rattle.check_characters.specs.Number.{checked_number}
use Rattle.check_characters.specs.Day.{number_at}
use Rattle.check_characters.proofs.Days.{number_front}
use Rattle.scans.specs.Scans.{number_on, line_answer}
use Rattle.scans.specs.Laying.{is_number, laid, ruled, answer_at}

module _ (numbers number : List ℕ) (i : ℕ) (l : 15 * i + length number ≤ length numbers) where
  pub number_stays : (k : ℕ) → k < i → number_at (written numbers (15 * i) number) k ≡ number_at numbers k
  number_stays k h =
      let n : length (take (15 * i) numbers) ≡ 15 * i = length-take-le (15 * i) numbers (omega arith) in
      let f : 15 * k + 15 ≤ length (take (15 * i) numbers) = omega arith in
      ap (λ s. number_at s k) (append_assoc (take (15 * i) numbers) number (drop (15 * i + length number) numbers))
      ∙ number_front (take (15 * i) numbers) (number ++ drop (15 * i + length number) numbers) k f
      ∙ sym (number_front (take (15 * i) numbers) (drop (15 * i) numbers) k f)
      ∙ ap (λ s. number_at s k) (take-append-drop (15 * i) numbers)

  pub number_there : length number ≡ 15 → number_at (written numbers (15 * i) number) i ≡ number
  number_there e =
      let n : length (take (15 * i) numbers) ≡ 15 * i = length-take-le (15 * i) numbers (omega arith) in
      ap (λ s. number_at s i) (append_assoc (take (15 * i) numbers) number (drop (15 * i + length number) numbers))
      ∙ ap (λ s. take 15 s) (drop_at (take (15 * i) numbers) (number ++ drop (15 * i + length number) numbers) (15 * i) n)
      ∙ take_at number (drop (15 * i + length number) numbers) 15 e

-- a line laid out: each premise is a fact that the loop has
module _ (numbers : List ℕ) (marks : List Bool) (line : List ℕ) (i : ℕ) (m : Bool) (after : List ℕ) (fits : 15 * i + 15 ≤ length numbers) (is : i < length marks)
    (em : m ≡ is_number line) (ea : after ≡ laid numbers (15 * i) line) where
  pub laid_long : length after ≡ length numbers
  laid_long = ap length ea ∙ go (eqb (length (number_on line)) 15)
    where
      go : (t : Bool) → length (if t then placed numbers (15 * i) (number_on line) else numbers) ≡ length numbers
      go true = placed_long numbers (15 * i) (number_on line)
      go false = refl

  stays : (k : ℕ) → k < i → number_at after k ≡ number_at numbers k
  stays k h = ap (λ s. number_at s k) ea ∙ go (eqb (length (number_on line)) 15) refl
    where
      go : (t : Bool) → eqb (length (number_on line)) 15 ≡ t →
          number_at (if t then placed numbers (15 * i) (number_on line) else numbers) k ≡ number_at numbers k
      go true e =
          let n : length (number_on line) ≡ 15 = eqb-true (length (number_on line)) 15 e in
          ap (λ s. number_at s k) (placed_there numbers (15 * i) (number_on line) (omega arith))
          ∙ number_stays numbers (number_on line) i (omega arith) k h
      go false e = refl

  pub answer_stays : (k : ℕ) → k < i → answer_at after (set marks i m) k ≡ answer_at numbers marks k
  unfolding answer_at
  answer_stays k h = rw (stays k h, get_or-set_other marks i k m false (λ e. omega arith))

  pub answer_there : answer_at after (set marks i m) i ≡ line_answer line
  unfolding answer_at line_answer
  answer_there = rw (get_or-set_same marks i m false is, em, ea) (go (eqb (length (number_on line)) 15) refl)
    where
      go : (t : Bool) → eqb (length (number_on line)) 15 ≡ t →
          ruled t
          (number_told (verdict_on (checked_number (number_at (if t then placed numbers (15 * i) (number_on line) else numbers) i))))
          ≡ (if t then number_told (verdict_on (checked_number (number_on line))) else 16)
      go true e =
          let n : length (number_on line) ≡ 15 = eqb-true (length (number_on line)) 15 e in
          ap (λ s. number_told (verdict_on (checked_number s)))
          (ap (λ s. number_at s i) (placed_there numbers (15 * i) (number_on line) (omega arith))
          ∙ number_there numbers (number_on line) i (omega arith) n)
      go false e = refl
