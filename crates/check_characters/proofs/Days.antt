-- A day's numbers: the answers as they are written one by one, and what the call answers, by cases.
use Prim.Native.Nat.{ℕ, ◌+◌, ◌*◌, ◌%◌, ◌≤◌, ◌<◌}
use mathlib.Core.Path.{◌≡◌, sym, ap, ◌∙◌}
use mathlib.Core.List.{List, ◌++◌}
use native.Mathlib.Nat.{zero-add}
use native.Mathlib.Numerals.{add-one}
use native.Mathlib.Omega.{arith}
use lib.ListN.{length, take, drop, get_or, set, length-drop, length-append}
use lib.Seq.{paste, paste-suc, take-append-le, drop-append-le, take_at, drop_at, drop-drop}
use borrow.Author.Tests.{eq-eqb, ne_eqb, lt-ltb, le-ltb}
use Rattle.refusal.specs.declared.Reason.TheVariants.{OutputTooShort, WrongLength}
use Rattle.refusal.specs.Table.{because, number_told, verdict_on}
use Rattle.text.specs.Placed.{written}
use Rattle.text.proofs.Placing.{copy_done}
use Rattle.text.proofs.Tables.{tabled_at, tabled_long}
use Rattle.check_characters.specs.Number.{checked_as, checked_number}
use Rattle.check_characters.specs.Day.{number_at, how_many, day_answers, zeros, day_answer}
use Rattle.check_characters.specs.declared.number.Kind.TheVariants.{Tracking}
use Rattle.check_characters.proofs.Checking.{checked_tracking}
use Rattle.std.specs.Prelude.{Result, Ok, Err}
use Rattle.check_characters.specs.declared.number.Kind.{Kind}
use Rattle.refusal.specs.declared.Refusal.{Refusal}

-- what stands behind a number does not change it
pub number_front : (numbers behind : List ℕ) (i : ℕ) → 15 * i + 15 ≤ length numbers → number_at (numbers ++ behind) i ≡ number_at numbers i
number_front numbers behind i h =
    ap (take 15) (drop-append-le (15 * i) numbers behind (omega arith))
    ∙ take-append-le 15 (drop (15 * i) numbers) behind (simp length-drop (omega arith))

module _ (numbers : List ℕ) where
  pub answers_long : length (day_answers numbers) ≡ how_many numbers
  unfolding day_answers
  answers_long = tabled_long (λ i. number_told (verdict_on (checked_number (number_at numbers i)))) 0 (how_many numbers)

  module _ (i : ℕ) (h : i < how_many numbers) where
    pub answer_at : get_or (day_answers numbers) i 0 ≡ number_told (verdict_on (checked_number (number_at numbers i)))
    unfolding day_answers
    answer_at = tabled_at (λ j. number_told (verdict_on (checked_number (number_at numbers j)))) (how_many numbers) i 0 h

    -- where it stands
    pub number_inside : 15 * i + 15 ≤ length numbers
    number_inside = omega arith

  -- the next number and what lies behind it, as the walk over them takes them
  module _ (i : ℕ) (number rest : List ℕ) (e : drop (15 * i) numbers ≡ number ++ rest) (long : length number ≡ 15) where
    pub next_inside : i < how_many numbers
    next_inside = omega (arith, long, length-drop (15 * i) numbers, length-append number rest, ap length e)

    pub next_rest : drop (15 * (i + 1)) numbers ≡ rest
    next_rest =
        let n : 15 * (i + 1) ≡ 15 * i + 15 = omega arith in rw n (sym (drop-drop 15 (15 * i) numbers) ∙ ap (drop 15) e ∙ drop_at number rest 15 long)

    pub next_number : number ≡ number_at numbers i
    next_number = sym (ap (take 15) e ∙ take_at number rest 15 long)

    -- and what it is answered
    pub next_answer : (a : Result Kind Refusal) (v : ℕ) → a ≡ checked_as Tracking number → v ≡ number_told (verdict_on a) →
        v ≡ get_or (day_answers numbers) i 0
    next_answer a v ea ev =
        let alone : a ≡ checked_number (number_at numbers i) = ea ∙ sym (checked_tracking number long) ∙ ap checked_number next_number in
        ev ∙ ap (λ (b : Result Kind Refusal). number_told (verdict_on b)) alone ∙ sym (answer_at i next_inside)

  -- the first i answers are in
  module _ (out₀ out : List ℕ) (i : ℕ) (room : how_many numbers ≤ length out₀) (e : out ≡ paste out₀ 0 (day_answers numbers) i) where
    pub day_again : (v : ℕ) → i < how_many numbers → v ≡ get_or (day_answers numbers) i 0 →
        set out i v ≡ paste out₀ 0 (day_answers numbers) (i + 1)
    day_again v h ev =
        let there : 0 + i ≡ i = zero-add i in
        let said : set (paste out₀ 0 (day_answers numbers) i) (0 + i) (get_or (day_answers numbers) i 0) ≡ paste out₀ 0 (day_answers numbers) (i + 1) =
        rw add-one (paste-suc out₀ 0 (day_answers numbers) i 0 (omega arith) (omega (arith, answers_long))) in
        rw (ev, e) (ap (λ k. set (paste out₀ 0 (day_answers numbers) i) k (get_or (day_answers numbers) i 0)) (sym there) ∙ said)

    pub day_done : i ≤ how_many numbers → length (drop (15 * i) numbers) < 15 → out ≡ written out₀ 0 (day_answers numbers)
    day_done l h =
        let few : how_many numbers ≤ i = omega (arith, length-drop (15 * i) numbers) in
        copy_done out₀ 0 (day_answers numbers) out i (omega (arith, answers_long)) (omega (arith, answers_long)) e

  -- the answer, by cases
  module _ (room : ℕ) where
    pub day_length : (length numbers % 15 ≡ 0 → ⊥) → Err (because WrongLength 0) ≡ day_answer numbers room
    unfolding day_answer
    day_length n = simp (ne_eqb (length numbers % 15) 0)

    pub day_short : length numbers % 15 ≡ 0 → room < how_many numbers → Err (because OutputTooShort 0) ≡ day_answer numbers room
    unfolding day_answer
    day_short e h = simp (eq-eqb (length numbers % 15) 0, lt-ltb room (how_many numbers))

    pub day_answered : (passed : ℕ) → length numbers % 15 ≡ 0 → how_many numbers ≤ room → passed ≡ zeros (day_answers numbers) →
        Ok passed ≡ day_answer numbers room
    unfolding day_answer
    day_answered passed e h p = simp (eq-eqb (length numbers % 15) 0, le-ltb room (how_many numbers), p)

  -- the answers stand in front
  module _ (answers after : List ℕ) (e : after ≡ written answers 0 (day_answers numbers)) where
    pub front : take (how_many numbers) after ≡ day_answers numbers
    front = rw e (take_at (day_answers numbers) (drop (0 + length (day_answers numbers)) answers) (how_many numbers) answers_long)

    pub front_long : how_many numbers ≡ length (take (how_many numbers) after)
    front_long = sym (ap length front ∙ answers_long)

    pub day_counted : (passed : ℕ) → length numbers % 15 ≡ 0 → how_many numbers ≤ length answers → passed ≡ zeros (take (how_many numbers) after) →
        Ok passed ≡ day_answer numbers (length answers)
    day_counted passed m h p = day_answered (length answers) passed m h (p ∙ ap zeros front)

pub ruleset day_cases = (day_length, day_short, front_long, day_counted)
