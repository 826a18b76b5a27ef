-- The counts of the returns bench (R6e of docs/DECISIONS.md), answer by answer. They are the words of 64 bits that the program has: at
-- 2 ^ 64 lines one would begin again.
--
-- The answers 0, 16, 0, 18 make `lines` 4, `passed` 2, `length` and `check` 1 each, and `symbol` 0 (`example_tally`).
use Rattle.std.specs.Prelude.{ℕ, ◌+◌, ◌%◌, ◌^◌, Bool, true, List, [], ◌∷◌, ◌==◌, nat_eq, if◌then◌else◌}
use Rattle.text.specs.Scan.{count}
use Rattle.scans.specs.declared.tally.Tally.{Tally}

abbrev pub one_more : ℕ → Bool → ℕ
one_more n counts = if counts then (n + 1) % 2 ^ 64 else n

-- each answer counts as a line, and as one of its kind
unfoldable pub with_answer : Tally → ℕ → Tally
with_answer tally answer =
    record {
      lines = one_more tally.lines true;
      passed = one_more tally.passed (answer == 0);
      length = one_more tally.length (answer == 16);
      symbol = one_more tally.symbol (answer == 17);
      check = one_more tally.check (answer == 18);
    }

abbrev pub tallied : Tally → List ℕ → Tally
tallied tally [] = tally
tallied tally (answer ∷ answers) = tallied (with_answer tally answer) answers

-- before the first line
abbrev pub no_line : Tally
no_line = record { lines = 0; passed = 0; length = 0; symbol = 0; check = 0 }

-- how many answers are this one
abbrev pub how_often : ℕ → List ℕ → ℕ
how_often answer answers = count (λ a. nat_eq a answer) answers
