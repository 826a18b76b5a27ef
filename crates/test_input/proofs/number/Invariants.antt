-- The digits still to come, behind the value, write the whole.
use Rattle.std.proofs.Common.{◌≡◌, ◌≤◌, drop}
use Rattle.text.specs.Byte.{digit}
use Rattle.text.specs.Scan.{first_failing}
use Rattle.test_input.specs.Input.{value_from}
use Rattle.test_input.proofs.number.Given as goal

abbrev pub invariant-loop-i : goal.invariant-loop-i
invariant-loop-i l =
    (l.value ≤ 999999)
    × (value_from l.value (drop l.i l.s) ≡ value_from 0 (drop l.start l.s))
    × (first_failing (λ _ b. digit b) l.i (drop l.i l.s) ≡ first_failing (λ _ b. digit b) l.start (drop l.start l.s))
