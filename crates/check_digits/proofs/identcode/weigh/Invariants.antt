-- `identcode::weigh`: what lies in front is weighed, and the first wrong symbol from here on is that of the whole.
use Rattle.std.proofs.Common.{◌≡◌, ◌≤◌, ◌*◌, take, drop}
use Rattle.text.specs.Scan.{first_failing}
use Rattle.check_digits.specs.Identcode.{allowed_in_identcode, wrong_in_identcode, weighed}
use Rattle.check_digits.proofs.identcode.weigh.Given as goal

abbrev pub invariant-loop-i : goal.invariant-loop-i
invariant-loop-i l =
    (l.sum ≤ 27 * l.i) × (l.sum ≡ weighed (take l.i l.digits))
    × (first_failing allowed_in_identcode l.i (drop l.i l.digits) ≡ wrong_in_identcode l.digits)
