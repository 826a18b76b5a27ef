-- `remainder::Remainder::behind`: the remainder from here on is that of the whole.
use Rattle.std.proofs.Common.{◌≡◌, ◌%◌, length}
use Rattle.check_characters.specs.Iban.{spread, decimal_from}
use Rattle.check_characters.proofs.remainder.Remainder.behind.Given as goal

abbrev pub invariant-loop-left : goal.invariant-loop-left
invariant-loop-left l = decimal_from l.last.number (spread l.left) % 97 ≡ decimal_from l.fn.self.number (spread l.run) % 97

abbrev pub decreases-loop-left : goal.decreases-loop-left
decreases-loop-left l = length l.left
