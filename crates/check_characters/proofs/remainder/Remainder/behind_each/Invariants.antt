-- `remainder::Remainder::behind_each`: the remainder from here on is that of the whole.
use Rattle.std.proofs.Common.{◌≡◌, ◌%◌, drop}
use Rattle.check_characters.specs.Iban.{spread, decimal_from}
use Rattle.check_characters.proofs.remainder.Remainder.behind_each.Given as goal

abbrev pub invariant-loop-b : goal.invariant-loop-b
invariant-loop-b l = decimal_from l.last.number (spread (drop l.b-index l.run)) % 97 ≡ decimal_from l.fn.self.number (spread l.run) % 97
