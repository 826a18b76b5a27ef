-- `decimal::number` meets its contract: the bytes still to come, behind n, write the whole.
use Rattle.std.proofs.Common.{◌≡◌, drop}
use Rattle.text.specs.Decimal.{number_from, worth, number}
use Rattle.forms.proofs.Decimals.{Bounded}
use Rattle.forms.proofs.decimal.number.Given as goal

abbrev pub invariant-loop-b : goal.invariant-loop-b
invariant-loop-b l = (Bounded l.n l.b-index) × (number_from worth l.n (drop l.b-index l.s) ≡ number l.s)
