-- `carry::check_of`: the carry is that of the symbols in front.
use Rattle.std.proofs.Common.{◌≡◌, take}
use Rattle.check_characters.specs.Mod37.{carry as carryOf}
use Rattle.check_characters.proofs.carry.check_of.Given as goal

abbrev pub invariant-loop-b : goal.invariant-loop-b
invariant-loop-b l = l.carry ≡ carryOf (take l.b-index l.symbols)
