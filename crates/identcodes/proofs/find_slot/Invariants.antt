-- `identcodes::find_slot` meets its contract: the way that is left ends where the whole does.
use Rattle.std.proofs.Common.{◌≡◌, ◌-◌}
use Rattle.identcodes.specs.Tree.{slot_from}
use Rattle.identcodes.proofs.find_slot.Given as goal

abbrev pub invariant-loop-turn : goal.invariant-loop-turn
invariant-loop-turn l = slot_from (l.turns - l.turn) l.tree l.code l.slot ≡ slot_from l.turns l.tree l.code 0
