-- `identcodes::unlike_at` meets its contract: what is still to compare decides as the whole does.
use Rattle.std.proofs.Common.{◌≡◌, ◌-◌}
use Rattle.identcodes.specs.Tree.{unlike_from, unlike_at}
use Rattle.identcodes.proofs.unlike_at.Given as goal

abbrev pub invariant-loop-i : goal.invariant-loop-i
invariant-loop-i l = unlike_from (22 - l.i) l.a l.b l.i ≡ unlike_at l.a l.b
