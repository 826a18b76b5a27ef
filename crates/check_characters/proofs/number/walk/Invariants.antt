-- `number::walk`: the carry is that of the symbols in front, and the first wrong one from here on is that of the whole.
use Rattle.std.proofs.Common.{◌≡◌, take, drop}
use Rattle.text.specs.Scan.{first_failing}
use Rattle.check_characters.specs.Mod37.{carry as carryOf}
use Rattle.check_characters.specs.Number.{allowed_in_number, wrong_in_number}
use Rattle.check_characters.proofs.number.walk.Given as goal

abbrev pub invariant-loop-i : goal.invariant-loop-i
invariant-loop-i l =
    (l.carry ≡ carryOf (take l.i l.symbols))
    × (first_failing (allowed_in_number l.kind) l.i (drop l.i l.symbols) ≡ wrong_in_number l.kind l.symbols)
