-- `number::walk` meets its contract: behind all of the symbols.
use Rattle.std.proofs.Common.{◌≤◌, length, sym}
use Rattle.check_characters.specs.Mod37.{carry as carryOf}
use Rattle.check_characters.specs.Number.{allowed_in_number}
use Rattle.check_characters.proofs.Carries.{carry_ends}
use Rattle.check_characters.proofs.Walks.{walk_passes}
use Rattle.check_characters.proofs.number.walk.Goals as goal

pub returns : goal.returns
returns c =
    let s = c.args.symbols.now in
    let h : length s ≤ c.loop-i.i = c.loop-i-test.false in
    rw (carry_ends s c.loop-i.i c.loop-i.carry c.loop-i.invariant.0 h)
    (sym (walk_passes (allowed_in_number c.args.kind) s c.loop-i.i c.loop-i.invariant.1 (carryOf s) h))
