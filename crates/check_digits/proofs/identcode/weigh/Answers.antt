-- `identcode::weigh` meets its contract: behind all of the digits.
use Rattle.std.proofs.Common.{◌≤◌, length, sym}
use Rattle.check_digits.specs.Identcode.{allowed_in_identcode, weighed}
use Rattle.check_characters.proofs.Walks.{walk_passes}
use Rattle.check_digits.proofs.Identcodes.{weighed_ends}
use Rattle.check_digits.proofs.identcode.weigh.Goals as goal

pub returns : goal.returns
returns c =
    let s = c.args.digits.now in
    let h : length s ≤ c.loop-i.i = c.loop-i-test.false in
    rw (weighed_ends s c.loop-i.i c.loop-i.sum c.loop-i.invariant.1 h)
    (sym (walk_passes allowed_in_identcode s c.loop-i.i c.loop-i.invariant.2 (weighed s) h))
