-- `place` meets its contract: one byte more is in.
use Rattle.std.proofs.Common.{rules}
use Rattle.text.proofs.Placing.{copy_again}
use Rattle.text.proofs.place.Goals as goal

pub loop-i-preserved : goal.loop-i-preserved
loop-i-preserved c =
    let more = copy_again c.args.out.now c.args.at c.args.src.now c.loop-i.out c.loop-i.i (search rules) c.loop-i-test.true c.loop-i.invariant.1 in
    search (rules, more)
