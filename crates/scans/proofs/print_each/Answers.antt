use Rattle.scans.proofs.Printing.{printing_on}
use Rattle.scans.proofs.print_each.Goals as goal

pub loop-answer-preserved : goal.loop-answer-preserved
loop-answer-preserved c =
    let one = c.print_one-fill.ensures in
    printing_on c.loop-answer.invariant _ _ c.loop-answer-test.true one.0 one.1 one.2
