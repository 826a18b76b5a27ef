-- The lines so far are answered, counted and printed. Each call takes lines, and each line takes bytes.
use Rattle.std.proofs.Common.{◌≡◌, ◌-◌, ◌≤◌, length}
use Rattle.scans.proofs.Repeating.{Going}
use Rattle.returns.proofs.Saying.{Said}
use Rattle.returns.proofs.answer_whole.Given as goal

abbrev pub invariant-loop-at : goal.invariant-loop-at
invariant-loop-at g l =
    (l.at ≤ length l.text)
    × (length l.answers ≡ 1024)
    × Going l.text l.initial.counts l.at l.counts
    × Said l.text l.at (g.W.Write.contents l.initial.output) (g.W.Write.contents l.output)

abbrev pub decreases-loop-at : goal.decreases-loop-at
decreases-loop-at g l = length l.text - l.at
