-- The answers so far are those of the definition, and the others are as they were.
use Rattle.std.proofs.Common.{◌≡◌, length}
use Rattle.scans.proofs.Overruling.{Overruling}
use Rattle.scans.proofs.overrule.Given as goal

abbrev pub invariant-loop-i : goal.invariant-loop-i
invariant-loop-i l = (length l.answers ≡ length l.initial.answers) × Overruling l.marks l.initial.answers l.answers l.i
