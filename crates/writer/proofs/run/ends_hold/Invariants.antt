-- `run::ends_hold`: what is left of the ends holds when all do.
use Rattle.std.proofs.Common.{◌≡◌, ◌≤◌, length, drop}
use Rattle.writer.specs.Write.{rises_to, ends_hold}
use Rattle.writer.proofs.run.ends_hold.Given as goal

abbrev pub invariant-loop-end : goal.invariant-loop-end
invariant-loop-end l = (l.end-index ≤ length l.ends) × (rises_to l.long l.start (drop l.end-index l.ends) ≡ ends_hold l.ends l.long)
