-- `test::walk_fields`: what is left of the walk is the whole.
use Rattle.fields.specs.Profile.{profile}
use Rattle.writer.proofs.Walks.{Walking}
use Rattle.writer.proofs.test.walk_fields.Given as goal

abbrev pub invariant-loop-i : goal.invariant-loop-i
invariant-loop-i l = Walking (profile l.version l.kind) l.kind l.run.text.now l.run.ends.now l.beside l.start l.i
