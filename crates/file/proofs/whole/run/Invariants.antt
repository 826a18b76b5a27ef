-- `whole::run`: the judge is on its way, and the tree has the identcodes of the lines behind it.
use Rattle.std.proofs.Common.{◌-◌, length}
use Rattle.file.proofs.Going.{Going}
use Rattle.file.proofs.whole.run.Given as goal

abbrev pub invariant-loop-state : goal.invariant-loop-state
invariant-loop-state l = Going l.file (record { countries = l.countries; words = length l.initial.list }) l.list l.codes l.state

abbrev pub decreases-loop-state : goal.decreases-loop-state
decreases-loop-state l = length l.file - l.state.at
