-- `whole::run`: the judge sets out, comes a line further, is stopped, or ends where a record is due.
use Rattle.std.proofs.Common.{rules}
use Rattle.file.proofs.Going.{going_none, going_more, less_left, stop_judged, due_judged}
use Rattle.file.proofs.whole.run.Goals as goal

pub loop-state-init : goal.loop-state-init
loop-state-init c = going_none _ _ _ _ _ c.version_of-version.ensures c.requires.0 c.requires.1 c.requires.2

pub loop-state-smaller : goal.loop-state-smaller
loop-state-smaller c = less_left _ _ _ _ _ c.loop-state.invariant c.one_line.result (search rules) c.one_line.ensures.value _ c.in-Ok.is

pub loop-state-preserved : goal.loop-state-preserved
loop-state-preserved c =
    going_more _ _ _ _ _ c.loop-state.invariant c.one_line.result (search rules) c.one_line.ensures.value _ c.in-Ok.is _ _
    c.one_line.ensures.sown_after c.one_line.ensures.listed

pub returns-in-Err : goal.returns-in-Err
returns-in-Err c =
    stop_judged _ _ _ _ _ c.loop-state.invariant c.one_line.result (search rules) c.one_line.ensures.value _ c.in-Err.is c.one_line.new.list _
    (search rules) (search rules)

pub returns-then-not-may_end : goal.returns-then-not-may_end
returns-then-not-may_end c =
    rw c.new.ensures (due_judged _ _ _ _ _ c.loop-state.invariant (search rules) c.may_end.result c.may_end.ensures (search rules) _ (search rules))
