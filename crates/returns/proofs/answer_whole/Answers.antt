use Rattle.std.proofs.Common.{rules}
use Rattle.scans.proofs.Repeating.{going_none, going_through, going_ends, going_on}
use Rattle.returns.specs.Turns.{Tells, Says}
use Rattle.returns.proofs.Saying.{said_none, said_on, said_all}
use Rattle.returns.proofs.answer_whole.Goals as goal

pub loop-at-init : goal.loop-at-init
loop-at-init g c = (search rules, search rules, going_none _ _, said_none _ _)

pub returns-then-n-eq0 : goal.returns-then-n-eq0
unfolding Tells Says
returns-then-n-eq0 g c =
    let turn = c.loop-at in
    let ends = going_ends turn.invariant.2 turn.answers _ _ c.answer_lines-answered.ensures (search rules) c.if-n-eq0.true in
    record { tells = ends; says = said_all turn.invariant.3 ends.0 }

pub loop-at-preserved : goal.loop-at-preserved
loop-at-preserved g c =
    let turn = c.loop-at in
    let on = going_on turn.invariant.2 turn.answers _ _ c.answer_lines-answered.ensures _ c.count_answers-counts.ensures in
    let said = said_on turn.invariant.2 _ _ _ turn.answers _ _ turn.invariant.3 c.answer_lines-answered.ensures
    (c.in_ok-say_answers.ensures (search rules)) in
    (search rules, search rules, on, said)

pub returns : goal.returns
unfolding Tells Says
returns g c =
    let through = going_through c.loop-at.invariant.2 (search rules) in
    record { tells = through; says = said_all c.loop-at.invariant.3 through.0 }
