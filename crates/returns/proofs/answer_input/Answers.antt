use Rattle.returns.proofs.Saying.{done_all}
use Rattle.returns.proofs.answer_input.Goals as goal

pub returns-in-None : goal.returns-in-None
returns-in-None g c =
    let ended = rw c.in-None.is at c.in_ok-next.ensures in
    done_all _ _ _ _ _ _ _ _ c.turns.invariant.2 (ended.0, ended.1) ended.2
