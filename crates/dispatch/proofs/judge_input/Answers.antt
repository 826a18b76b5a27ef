use Rattle.std.proofs.Common.{rules}
use Rattle.dispatch.proofs.Reading.{judged_all}
use Rattle.dispatch.proofs.judge_input.Goals as goal

pub returns : goal.returns
returns g c =
    judged_all _ _ _ _ c.in_ok-n.n _ _ _ _ (search rules) (search rules) c.read_input.ensures.held c.read_input.ensures.took
    c.answer-end.ensures.told c.write_out.ensures
