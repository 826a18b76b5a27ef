-- `step::list_line`: the tree behind the line.
use Rattle.std.proofs.Common.{rules, length}
use Rattle.file.proofs.Stepping.{line_sown}
use Rattle.file.proofs.step.list_line.Goals as goal

pub returns-clause-sown_after : goal.returns-clause-sown_after
returns-clause-sown_after c =
    line_sown _ (length c.args.list.now) _ c.args.state _ c.requires.accepted.0 _ c.requires.sown.0 _ c.is_repeated.ensures.0 c.if-is_repeated.false
    (search rules) c.requires.sown.1 c.requires.accepted.1 _ c.is_repeated.ensures.1 _ c.behind_line.ensures
