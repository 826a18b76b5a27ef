use Rattle.std.proofs.Common.{rules}
use Rattle.scans.proofs.Answering.{answers_lines}
use Rattle.scans.proofs.answer_lines.Goals as goal

pub returns : goal.returns
returns c =
    answers_lines c.args.text.now c.args.answers.now _ c.lay_out-answered.result c.lay_out-answered.new.numbers c.lay_out-answered.new.marks
    c.check_numbers.result _ c.min-room.ensures c.lay_out-answered.ensures (search rules) (search rules) c.check_numbers.ensures _
    c.overrule.ensures
