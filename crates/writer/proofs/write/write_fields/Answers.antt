-- `write::write_fields`: the line has room, and stands where it goes.
use Rattle.std.proofs.Common.{rules}
use Rattle.writer.proofs.Answers.{line_long, text_long, has_room, line_there}
use Rattle.writer.proofs.write.write_fields.Goals as goal

pub returns : goal.returns
returns c = (search (rules, has_room), search (rules, line_there))
