-- `write::write_line`: the version and the record are known.
use Rattle.writer.specs.Write.{write_answer}
use Rattle.records.proofs.Versions.{under_either}
use Rattle.writer.proofs.Answers.{number_known, output_after_lem}
use Rattle.writer.proofs.write.write_line.Goals as goal

pub returns : goal.returns
unfolding write_answer
returns c = (
  under_either _ _ _ _ c.version_numbered-told.ensures _ c.in_ok-version.version c.in_ok-version.ensures.ok_part
      (number_known _ _ _ _ _ _ _ c.record_numbered.ensures c.in_ok-kind.kind c.in_ok-kind.ensures.ok_part _ c.of_record.ensures.0),
  output_after_lem _ _ c.in_ok-kind.kind _ _ _ _ c.of_record.result c.record_numbered.ensures c.in_ok-kind.ensures.ok_part c.of_record.ensures.1,
)
