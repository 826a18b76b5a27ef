-- `step::one_line`: where the line stops the judge, and where it is listed.
use Rattle.file.proofs.Stepping.{contact_stops, line_listed}
use Rattle.file.proofs.step.one_line.Goals as goal

pub returns-then-lacks_contact-clause-value : goal.returns-then-lacks_contact-clause-value
returns-then-lacks_contact-clause-value c =
    rw c.new.ensures
    (contact_stops _ _ _ _ c.judge_line.result c.judge_line.ensures c.in_ok-line.line c.in_ok-line.was _ c.lacks_contact.ensures c.if-lacks_contact.true)

pub returns-clause-value : goal.returns-clause-value
returns-clause-value c =
    line_listed _ _ _ _ c.judge_line.result c.judge_line.ensures c.in_ok-line.line c.in_ok-line.was _ c.lacks_contact.ensures c.if-lacks_contact.false _
    c.list_line.ensures.value
