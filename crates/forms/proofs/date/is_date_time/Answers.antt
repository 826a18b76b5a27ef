-- `date::is_date_time` meets its contract: what follows the pattern has 19 bytes.
use Rattle.std.proofs.Common.{rules, tests}
use Rattle.text.proofs.Choices.{test_held, test_holds}
use Rattle.forms.specs.Date.{like, date_time}
use Rattle.forms.proofs.Dates.{nineteen}
use Rattle.forms.proofs.date.is_date_time.Goals as goal

ruleset laws = (rules, tests, test_held, test_holds, nineteen)

pub is_good_day-requires : goal.is_good_day-requires
is_good_day-requires c = search laws

pub is_good_time-requires : goal.is_good_time-requires
is_good_time-requires c = search laws

pub returns-then-is_good_day : goal.returns-then-is_good_day
unfolding date_time like
returns-then-is_good_day c = search laws
