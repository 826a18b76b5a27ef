-- The counts so far, with the answers still to come, are those of all.
use Rattle.std.proofs.Common.{◌≡◌, drop}
use Rattle.scans.specs.Tallying.{tallied}
use Rattle.scans.proofs.tally.count_answers.Given as goal

abbrev pub invariant-loop-answer : goal.invariant-loop-answer
invariant-loop-answer l = tallied l.counts (drop l.answer-index l.answers) ≡ tallied l.initial.counts l.answers
