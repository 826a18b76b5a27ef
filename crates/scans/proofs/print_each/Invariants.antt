-- The answers so far are printed.
use Rattle.scans.proofs.Printing.{Printing}
use Rattle.scans.proofs.print_each.Given as goal

abbrev pub invariant-loop-answer : goal.invariant-loop-answer
invariant-loop-answer l = Printing l.answers l.initial.output l.output l.fill l.answer-index
