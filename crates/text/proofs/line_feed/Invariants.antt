-- `line_feed` meets its contract: the next from here on is the next from the start.
use Rattle.std.proofs.Common.{◌≡◌, drop}
use Rattle.text.specs.Scan.{first_failing, in_line}
use Rattle.text.proofs.line_feed.Given as goal

abbrev pub invariant-loop-i : goal.invariant-loop-i
invariant-loop-i l =
    first_failing (λ _ b. in_line b) l.i (drop l.i l.s) ≡ first_failing (λ _ b. in_line b) l.start (drop l.start l.s)
