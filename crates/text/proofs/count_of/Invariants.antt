-- `count_of`: those passed and those still to come are all.
use Rattle.std.proofs.Common.{◌≡◌, ◌+◌, ◌≤◌, eqb, drop}
use Rattle.text.specs.Scan.{count}
use Rattle.text.proofs.count_of.Given as goal

abbrev pub invariant-loop-b : goal.invariant-loop-b
invariant-loop-b l =
    (l.n ≤ l.b-index) × (l.n + count (λ b. eqb b l.mark) (drop l.b-index l.s) ≡ count (λ b. eqb b l.mark) l.s)
