-- The lines so far are laid out, and the text goes on behind them.
use Rattle.std.proofs.Common.{◌≡◌, length}
use Rattle.scans.proofs.Laying.{Laying}
use Rattle.scans.proofs.lay_out.Given as goal

abbrev pub invariant-loop-i : goal.invariant-loop-i
invariant-loop-i l =
    (length l.numbers ≡ length l.initial.numbers)
    × (length l.marks ≡ length l.initial.marks)
    × Laying l.text l.room l.numbers l.marks l.at l.i
