-- The buffer stays as long as it was, at most 17 bytes of it wait, and all before them is answered.
use Rattle.std.proofs.Common.{◌≡◌, ◌≤◌, length, take}
use Rattle.returns.proofs.Saying.{Done}
use Rattle.returns.proofs.answer_input.Given as goal

abbrev pub invariant-turns : goal.invariant-turns
invariant-turns g l =
    (length l.buffer ≡ 65536)
    × (l.bench.waiting ≤ 17)
    × Done (g.I.Read.remaining l.initial.input) (g.I.Read.remaining l.input) (g.W.Write.contents l.initial.output)
    (g.W.Write.contents l.output) (take l.bench.waiting l.buffer) l.bench.counts
