-- `put::put_fields` meets its contract: what is left, put now, gives the whole.
use Prim.Native.Nat.{◌-◌}
use lib.ListN.{length}
use Rattle.writer.proofs.Puts.{Putting}
use Rattle.writer.proofs.put.put_fields.Given as goal

abbrev pub invariant-loop-i : goal.invariant-loop-i
invariant-loop-i l = Putting l.initial.room l.run.text.now l.run.ends.now l.room l.start l.i
