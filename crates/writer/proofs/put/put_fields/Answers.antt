-- `put::put_fields`: nothing is put yet, and one field more.
use Rattle.std.proofs.Common.{rules}
use Rattle.writer.proofs.Puts.{putting_none, putting_on}
use Rattle.writer.proofs.put.put_fields.Goals as goal

pub loop-i-init : goal.loop-i-init
loop-i-init c = putting_none _ _ _ (search rules)

pub loop-i-preserved : goal.loop-i-preserved
loop-i-preserved c =
    putting_on _ _ _ _ _ _ c.loop-i.invariant (search rules) c.requires c.place.new.out c.place-in-loop-i.new.out c.place.ensures c.place-in-loop-i.ensures
