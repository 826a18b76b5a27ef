-- `shipment::shipment_above` meets its contract: the shipment above the line reached is the one above the line given.
use Prim.Native.Nat.{◌≤◌}
use mathlib.Core.Path.{◌≡◌}
use Rattle.purpose.specs.Source.{shipment_above}
use Rattle.purpose.proofs.shipment.shipment_above.Given as goal

abbrev pub invariant-loop-i : goal.invariant-loop-i
invariant-loop-i l = (l.i ≤ l.number) × (shipment_above l.file l.starts l.i ≡ shipment_above l.file l.starts l.number)
