-- `shipment::first_parcel` meets its contract: the first parcel from the line reached on is the shipment's first.
use Prim.Native.Nat.{◌≤◌, ◌+◌, ◌-◌}
use mathlib.Core.Path.{◌≡◌}
use lib.ListN.{length, drop}
use Rattle.purpose.specs.Source.{first_parcel}
use Rattle.purpose.proofs.shipment.first_parcel.Given as goal

abbrev pub invariant-loop-i : goal.invariant-loop-i
invariant-loop-i l = (l.i ≤ length l.starts) × (first_parcel l.file (drop l.i l.starts) ≡ first_parcel l.file (drop (l.shipment + 1) l.starts))
