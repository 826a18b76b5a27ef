-- The records by cases: their rows, and the types that name them.
use Prim.Native.Nat.{ℕ, ◌<◌}
use mathlib.Core.Path.{◌≡◌, refl, sym, ◌∙◌}
use mathlib.Core.Bool.{false}
use mathlib.Core.List.{List}
use native.Mathlib.Omega.{arith}
use lib.Dec.{eqb}
use lib.ListN.{length}
use Rattle.text.specs.Scan.{same}
use Rattle.text.proofs.Scans.{pair_unlike}
use Rattle.records.specs.Record.{type_of, named, row_of, record_at}
use Rattle.records.specs.declared.record.Record.{Record}
use Rattle.records.specs.declared.record.Record.TheVariants.{Header, Sender, Shipment, Parcel, Product, Feature}
use Rattle.records.proofs.Types.{type_long}
use Rattle.std.specs.Prelude.{None}

-- a record has one of six rows, and its row is its own
pub row_below : (row : ℕ) (kind : Record) → row ≡ row_of kind → row < 6
row_below row Header e = omega arith
row_below row Sender e = omega arith
row_below row Shipment e = omega arith
row_below row Parcel e = omega arith
row_below row Product e = omega arith
row_below row Feature e = omega arith

pub at_row : (kind : Record) → record_at (row_of kind) ≡ kind
at_row Header = refl
at_row Sender = refl
at_row Shipment = refl
at_row Parcel = refl
at_row Product = refl
at_row Feature = refl

-- only a name of three bytes names a record
pub none_named : (name : List ℕ) → (length name ≡ 3 → ⊥) → named name ≡ None
unfolding named
none_named name n =
    let no : (kind : Record) → same name (type_of kind) ≡ false =
    λ kind. sym (pair_unlike eqb name (type_of kind) (λ e. n (e ∙ type_long kind))) in
    simp (no Header, no Sender, no Shipment, no Parcel, no Product, no Feature)
