-- Record types: each record has its own, three bytes long, and a type names one record.
use Prim.Native.Nat.{ℕ}
use mathlib.Core.Path.{◌≡◌, refl, sym, ap, ◌∙◌}
use mathlib.Core.Bool.{Bool, true, false}
use mathlib.Core.List.{List}
use native.Mathlib.Omega.{arith}
use lib.ListN.{length}
use Rattle.std.specs.Prelude.{if◌then◌else◌, Option, Some, None}
use Rattle.text.specs.Scan.{same}
use Rattle.text.proofs.Scans.{same_eq}
use Rattle.records.specs.Record.{type_of, named}
use Rattle.records.specs.declared.record.Record.{Record}
use Rattle.records.specs.declared.record.Record.TheVariants.{Header, Sender, Shipment, Parcel, Product, Feature}

-- each record has its own type
pub type_named : (kind : Record) → named (type_of kind) ≡ Some kind
unfolding named
type_named Header = refl
type_named Sender = refl
type_named Shipment = refl
type_named Parcel = refl
type_named Product = refl
type_named Feature = refl

pub type_long : (kind : Record) → length (type_of kind) ≡ 3
type_long Header = refl
type_long Sender = refl
type_long Shipment = refl
type_long Parcel = refl
type_long Product = refl
type_long Feature = refl

known : (kind other : Record) → Some kind ≡ Some other → kind ≡ other
known kind other e = cc

pub type_tells : (kind other : Record) → type_of kind ≡ type_of other → kind ≡ other
type_tells kind other e = known kind other (sym (type_named kind) ∙ ap named e ∙ type_named other)

one_name : (name : List ℕ) (tried kind : Record) (rest : Option Record) → (rest ≡ Some kind → name ≡ type_of kind) →
    (if same name (type_of tried) then Some tried else rest) ≡ Some kind → name ≡ type_of kind
one_name name tried kind rest on e = go (same name (type_of tried)) refl e
  where
    go : (t : Bool) → same name (type_of tried) ≡ t → (if t then Some tried else rest) ≡ Some kind → name ≡ type_of kind
    go true q e = same_eq name (type_of tried) q ∙ ap type_of (known tried kind e)
    go false q e = on e

pub named_type : (name : List ℕ) (kind : Record) → named name ≡ Some kind → name ≡ type_of kind
unfolding named
named_type name kind e =
    one_name name Header kind _ (one_name name Sender kind _ (one_name name Shipment kind _
    (one_name name Parcel kind _ (one_name name Product kind _
    (one_name name Feature kind None (λ u. let z : ◌≡◌ {A = ℕ} 0 1 = cc in absurd (omega arith))))))) e
