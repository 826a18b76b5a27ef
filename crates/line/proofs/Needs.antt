-- What a feature needs, as the code asks it.
use mathlib.Core.Path.{◌≡◌, refl}
use mathlib.Core.Bool.{◌&&◌, not}
use mathlib.Core.List.{List}
use Prim.Native.Nat.{ℕ}
use denote.Enum.Bare.{sameb}
use Rattle.records.specs.contracts.record.Record.{the_type}
use Rattle.records.specs.declared.record.Record.{Record}
use Rattle.records.specs.declared.record.Record.TheVariants.{Header, Sender, Shipment, Parcel, Product, Feature}
use Rattle.line.specs.Need.{is_served, lacks}

-- which record it is, by `==`
pub lacks_is : (kind : Record) (parts : List (List ℕ)) → lacks kind parts ≡ (sameb the_type kind Feature && not (is_served parts))
unfolding lacks
lacks_is Header parts = refl
lacks_is Sender parts = refl
lacks_is Shipment parts = refl
lacks_is Parcel parts = refl
lacks_is Product parts = refl
lacks_is Feature parts = refl
