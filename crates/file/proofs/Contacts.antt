-- A sender's contacts, by the cases that the code meets.
use Prim.Native.Nat.{ℕ}
use mathlib.Core.Path.{◌≡◌}
use mathlib.Core.Bool.{Bool, true, false, not, and-false}
use mathlib.Core.List.{List, []}
use lib.ListN.{length, get_or}
use Rattle.text.proofs.Scans.{no_bytes}
use Rattle.countries.specs.List.{is_listed}
use Rattle.records.specs.Record.{◌is_a◌}
use Rattle.records.specs.declared.record.Record.{Record}
use Rattle.records.specs.declared.record.Record.TheVariants.{Shipment}
use Rattle.file.specs.Contact.{contacts_behind, lacks_contact}

-- an arm of a match is a case of the rule
pub contacts_as : (kind case : Record) (parts : List (List ℕ)) (before t : Bool) → kind ≡ case → t ≡ contacts_behind case parts before →
    t ≡ contacts_behind kind parts before
contacts_as kind case parts before t e f = rw e f

module _ (parts : List (List ℕ)) (countries : List ℕ) (contacts : Bool) where
  pub has_both : (kind : Record) → contacts ≡ true → false ≡ lacks_contact kind parts countries contacts
  unfolding lacks_contact
  has_both kind e = rw (e, and-false (kind is_a Shipment))

  pub none_lent : (kind : Record) → length countries ≡ 0 → false ≡ lacks_contact kind parts countries contacts
  unfolding lacks_contact
  none_lent kind e =
      let empty : countries ≡ [] = no_bytes countries e in
      rw (empty, and-false (not contacts), and-false (kind is_a Shipment))

  pub lacks_listed : (kind : Record) → kind ≡ Shipment → contacts ≡ false → (country : List ℕ) → country ≡ get_or parts 20 [] → (t : Bool) →
      t ≡ is_listed countries country → t ≡ lacks_contact kind parts countries contacts
  unfolding lacks_contact
  lacks_listed kind k e country ec t et = rw (k, e, ← ec) et
