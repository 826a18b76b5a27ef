-- Document 02, request 1: a sender's phone and mail, 020.12 and 020.13, "are needed only if some shipment under that sender has a
-- consignee country on a list the caller lends". What the judge keeps of a sender, and what it asks of a shipment.
use Rattle.std.specs.Prelude.{ℕ, Bool, not, ◌&&◌, List, [], ◌∷◌, get_or, if◌then◌else◌}
use Rattle.text.specs.Scan.{all}
use Rattle.countries.specs.List.{is_listed}
use Rattle.records.specs.Record.{◌is_a◌}
use Rattle.records.specs.declared.record.Record.{Record}
use Rattle.records.specs.declared.record.Record.TheVariants.{Sender, Shipment}
use Rattle.line.specs.Need.{is_filled}

-- a sender's line has both contacts, 020.12 and 020.13
unfoldable pub has_contacts : List (List ℕ) → Bool
has_contacts parts = all (is_filled parts) (12 ∷ 13 ∷ [])

-- whether the sender behind a line has both: each new one begins anew, and any other line leaves it as it was
unfoldable pub contacts_behind : Record → List (List ℕ) → Bool → Bool
contacts_behind kind parts before = if kind is_a Sender then has_contacts parts else before

-- "either contact field is empty under a sender who needs both": asked of a shipment, whose country is 030.20, where its sender has both
-- or has not
unfoldable pub lacks_contact : Record → List (List ℕ) → List ℕ → Bool → Bool
lacks_contact kind parts countries contacts = kind is_a Shipment && (not contacts && is_listed countries (get_or parts 20 []))
