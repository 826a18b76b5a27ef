-- Document 01, 'Payment purpose' (document 000, 5.6.4): which field, or which two, supply the text. A file's lines are known here by
-- where they start.
use Rattle.std.specs.Prelude.{ℕ, zero, suc, ◌+◌, Bool, ◌&&◌, List, [], ◌∷◌, leb, length, drop, get_or, if◌then◌else◌, Option, Some, None}
use Rattle.text.specs.Quoted.{bytes}
use Rattle.text.specs.Scan.{same}
use Rattle.purpose.specs.At.{field_at, filled_at, is_typed}
use Rattle.purpose.specs.declared.source.Source.{Source}
use Rattle.purpose.specs.declared.source.Source.TheVariants.{Field, Joined}

-- "a 006 line": a 060 line with this code
unfoldable pub is_cash_line : List ℕ → ℕ → Bool
is_cash_line file offset = is_typed file offset (bytes "060") && same (field_at file offset 1) (bytes "006")

-- "The shipment is the nearest 030 above": its number, above the line with this number. The order of records gives each 006 line of
-- an accepted file one, so that the number where there is none, 0, never counts.
abbrev pub shipment_above : List ℕ → List ℕ → ℕ → ℕ
shipment_above file starts zero = 0
shipment_above file starts (suc n) = if is_typed file (get_or starts n 0) (bytes "030") then n else shipment_above file starts n

-- "the shipment's first 040": where the first of these lines that is one starts; each shipment of an accepted file has one
abbrev pub first_parcel : List ℕ → List ℕ → ℕ
first_parcel file [] = 0
first_parcel file (offset ∷ starts) = if is_typed file offset (bytes "040") then offset else first_parcel file starts

-- "else the first filled of 030.1, 030.34, 030.36 and field 3 of the shipment's first 040; else that 040's field 1, `/`, 030.16"
unfoldable pub from_shipment : List ℕ → ℕ → ℕ → Source
from_shipment file shipment parcel =
    if filled_at file shipment 1 then Field shipment 1
    else if filled_at file shipment 34 then Field shipment 34
    else if filled_at file shipment 36 then Field shipment 36
    else if filled_at file parcel 3 then Field parcel 3
    else Joined parcel shipment

-- the shipment of a line, and its first parcel behind it
abbrev pub in_shipment : List ℕ → List ℕ → ℕ → Source
in_shipment file starts shipment = from_shipment file (get_or starts shipment 0) (first_parcel file (drop (shipment + 1) starts))

-- "For a 006 line: 060.8 if filled"
unfoldable pub for_feature : List ℕ → List ℕ → ℕ → Source
for_feature file starts n =
    if filled_at file (get_or starts n 0) 8 then Field (get_or starts n 0) 8
    else in_shipment file starts (shipment_above file starts n)

-- "no such field or line, or not a 006 line"
unfoldable pub source_of : List ℕ → List ℕ → ℕ → Option Source
source_of file starts n =
    if leb (length starts) n then None
    else if is_cash_line file (get_or starts n 0) then Some (for_feature file starts n)
    else None
