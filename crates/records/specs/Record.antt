-- Document 01, 'The file': the records, their order, and how many fields each has.
use Rattle.std.specs.Prelude.{ℕ, Bool, true, false, ◌&&◌, ◌||◌, List, [], ◌∷◌, leb, eqb, if◌then◌else◌, Option, Some, None}
use Rattle.text.specs.Quoted.{bytes}
use Rattle.text.specs.Scan.{same}
use Rattle.records.specs.declared.record.Record.{Record}
use Rattle.records.specs.declared.record.Record.TheVariants.{Header, Sender, Shipment, Parcel, Product, Feature}
use Rattle.records.specs.declared.record.Due.{Due}
use Rattle.records.specs.declared.record.Due.TheVariants.{Any, First, After}

-- a record: its type, how many fields it has at least and at most, and what may come behind it
pub record Head : Type 0 where
  pub type : List ℕ
  pub fewest : ℕ
  pub most : ℕ
  pub next : List Record

infix 90 type◌has◌to◌leads◌
abbrev pub type◌has◌to◌leads◌ : List ℕ → ℕ → ℕ → List Record → Head
type name has fewest to most leads next = record { type = name; fewest = fewest; most = most; next = next }

-- "Fields per record: 010 has 10, 020 has 16, 030 has 40, 040 has 3 to 24, 050 has 1 to 24, 060 has 10." "010 first and once; then 020;
-- after 020 a 030; after 030 a 040; after 040 another 040 or a 050; after 050 or 060 a 060, a 030, a 020 or the end."
abbrev pub head_of : Record → Head
head_of Header = type (bytes "010") has 10 to 10 leads (Sender ∷ [])
head_of Sender = type (bytes "020") has 16 to 16 leads (Shipment ∷ [])
head_of Shipment = type (bytes "030") has 40 to 40 leads (Parcel ∷ [])
head_of Parcel = type (bytes "040") has 3 to 24 leads (Parcel ∷ Product ∷ [])
head_of Product = type (bytes "050") has 1 to 24 leads (Feature ∷ Shipment ∷ Sender ∷ [])
head_of Feature = type (bytes "060") has 10 to 10 leads (Feature ∷ Shipment ∷ Sender ∷ [])

-- "The first field is the record type."
abbrev pub type_of : Record → List ℕ
type_of kind = (head_of kind).type

-- the record that a type names
unfoldable pub named : List ℕ → Option Record
named name =
    if same name (type_of Header) then Some Header
    else if same name (type_of Sender) then Some Sender
    else if same name (type_of Shipment) then Some Shipment
    else if same name (type_of Parcel) then Some Parcel
    else if same name (type_of Product) then Some Product
    else if same name (type_of Feature) then Some Feature
    else None

abbrev pub count_fits : Record → ℕ → Bool
count_fits kind n = leb (head_of kind).fewest n && leb n (head_of kind).most

-- the records in their order, by number
abbrev pub row_of : Record → ℕ
row_of Header = 0
row_of Sender = 1
row_of Shipment = 2
row_of Parcel = 3
row_of Product = 4
row_of Feature = 5

abbrev pub record_at : ℕ → Record
record_at n =
    if eqb n 0 then Header
    else if eqb n 1 then Sender
    else if eqb n 2 then Shipment
    else if eqb n 3 then Parcel
    else if eqb n 4 then Product
    else Feature

infix 60 ◌is_a◌
abbrev pub ◌is_a◌ : Record → Record → Bool
kind is_a one = eqb (row_of kind) (row_of one)

abbrev pub one_of : Record → List Record → Bool
one_of kind [] = false
one_of kind (r ∷ rs) = kind is_a r || one_of kind rs

unfoldable pub may_follow : Record → Record → Bool
may_follow before kind = one_of kind (head_of before).next

-- a line judged alone may be any record
unfoldable pub may_come : Due → Record → Bool
may_come Any kind = true
may_come First kind = one_of kind (Header ∷ [])
may_come (After before) kind = may_follow before kind

-- "The end is allowed only there."
unfoldable pub may_end : Due → Bool
may_end Any = true
may_end First = false
may_end (After before) = one_of before (Product ∷ Feature ∷ [])
