-- Document 01, 'Payment purpose', said of the file's own lines: the text that the sentence names, apart from any way of finding it.
use Rattle.std.specs.Prelude.{ℕ, zero, suc, ◌<◌, ◌≡◌, List, [], ◌∷◌, ◌++◌}
use Rattle.text.specs.Quoted.{bytes}
use Rattle.records.specs.declared.record.Record.{Record}
use Rattle.records.specs.declared.record.Record.TheVariants.{Shipment, Parcel, Feature}
use Rattle.line.specs.Parts.{field_no}
use Rattle.allowed.specs.Allowed.{FileLine}

-- "the line with a given number", counted from 0, is l
abbrev pub LineNo : List FileLine → ℕ → FileLine → Type 0
LineNo [] n l = ⊥
LineNo (k ∷ ls) zero l = k ≡ l
LineNo (k ∷ ls) (suc n) l = LineNo ls n l

-- "a 006 line"
pub record CashLine (l : FileLine) : Type 0 where
  pub feature : l.kind ≡ Feature
  pub code : field_no l.fields 1 ≡ bytes "006"

-- the lines with the numbers between these two are not of this record
abbrev pub NoneBetween : List FileLine → Record → ℕ → ℕ → Type 0
NoneBetween ls kind a b = (i : ℕ) (l : FileLine) → a < i → i < b → LineNo ls i l → l.kind ≡ kind → ⊥

-- the shipment of a line, and the shipment's first parcel
pub record Belongs (ls : List FileLine) (n : ℕ) (shipment parcel : FileLine) : Type 0 where
  -- "The shipment is the nearest 030 above."
  pub ship : ℕ
  pub there : LineNo ls ship shipment
  pub shipped : shipment.kind ≡ Shipment
  pub above : ship < n
  pub nearest : NoneBetween ls Shipment ship n
  -- "the shipment's first 040"
  pub first : ℕ
  pub here : LineNo ls first parcel
  pub parcelled : parcel.kind ≡ Parcel
  pub behind : ship < first
  pub foremost : NoneBetween ls Parcel ship first

-- the first filled of these, and the last resort where none is
abbrev pub first_filled : List (List ℕ) → List ℕ → List ℕ
first_filled [] last = last
first_filled ([] ∷ fs) last = first_filled fs last
first_filled ((b ∷ f) ∷ fs) last = b ∷ f

-- "060.8 if filled; else the first filled of 030.1, 030.34, 030.36 and field 3 of the shipment's first 040; else that 040's field 1,
-- `/`, 030.16"
abbrev pub named_text : FileLine → FileLine → FileLine → List ℕ
named_text l shipment parcel =
    first_filled
    (field_no l.fields 8 ∷ field_no shipment.fields 1 ∷ field_no shipment.fields 34 ∷ field_no shipment.fields 36 ∷
    field_no parcel.fields 3 ∷ [])
    (field_no parcel.fields 1 ++ bytes "/" ++ field_no shipment.fields 16)
