-- Document 01, 'Writer': when a line is not written. "Order: 3, 14, 5, fields (6, 7, 8), 9, 13." "Place is the field number for 6 to 8,
-- else 0."
use Rattle.std.specs.Prelude.{ℕ, ◌+◌, ◌≤◌, ◌<◌, ◌≡◌, true, false, List, ◌∷◌, ◌++◌, length, Some, None}
use Rattle.text.specs.Scan.{all}
use Rattle.refusal.specs.Table.{because}
use Rattle.refusal.specs.declared.Refusal.{Refusal}
use Rattle.refusal.specs.declared.Reason.{Reason}
use Rattle.refusal.specs.declared.Reason.TheVariants.{UnknownRecord, FieldEnds, FieldCount, FieldForm, FeatureLacks, OutputTooShort}
use Rattle.records.specs.Record.{type_of, count_fits}
use Rattle.fields.specs.Profile.{Row, Rules, width_of}
use Rattle.records.specs.declared.record.Record.{Record}
use Rattle.records.specs.declared.record.Record.TheVariants.{Feature}
use Rattle.line.specs.Parts.{part_before}
use Rattle.line.specs.Render.{render, plain}
use Rattle.grammar.specs.Grammar.{FieldsOk, Served, LineOk}
use Rattle.writer.specs.Write.{record_numbered, ends_hold, between}
use Rattle.refused.specs.Line.{RefusedField}

-- the field with this number, beside it the part in front of it
pub data RefusedToWrite (rows : List Row) (n : ℕ) (beside f : List ℕ) : Reason → Type 0 where
  as_read : (why : Reason) → RefusedField rows n beside f why → RefusedToWrite rows n beside f why
  -- "A semicolon or non-text byte is 8."
  not_plain : length f ≤ width_of rows n beside → all plain f ≡ false → RefusedToWrite rows n beside f FieldForm

-- what is handed over are these fields of a known record, as many as it should have, and their ends hold
pub record Handed (number : ℕ) (text ends : List ℕ) (kind : Record) (fs : List (List ℕ)) : Type 0 where
  pub known : record_numbered number ≡ Some kind
  pub held : ends_hold ends (length text) ≡ true
  pub counted : count_fits kind (length ends) ≡ true
  pub fields : between text ends ≡ fs

-- a line is not written into an output of this size behind its fill, with this number and place
pub data RefusedWrite (rules : Rules) (number : ℕ) (text ends : List ℕ) (size fill : ℕ) : Refusal → Type 0 where
  -- 3: "unknown record type"
  unknown_record : record_numbered number ≡ None → RefusedWrite rules number text ends size fill (because UnknownRecord 0)
  -- 14: "field ends fall, or the last is not the text's length, or no ends with text"
  field_ends :
      (kind : Record) → record_numbered number ≡ Some kind → ends_hold ends (length text) ≡ false →
      RefusedWrite rules number text ends size fill (because FieldEnds 0)
  -- 5: "wrong number of fields"
  field_count :
      (kind : Record) → record_numbered number ≡ Some kind → ends_hold ends (length text) ≡ true → count_fits kind (length ends) ≡ false →
      RefusedWrite rules number text ends size fill (because FieldCount 0)
  -- 6, 7, 8, at "the field number": those in front are fine, and this one is refused
  bad_field :
      (kind : Record) (front : List (List ℕ)) (f : List ℕ) (more : List (List ℕ)) (why : Reason) →
      Handed number text ends kind (front ++ f ∷ more) → FieldsOk (rules kind) 1 (type_of kind) front →
      RefusedToWrite (rules kind) (1 + length front) (part_before (type_of kind) front) f why →
      RefusedWrite rules number text ends size fill (because why (1 + length front))
  -- 9: "feature lacks a needed field"
  feature_lacks :
      (fs : List (List ℕ)) → Handed number text ends Feature fs → FieldsOk (rules Feature) 1 (type_of Feature) fs → (Served fs → ⊥) →
      RefusedWrite rules number text ends size fill (because FeatureLacks 0)
  -- 13: "output too short"; "A fill past the output is 13."
  too_short :
      (kind : Record) (fs : List (List ℕ)) → Handed number text ends kind fs → LineOk rules kind fs →
      size < fill + length (render kind fs) → RefusedWrite rules number text ends size fill (because OutputTooShort 0)
