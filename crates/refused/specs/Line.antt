-- Document 01, 'Refusal numbers': when a line is refused, by which number and at which place, said of the line's own bytes and fields.
use Rattle.std.specs.Prelude.{ℕ, ◌+◌, ◌≤◌, ◌<◌, ◌≡◌, true, false, List, [], ◌∷◌, ◌++◌, length, take, drop, Some, None}
use Rattle.text.specs.Byte.{text_byte}
use Rattle.text.specs.Quoted.{bytes}
use Rattle.text.specs.Scan.{all}
use Rattle.refusal.specs.Table.{because}
use Rattle.refusal.specs.declared.Refusal.{Refusal}
use Rattle.refusal.specs.declared.Reason.{Reason}
use Rattle.refusal.specs.declared.Reason.TheVariants.{
  FileTooLong,
  NoLineEnd,
  UnknownRecord,
  OutOfOrder,
  FieldCount,
  FieldTooLong,
  FieldEmpty,
  FieldForm,
  FeatureLacks,
  NotThere,
  UnknownVersion,
}
use Rattle.records.specs.Record.{type_of, count_fits, may_come}
use Rattle.fields.specs.Profile.{Row, Rules, width_of, is_required, has_form}
use Rattle.records.specs.Version.{version_numbered}
use Rattle.records.specs.declared.version.Version.{Version}
use Rattle.records.specs.declared.record.Record.{Record}
use Rattle.records.specs.declared.record.Record.TheVariants.{Feature}
use Rattle.line.specs.Parts.{part_before}
use Rattle.line.specs.Render.{joined, text_of, plain, all_in}
use Rattle.line.specs.Told.{Told}
use Rattle.line.specs.Line.{file_limit, alone}
use Rattle.line.specs.declared.read.Line.{Line}
use Rattle.grammar.specs.Grammar.{Filled, FieldsOk, Served, Reads}

-- these bytes, behind the text of a line, do not end it: "a line's first non-text byte is missing or not CR LF"
abbrev pub NoEnd : List ℕ → Type 0
NoEnd [] = Unit {0}
NoEnd (b ∷ behind) = (text_byte b ≡ false) × (take 2 (b ∷ behind) ≡ bytes "\r\n" → ⊥)

-- the bytes that are left begin with a line of this record type and these fields
pub record Stands (left name : List ℕ) (fs : List (List ℕ)) : Type 0 where
  pub behind : List ℕ
  pub there : left ≡ name ++ joined fs ++ bytes "\r\n" ++ behind
  pub clean : all_in plain (name ∷ fs) ≡ true

-- "6, 7, 8 for each": the field with this number, beside it the part in front of it
pub data RefusedField (rows : List Row) (n : ℕ) (beside f : List ℕ) : Reason → Type 0 where
  -- "field too long"
  too_long : width_of rows n beside < length f → RefusedField rows n beside f FieldTooLong
  -- "required field empty"
  empty : length f ≡ 0 → is_required rows n ≡ true → RefusedField rows n beside f FieldEmpty
  -- "field form wrong"
  formless : length f ≤ width_of rows n beside → Filled f → has_form rows n beside f ≡ false → RefusedField rows n beside f FieldForm

-- "the fields from left to right": those in front are fine, and this one is refused
pub record FirstBad (rows : List Row) (name : List ℕ) (front : List (List ℕ)) (f : List ℕ) (why : Reason) : Type 0 where
  pub before : FieldsOk rows 1 name front
  pub here : RefusedField rows (1 + length front) (part_before name front) f why

-- a line of this record and these fields, which may come and has as many fields as it should
pub record Counted (told : Told) (left : List ℕ) (kind : Record) (fs : List (List ℕ)) : Type 0 where
  pub stands : Stands left (type_of kind) fs
  pub comes : may_come told.due kind ≡ true
  pub counted : count_fits kind (length fs) ≡ true

-- "on each line 2, 3, 4, 5, then the fields from left to right (6, 7, 8 for each), then 9": the bytes that are left, from this offset on,
-- are refused as a line, with this number and place
pub data RefusedLine (told : Told) (offset : ℕ) (left : List ℕ) : Refusal → Type 0 where
  -- 2: "a line's first non-text byte is missing or not CR LF", at "that byte, or the file's length"
  no_line_end :
      (text behind : List ℕ) → left ≡ text ++ behind → all text_byte text ≡ true → NoEnd behind →
      RefusedLine told offset left (because NoLineEnd (offset + length text))
  -- 3: "unknown record type", at "line start"
  unknown_record :
      (name : List ℕ) (fs : List (List ℕ)) → Stands left name fs → ((kind : Record) → name ≡ type_of kind → ⊥) →
      RefusedLine told offset left (because UnknownRecord offset)
  -- 4: "record out of order", at "line start"
  out_of_order :
      (kind : Record) (fs : List (List ℕ)) → Stands left (type_of kind) fs → may_come told.due kind ≡ false →
      RefusedLine told offset left (because OutOfOrder offset)
  -- 5: "wrong number of fields", at "line start"
  field_count :
      (kind : Record) (fs : List (List ℕ)) → Stands left (type_of kind) fs → may_come told.due kind ≡ true →
      count_fits kind (length fs) ≡ false → RefusedLine told offset left (because FieldCount offset)
  -- 6, 7, 8, at "field start": behind the record type, the fields in front of it and its semicolon
  bad_field :
      (kind : Record) (front : List (List ℕ)) (f : List ℕ) (more : List (List ℕ)) (why : Reason) →
      Counted told left kind (front ++ f ∷ more) → FirstBad (told.rules kind) (type_of kind) front f why →
      RefusedLine told offset left (because why (offset + length (text_of kind front ++ bytes ";")))
  -- 9: "feature lacks a needed field", at "line start"
  feature_lacks :
      (fs : List (List ℕ)) → Counted told left Feature fs → FieldsOk (told.rules Feature) 1 (type_of Feature) fs → (Served fs → ⊥) →
      RefusedLine told offset left (because FeatureLacks offset)

-- "One line at an offset, judged alone (1, 2, 3, 5 to 9)", and in a file where a record is due
pub data RefusedAt (told : Told) (file : List ℕ) (offset : ℕ) : Refusal → Type 0 where
  -- 1: "file over 65,535 bytes", at "65,535"
  file_too_long : file_limit < length file → RefusedAt told file offset (because FileTooLong file_limit)
  -- 2: "or an offset lies past the file", at "the file's length"
  past_the_file : length file ≤ file_limit → length file < offset → RefusedAt told file offset (because NoLineEnd (length file))
  line_refused :
      (refusal : Refusal) → length file ≤ file_limit → offset ≤ length file → RefusedLine told offset (drop offset file) refusal →
      RefusedAt told file offset refusal

-- what a line call refuses that is told a version: what it refuses under it, or first of all
pub data RefusedTold (told : ℕ) (under : Version → Refusal → Type 0) : Refusal → Type 0 where
  -- 22: "a line call told neither 5 nor 7, place 0, before all others"
  unknown_version : version_numbered told ≡ None → RefusedTold told under (because UnknownVersion 0)
  told_under_version :
      (version : Version) (refusal : Refusal) → version_numbered told ≡ Some version → under version refusal → RefusedTold told under refusal

-- "One field adds a field number, then 15 for 0 or above the count"
pub data RefusedFind (rules : Rules) (file : List ℕ) (offset n : ℕ) : Refusal → Type 0 where
  line_refused : (refusal : Refusal) → RefusedAt (alone rules) file offset refusal → RefusedFind rules file offset n refusal
  no_such_field :
      (line : Line) (fs : List (List ℕ)) → Reads (alone rules) file offset line fs → (1 ≤ n → n ≤ length fs → ⊥) →
      RefusedFind rules file offset n (because NotThere 0)
