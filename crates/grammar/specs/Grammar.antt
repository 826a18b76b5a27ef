-- Document 01, 'The file': what an allowed line is, apart from any order of tests, and how it stands in a file.
use Rattle.std.specs.Prelude.{ℕ, suc, ◌+◌, ◌-◌, ◌≤◌, ◌≡◌, true, List, [], ◌∷◌, ◌++◌, ◌⊎◌, length, take, drop}
use Prim.Native.String.{String}
use Rattle.text.specs.Quoted.{bytes}
use Rattle.text.specs.Scan.{all}
use Rattle.records.specs.Record.{type_of, count_fits, may_come}
use Rattle.fields.specs.Profile.{is_required, has_form, Row, width_of, Rules}
use Rattle.records.specs.declared.record.Record.{Record}
use Rattle.records.specs.declared.record.Record.TheVariants.{Feature}
use Rattle.line.specs.Parts.{field_no}
use Rattle.line.specs.Render.{text_of, render, plain}
use Rattle.line.specs.Told.{Told}
use Rattle.line.specs.declared.read.Line.{Line}
use Rattle.line.specs.Line.{file_limit, alone}

-- "only zero bytes is empty"
abbrev pub Filled : List ℕ → Type 0
Filled f = length f ≡ 0 → ⊥

-- the field with this number, beside it the part in front of it
pub record FieldOk (rows : List Row) (n : ℕ) (beside f : List ℕ) : Type 0 where
  pub clean : all plain f ≡ true
  -- "Widths count bytes."
  pub fits : length f ≤ width_of rows n beside
  -- "R = must be filled"
  pub filled : is_required rows n ≡ true → Filled f
  -- "Forms apply to filled fields."
  pub formed : Filled f → has_form rows n beside f ≡ true

-- these fields, the first with this number, beside it the part in front of it
abbrev pub FieldsOk : List Row → ℕ → List ℕ → List (List ℕ) → Type 0
FieldsOk rows n beside [] = Unit {0}
FieldsOk rows n beside (f ∷ fs) = FieldOk rows n beside f × FieldsOk rows (suc n) f fs

-- the code of a 060 line (060.1) is one of these
abbrev pub CodeAmong : List (List ℕ) → List String → Type 0
CodeAmong fs [] = ⊥
CodeAmong fs (code ∷ codes) = (field_no fs 1 ≡ bytes code) ⊎ CodeAmong fs codes

-- the fields with these numbers are filled
abbrev pub AllFilled : List (List ℕ) → List ℕ → Type 0
AllFilled fs [] = Unit {0}
AllFilled fs (n ∷ ns) = Filled (field_no fs n) × AllFilled fs ns

-- "What a feature needs depends on its three-digit code alone": it is there
pub record Served (fs : List (List ℕ)) : Type 0 where
  -- "006 and 022 need 3, 4, 5, 6, 7"
  pub account : CodeAmong fs ("006" ∷ "022" ∷ []) → AllFilled fs (3 ∷ 4 ∷ 5 ∷ 6 ∷ 7 ∷ [])
  -- "011 and 063 need 3 and 4"
  pub cash : CodeAmong fs ("011" ∷ "063" ∷ []) → AllFilled fs (3 ∷ 4 ∷ [])
  -- "054 needs 9 or 10; the rest need nothing"
  pub contact : CodeAmong fs ("054" ∷ []) → Filled (field_no fs 9) ⊎ Filled (field_no fs 10)

pub record LineOk (rules : Rules) (kind : Record) (fs : List (List ℕ)) : Type 0 where
  -- "Fields per record"
  pub counted : count_fits kind (length fs) ≡ true
  -- "Widths and rules"
  pub fields : FieldsOk (rules kind) 1 (type_of kind) fs
  -- what a feature needs is there
  pub served : kind ≡ Feature → Served fs

-- at this offset of the file stands an allowed line with these fields, of a record that may come: "the answer names the record
-- kind, the field count and where the next line starts"
pub record Reads (told : Told) (file : List ℕ) (offset : ℕ) (line : Line) (fs : List (List ℕ)) : Type 0 where
  -- "At most 65,535 bytes."
  pub in_limit : length file ≤ file_limit
  -- "Record order"
  pub comes : may_come told.due line.kind ≡ true
  pub allowed : LineOk told.rules line.kind fs
  pub rest : List ℕ
  pub stands : drop offset file ≡ render line.kind fs ++ rest
  pub count : line.count ≡ length fs
  pub next : line.next ≡ offset + length (render line.kind fs)

-- "One field adds a field number, then 15 for 0 or above the count, and answers start and length."
pub record FieldStands (kind : Record) (fs : List (List ℕ)) (file : List ℕ) (offset n start long : ℕ) : Type 0 where
  pub first : 1 ≤ n
  pub last : n ≤ length fs
  -- in front of it stand the record type, the fields before it, and its own semicolon
  pub starts : start ≡ offset + length (text_of kind (take (n - 1) fs) ++ bytes ";")
  pub measures : long ≡ length (field_no fs n)
  pub there : take long (drop start file) ≡ field_no fs n

-- the field with this number of the allowed line at this offset, from start on and so long
abbrev pub StandsInLine : Rules → List ℕ → ℕ → ℕ → ℕ → ℕ → Type 0
StandsInLine rules file offset n start long =
    (line : Line) × ((fs : List (List ℕ)) × (Reads (alone rules) file offset line fs × FieldStands line.kind fs file offset n start long))
