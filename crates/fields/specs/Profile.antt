-- Document 01, 'The file', "Widths and rules (R = must be filled)", and for version 7 document 002's field tables: the profile. A row
-- stands under the paper's line that it says: which field, R if it must be filled, how wide it may be, and its form. Document 02, request
-- 5: "For 7, document 002's field tables decide widths and duties wherever they give one, and our page the rest". So a row says both
-- versions, and where they differ what each of them says.
use Rattle.std.specs.Prelude.{ℕ, Bool, true, false, ◌&&◌, List, [], ◌∷◌, leb, if◌then◌else◌}
use Rattle.forms.specs.Shape.{all_digits, digits, capitals, customer, bic, mail, purpose_text}
use Rattle.forms.specs.Amount.{amount}
use Rattle.forms.specs.Date.{date_time}
use Rattle.forms.specs.Feature.{is_feature}
use Rattle.fields.specs.Form.{Form, alone, post_code, is_cash, reference, is_iban, is_identcode, nothing}
use Rattle.records.specs.Version.{is_version}
use Rattle.records.specs.declared.version.Version.{Version}
use Rattle.records.specs.declared.version.Version.TheVariants.{Five, Seven}
use Rattle.records.specs.declared.record.Record.{Record}
use Rattle.records.specs.declared.record.Record.TheVariants.{Header, Sender, Shipment, Parcel, Product, Feature}

-- what a row asks of a filled field
pub data Asked : Type 0 where
  anything : Asked
  only : Form → Asked

-- an exception of the width: another where the field beside it passes a test
pub data But : Type 0 where
  always : But
  instead : ℕ → (List ℕ → Bool) → But

pub record Row : Type 0 where
  pub first : ℕ
  pub last : ℕ
  pub width : ℕ
  pub but : But
  pub duty : Bool
  pub form : Asked

infix 90 field◌wide◌
abbrev pub field◌wide◌ : ℕ → ℕ → Row
field n wide w = record { first = n; last = n; width = w; but = always; duty = false; form = anything }

infix 90 fields◌to◌wide◌
abbrev pub fields◌to◌wide◌ : ℕ → ℕ → ℕ → Row
fields m to n wide w = record { first = m; last = n; width = w; but = always; duty = false; form = anything }

infix 90 field◌R◌
abbrev pub field◌R◌ : ℕ → ℕ → Row
field n R w = record { first = n; last = n; width = w; but = always; duty = true; form = anything }

infix 80 ◌is◌
abbrev pub ◌is◌ : Row → (List ℕ → Bool) → Row
row is test = record { first = row.first; last = row.last; width = row.width; but = row.but; duty = row.duty; form = only (alone test) }

-- a form that depends on the field beside it
infix 80 ◌suits◌
abbrev pub ◌suits◌ : Row → Form → Row
row suits form = record { first = row.first; last = row.last; width = row.width; but = row.but; duty = row.duty; form = only form }

-- a field whose width or duty the versions do not share: what each of them says
pub record Says : Type 0 where
  pub width : ℕ
  pub but : But
  pub duty : Bool

infix 95 R◌
abbrev pub R◌ : ℕ → Says
R w = record { width = w; but = always; duty = true }

infix 95 wide◌
abbrev pub wide◌ : ℕ → Says
wide w = record { width = w; but = always; duty = false }

infix 92 ◌but◌under◌
abbrev pub ◌but◌under◌ : Says → ℕ → (List ℕ → Bool) → Says
says but w under test = record { width = says.width; but = instead w test; duty = says.duty }

-- of what the two say, what this version does
abbrev pub by : {A : Type 0} → Version → A → A → A
by Five five seven = five
by Seven five seven = seven

infix 90 field◌of◌five◌seven◌
abbrev pub field◌of◌five◌seven◌ : ℕ → Version → Says → Says → Row
field n of version five a seven b =
    record {
      first = n;
      last = n;
      width = by version a.width b.width;
      but = by version a.but b.but;
      duty = by version a.duty b.duty;
      form = anything;
    }

unfoldable pub profile : Version → Record → List Row
-- 010: "1 R ten digits, the first two 00; 2 R 40; 3 R and 4 R date-times; 5 R four digits; 6 R width 10, exactly `5`; 7: 20; 8, 9: 40;
-- 10: 64. Widths of 1, 3, 4, 5: 10, 19, 19, 4."
-- Document 002, table 8: 1 "10 required", 2 "80 optional", 3 and 4 "required", 5 "10 optional", 6 "10 required", 7 "20 optional", 8 and 9 "40
-- optional", 10 "64 optional". Document 02, request 5: "010.6 must be it".
profile version Header =
    field 1 R 10 is customer ∷
    field 2 of version five R 40 seven wide 80 ∷
    field 3 R 19 is date_time ∷
    field 4 R 19 is date_time ∷
    field 5 of version five R 4 seven wide 10 is digits 4 ∷
    field 6 R 10 is is_version version ∷
    field 7 wide 20 ∷
    fields 8 to 9 wide 40 ∷
    field 10 wide 64 ∷ []
-- 020: "40, 40, 40, 40, 2, 10, 40, 40, 40, 40, 10, 40, 64, 64, 64, 64. R: 1, 5, 6, 7, 9, 11, 12, 13."
-- Document 02, request 1, on 12 and 13: "A line read or written alone no longer asks for the two." A file does (crate file).
-- Document 002, table 10, has the same widths and duties, 12 and 13 "optional".
profile version Sender =
    field 1 R 40 ∷
    fields 2 to 4 wide 40 ∷
    field 5 R 2 is capitals 2 ∷
    field 6 R 10 suits post_code ∷
    field 7 R 40 ∷
    field 8 wide 40 ∷
    field 9 R 40 ∷
    field 10 wide 40 ∷
    field 11 R 10 ∷
    field 12 wide 40 ∷
    field 13 wide 64 ∷
    fields 14 to 16 wide 64 ∷ []
-- 030: "1: 40; 2: 10; 3 to 6: 40; 7: 2; 8: 10; 9 to 12: 40; 13: 10; 14: 40; 15: 64; 16 to 19: 40; 20: 2; 21: 10; 22 to 25: 40;
-- 26: 10; 27: 15; 28: 40; 29 to 33: 64; 34 to 36: 40; 37: 100; 38: 19; 39: 20; 40: 20. R: 16, 20, 21, 22, 24, 26."
-- Document 002, table 12, has the same widths and duties, and gives no width for 38 and no duty for 39 ("INTERN").
profile version Shipment =
    field 1 wide 40 is all_digits ∷
    field 2 wide 10 is all_digits ∷
    fields 3 to 6 wide 40 ∷
    field 7 wide 2 is capitals 2 ∷
    field 8 wide 10 suits post_code ∷
    fields 9 to 12 wide 40 ∷
    field 13 wide 10 ∷
    field 14 wide 40 ∷
    field 15 wide 64 ∷
    field 16 R 40 ∷
    fields 17 to 19 wide 40 ∷
    field 20 R 2 is capitals 2 ∷
    field 21 R 10 suits post_code ∷
    field 22 R 40 ∷
    field 23 wide 40 ∷
    field 24 R 40 ∷
    field 25 wide 40 ∷
    field 26 R 10 ∷
    field 27 wide 15 ∷
    field 28 wide 40 ∷
    fields 29 to 33 wide 64 ∷
    fields 34 to 36 wide 40 ∷
    field 37 wide 100 ∷
    field 38 wide 19 ∷
    field 39 wide 20 is nothing ∷
    field 40 wide 20 ∷ []
-- 040: "1 R 22 digits (width 22); all others 64."; document 02, request 2: "040.1 must pass from now on"
-- Document 002, table 14: 1 "24 required", 2 "7.3 optional", 3 "40 optional", 4 "1 required", 5 "40 INTERN", 6 "40 optional", 7 "6.2
-- optional", 8 "3 optional", 9 "100 optional", 10 "2 optional", 11 "1 optional", 12 "100 optional". A number of 7 digits in front of the point
-- and 3 behind it is 11 wide, one of 6 and 2 is 9.
profile version Parcel =
    field 1 of version five R 22 seven R 24 is is_identcode ∷
    field 2 of version five wide 64 seven wide 11 ∷
    field 3 of version five wide 64 seven wide 40 ∷
    field 4 of version five wide 64 seven R 1 ∷
    field 5 of version five wide 64 seven wide 40 ∷
    field 6 of version five wide 64 seven wide 40 ∷
    field 7 of version five wide 64 seven wide 9 ∷
    field 8 of version five wide 64 seven wide 3 ∷
    field 9 of version five wide 64 seven wide 100 ∷
    field 10 of version five wide 64 seven wide 2 ∷
    field 11 of version five wide 64 seven wide 1 ∷
    field 12 of version five wide 64 seven wide 100 ∷
    fields 13 to 24 wide 64 ∷ []
-- 050: "1 R 20; all others 64."
-- Document 002, table 22: 1 "2 required".
profile version Product =
    field 1 of version five R 20 seven R 2 ∷
    fields 2 to 24 wide 64 ∷ []
-- 060: "1 R width 3, a feature code; 2: 64, but 35 under 006 and 022; 3: 9, an amount; 4: 3, three capitals; 5: 64; 6: 34, an IBAN; 7: 11,
-- a BIC ..; 8: 35; 9: 64, with exactly one `@`, neither first nor last; 10: 40."
-- Document 002, table 25: 1 "3 required", 2 "40 optional", 3 "6.2 optional", 4 "3 optional", 5 "35 optional", 6 "40 optional", 7 "11 optional", 8
-- "35 optional", 9 "40 optional", 10 "40 optional".
profile version Feature =
    field 1 R 3 is is_feature ∷
    field 2 of version five wide 64 but 35 under is_cash seven wide 40 suits reference ∷
    field 3 wide 9 is amount ∷
    field 4 wide 3 is capitals 3 ∷
    field 5 of version five wide 64 seven wide 35 ∷
    field 6 of version five wide 34 seven wide 40 is is_iban ∷
    field 7 wide 11 is bic ∷
    field 8 wide 35 is purpose_text ∷
    field 9 of version five wide 64 seven wide 40 is mail ∷
    field 10 wide 40 ∷ []

-- the rules of all fields
abbrev pub Rules : Type 0
Rules = Record → List Row

-- no row names the field: no byte fits it
abbrev pub no_field : Row
no_field = field 0 wide 0

abbrev pub names : Row → ℕ → Bool
names row n = leb row.first n && leb n row.last

abbrev pub row_in : List Row → ℕ → Row
row_in [] n = no_field
row_in (row ∷ rows) n = if names row n then row else row_in rows n

-- how wide a field may be; 0 where there is no such field
unfoldable pub width_in_table : List Row → ℕ → ℕ
width_in_table rows n = (row_in rows n).width

-- "but 35 under 006 and 022"
abbrev pub narrowed : But → ℕ → List ℕ → ℕ
narrowed always width beside = width
narrowed (instead other test) width beside = if test beside then other else width

unfoldable pub width_of : List Row → ℕ → List ℕ → ℕ
width_of rows n beside = narrowed (row_in rows n).but (width_in_table rows n) beside

-- "R"
unfoldable pub is_required : List Row → ℕ → Bool
is_required rows n = (row_in rows n).duty

-- "Forms apply to filled fields."
abbrev pub meets : Asked → Form
meets anything beside f = true
meets (only form) beside f = form beside f

unfoldable pub has_form : List Row → ℕ → Form
has_form rows n beside f = meets (row_in rows n).form beside f
