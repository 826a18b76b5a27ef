-- The code's tables are the paper's, and no field lies past them.
use Prim.Native.Nat.{ℕ, ◌<◌, ◌≤◌}
use mathlib.Core.Path.{◌≡◌, refl, sym, ap, ◌∙◌}
use mathlib.Core.Bool.{Bool, true, false, ◌&&◌, ◌||◌, not}
use mathlib.Core.List.{List, [], ◌∷◌}
use mathlib.Core.Logic.{⊎_elim}
use native.Mathlib.Omega.{arith}
use lib.Dec.{leb, eqb}
use lib.ListN.{get_or}
use borrow.Author.Tests.{leb-true, lt-leb, ne_eqb}
use Rattle.std.specs.Prelude.{if◌then◌else◌}
use Rattle.std.proofs.lemmas.Bool.Decides.{nat_tests}
use Rattle.std.proofs.lemmas.List.{get_or_past}
use Rattle.text.specs.Scan.{among}
use Rattle.text.specs.Tabled.{tabled}
use Rattle.text.proofs.Numbers.{le_or_lt}
use Rattle.text.proofs.Choices.{and_left, and_right}
use Rattle.text.proofs.Tables.{tabled_at, tabled_long}
use Rattle.forms.specs.Shape.{all_digits, digits, capitals, customer, bic, mail, purpose_text}
use Rattle.forms.specs.Amount.{amount}
use Rattle.forms.specs.Date.{date_time}
use Rattle.forms.specs.Feature.{is_feature}
use Rattle.records.specs.Record.{head_of, row_of}
use Rattle.records.specs.Version.{is_seven, is_version}
use Rattle.records.specs.declared.version.Version.{Version}
use Rattle.records.specs.declared.version.Version.TheVariants.{Five, Seven}
use Rattle.records.specs.declared.record.Record.{Record}
use Rattle.records.specs.declared.record.Record.TheVariants.{Header, Sender, Shipment, Parcel, Product, Feature}
use Rattle.fields.specs.Form.{Form, post_code, is_cash, reference, is_iban, is_identcode}
use Rattle.fields.specs.Profile.{But, always, instead, narrowed, Row, row_in, no_field, profile, meets, width_in_table, width_of, is_required, has_form}

-- two rules that agree on the numbers below 50
agree : {A : Type 0} (f g : ℕ → A) (d : A) (n : ℕ) → tabled f 0 50 ≡ tabled g 0 50 → n < 50 → f n ≡ g n
agree f g d n e h = sym (tabled_at f 50 n d h) ∙ ap (λ (t : List _). get_or t n d) e ∙ tabled_at g 50 n d h

-- past the last field of a record
abbrev rows_end : List Row → ℕ → Bool
rows_end [] m = true
rows_end (row ∷ rows) m = leb row.last m && rows_end rows m

past_rows : (rows : List Row) (m n : ℕ) → rows_end rows m ≡ true → m < n → row_in rows n ≡ no_field
past_rows [] m n e h = refl
past_rows (row ∷ rows) m n e h = rw (off (leb row.first n)) (past_rows rows m n (and_right (leb row.last m) (rows_end rows m) e) h)
  where
    off : (t : Bool) → (t && leb n row.last) ≡ false
    off true = lt-leb n row.last (omega (arith, leb-true row.last m (and_left (leb row.last m) (rows_end rows m) e)))
    off false = refl

past : (version : Version) (kind : Record) (n : ℕ) → (head_of kind).most < n → row_in (profile version kind) n ≡ no_field
unfolding profile
past version kind n h = past_rows (profile version kind) (head_of kind).most n (ends kind) h
  where
    ends : (kind : Record) → rows_end (profile version kind) (head_of kind).most ≡ true
    ends Header = refl
    ends Sender = refl
    ends Shipment = refl
    ends Parcel = refl
    ends Product = refl
    ends Feature = refl

most_le : (kind : Record) → (head_of kind).most ≤ 40
most_le Header = omega arith
most_le Sender = omega arith
most_le Shipment = omega arith
most_le Parcel = omega arith
most_le Product = omega arith
most_le Feature = omega arith

pub no_width : (version : Version) (kind : Record) (n : ℕ) → 49 < n → width_in_table (profile version kind) n ≡ 0
unfolding width_in_table
no_width version kind n h = ap (λ (row : Row). row.width) (past version kind n (omega (arith, most_le kind)))

-- the widths of a record, from that of its number 0 to that of 40, the last field that any record has
abbrev widths : Version → Record → List ℕ
widths version kind = tabled (width_in_table (profile version kind)) 0 41

width_there : (version : Version) (kind : Record) (n : ℕ) → get_or (widths version kind) n 0 ≡ width_in_table (profile version kind) n
unfolding width_in_table
width_there version kind n = ⊎_elim there none (le_or_lt n 40)
  where
    there : n ≤ 40 → get_or (widths version kind) n 0 ≡ width_in_table (profile version kind) n
    there h = tabled_at (width_in_table (profile version kind)) 41 n 0 (omega arith)

    none : 40 < n → get_or (widths version kind) n 0 ≡ width_in_table (profile version kind) n
    none h = get_or_past (widths version kind) n 0 (omega (arith, tabled_long (width_in_table (profile version kind)) 0 41))
        ∙ sym (ap (λ (row : Row). row.width) (past version kind n (omega (arith, most_le kind))))

-- the code's table of a version: a row for each record
pub width_laid : (version case : Version) (kind : Record) (table : List (List ℕ)) (row n : ℕ) (d : List ℕ) → version ≡ case → row ≡ row_of kind →
    table ≡ widths case Header ∷ widths case Sender ∷ widths case Shipment ∷ widths case Parcel ∷ widths case Product ∷ widths case Feature ∷ [] →
    get_or (get_or table row d) n 0 ≡ width_in_table (profile version kind) n
width_laid version case kind table row n d ev er e =
    let here : get_or table row d ≡ widths case kind = ap (λ (t : List (List ℕ)). get_or t row d) e ∙ go kind er in
    ap (λ (l : List ℕ). get_or l n 0) here ∙ width_there case kind n ∙ ap (λ (v : Version). width_in_table (profile v kind) n) (sym ev)
  where
    go : (k : Record) → row ≡ row_of k → get_or (widths case Header ∷ widths case Sender ∷ widths case Shipment ∷ widths case Parcel
        ∷ widths case Product ∷ widths case Feature ∷ []) row d ≡ widths case k
    go Header r = rw r
    go Sender r = rw r
    go Shipment r = rw r
    go Parcel r = rw r
    go Product r = rw r
    go Feature r = rw r

-- the fields that the code lets be required
abbrev duty : Version → Record → ℕ → Bool
duty version Header n = among n (1 ∷ 3 ∷ 4 ∷ 6 ∷ []) || (not (is_seven version) && among n (2 ∷ 5 ∷ []))
duty version Sender n = among n (1 ∷ 5 ∷ 6 ∷ 7 ∷ 9 ∷ 11 ∷ [])
duty version Shipment n = among n (16 ∷ 20 ∷ 21 ∷ 22 ∷ 24 ∷ 26 ∷ [])
duty version Parcel n = eqb n 1 || (is_seven version && eqb n 4)
duty version Product n = eqb n 1
duty version Feature n = eqb n 1

duty_is : (version : Version) (kind : Record) (n : ℕ) → is_required (profile version kind) n ≡ duty version kind n
unfolding profile is_required
duty_is version kind n = ⊎_elim (λ h. agree (is_required (profile version kind)) (duty version kind) false n (same version kind) (omega arith))
    (λ h. ap (λ (row : Row). row.duty) (past version kind n (omega (arith, most_le kind))) ∙ none version kind h) (le_or_lt n 40)
  where
    same : (v : Version) (k : Record) → tabled (is_required (profile v k)) 0 50 ≡ tabled (duty v k) 0 50
    same v Sender = refl
    same v Shipment = refl
    same Five Feature = refl
    same Seven Feature = refl
    same Five Header = refl
    same Seven Header = refl
    same Five Parcel = refl
    same Seven Parcel = refl
    same Five Product = refl
    same Seven Product = refl

    none : (v : Version) (k : Record) → 40 < n → false ≡ duty v k n
    none v Sender h = grind (arith, nat_tests)
    none v Shipment h = grind (arith, nat_tests)
    none v Product h = grind (arith, nat_tests)
    none v Feature h = grind (arith, nat_tests)
    none Five Header h = grind (arith, nat_tests)
    none Seven Header h = grind (arith, nat_tests)
    none Five Parcel h = grind (arith, nat_tests)
    none Seven Parcel h = grind (arith, nat_tests)

-- the forms that the code tests
abbrev form : Version → Record → ℕ → Form
form version Header n beside f =
    if eqb n 1 then customer f
    else if among n (3 ∷ 4 ∷ []) then date_time f
    else if eqb n 5 then digits 4 f
    else if eqb n 6 then is_version version f
    else true
form version Sender n beside f =
    if eqb n 5 then capitals 2 f
    else if eqb n 6 then post_code beside f
    else true
form version Shipment n beside f =
    if among n (1 ∷ 2 ∷ []) then all_digits f
    else if among n (7 ∷ 20 ∷ []) then capitals 2 f
    else if among n (8 ∷ 21 ∷ []) then post_code beside f
    else not (eqb n 39)
form version Parcel n beside f = if eqb n 1 then is_identcode f else true
form version Product n beside f = true
form version Feature n beside f =
    if eqb n 1 then is_feature f
    else if eqb n 2 then reference beside f
    else if eqb n 3 then amount f
    else if eqb n 4 then capitals 3 f
    else if eqb n 6 then is_iban f
    else if eqb n 7 then bic f
    else if eqb n 8 then purpose_text f
    else if eqb n 9 then mail f
    else true

form_is : (version : Version) (kind : Record) (n : ℕ) (beside f : List ℕ) → has_form (profile version kind) n beside f ≡ form version kind n beside f
unfolding profile has_form
form_is version kind n beside f =
    ⊎_elim
    (λ h. agree (λ (m : ℕ). has_form (profile version kind) m beside f) (λ (m : ℕ). form version kind m beside f) false n (same kind) (omega arith))
    (λ h. ap (λ (row : Row). meets row.form beside f) (past version kind n (omega (arith, most_le kind))) ∙ none kind h) (le_or_lt n 40)
  where
    same : (k : Record) → tabled (λ (m : ℕ). has_form (profile version k) m beside f) 0 50 ≡ tabled (λ (m : ℕ). form version k m beside f) 0 50
    same Header = refl
    same Sender = refl
    same Shipment = refl
    same Parcel = refl
    same Product = refl
    same Feature = refl

    none : (k : Record) → 40 < n → true ≡ form version k n beside f
    none Header h = grind (arith, nat_tests)
    none Sender h = grind (arith, nat_tests)
    none Shipment h = grind (arith, nat_tests)
    none Parcel h = grind (arith, nat_tests)
    none Product h = refl
    none Feature h = grind (arith, nat_tests)

-- the fields whose width depends on the one beside them
abbrev but : Version → Record → ℕ → But
but Seven kind n = always
but Five Header n = always
but Five Sender n = always
but Five Shipment n = always
but Five Parcel n = always
but Five Product n = always
but Five Feature n = if eqb n 2 then instead 35 is_cash else always

but_is : (version : Version) (kind : Record) (n : ℕ) → (row_in (profile version kind) n).but ≡ but version kind n
unfolding profile
but_is version kind n =
    ⊎_elim (λ h. agree (λ (m : ℕ). (row_in (profile version kind) m).but) (but version kind) always n (same version kind) (omega arith))
    (λ h. ap (λ (row : Row). row.but) (past version kind n (omega (arith, most_le kind))) ∙ none version kind h) (le_or_lt n 40)
  where
    same : (v : Version) (k : Record) → tabled (λ (m : ℕ). (row_in (profile v k) m).but) 0 50 ≡ tabled (but v k) 0 50
    same Seven Header = refl
    same Seven Sender = refl
    same Seven Shipment = refl
    same Seven Parcel = refl
    same Seven Product = refl
    same Seven Feature = refl
    same Five Header = refl
    same Five Sender = refl
    same Five Shipment = refl
    same Five Parcel = refl
    same Five Product = refl
    same Five Feature = refl

    none : (v : Version) (k : Record) → 40 < n → always ≡ but v k n
    none Seven k h = refl
    none Five Header h = refl
    none Five Sender h = refl
    none Five Shipment h = refl
    none Five Parcel h = refl
    none Five Product h = refl
    none Five Feature h = rw (ne_eqb n 2 (omega arith))

module _ (version : Version) (kind : Record) (n : ℕ) (beside : List ℕ) where
  plain : but version kind n ≡ always → width_of (profile version kind) n beside ≡ width_in_table (profile version kind) n
  unfolding width_of
  plain e = ap (λ (b : But). narrowed b (width_in_table (profile version kind) n) beside) (but_is version kind n ∙ e)

  pub cash_width : version ≡ Five → kind ≡ Feature → n ≡ 2 →
      width_of (profile version kind) n beside ≡ (if is_cash beside then 35 else width_in_table (profile version kind) n)
  unfolding width_of
  cash_width v k e =
      let here : but version kind n ≡ instead 35 is_cash = rw (v, k, e) in
      ap (λ (b : But). narrowed b (width_in_table (profile version kind) n) beside)
      (but_is version kind n ∙ here)

  pub other_number : (n ≡ 2 → ⊥) → width_of (profile version kind) n beside ≡ width_in_table (profile version kind) n
  other_number h = plain (go version kind)
    where
      go : (v : Version) (k : Record) → but v k n ≡ always
      go Seven k = refl
      go Five Header = refl
      go Five Sender = refl
      go Five Shipment = refl
      go Five Parcel = refl
      go Five Product = refl
      go Five Feature = rw (ne_eqb n 2 h)

  pub other_record : (kind ≡ Feature → ⊥) → width_of (profile version kind) n beside ≡ width_in_table (profile version kind) n
  other_record h = plain (go version kind h)
    where
      go : (v : Version) (k : Record) → (k ≡ Feature → ⊥) → but v k n ≡ always
      go Seven k h = refl
      go Five Header h = refl
      go Five Sender h = refl
      go Five Shipment h = refl
      go Five Parcel h = refl
      go Five Product h = refl
      go Five Feature h = absurd (h refl)

  pub other_version : (version ≡ Five → ⊥) → width_of (profile version kind) n beside ≡ width_in_table (profile version kind) n
  other_version h = plain (go version h)
    where
      go : (v : Version) → (v ≡ Five → ⊥) → but v kind n ≡ always
      go Seven h = refl
      go Five h = absurd (h refl)

-- by record, as the code meets them
module _ (version : Version) (kind : Record) (n : ℕ) where
  pub header_duty : kind ≡ Header → is_required (profile version kind) n ≡ duty version Header n
  header_duty e = rw e (duty_is version Header n)

  pub sender_duty : kind ≡ Sender → is_required (profile version kind) n ≡ duty version Sender n
  sender_duty e = rw e (duty_is version Sender n)

  pub shipment_duty : kind ≡ Shipment → is_required (profile version kind) n ≡ duty version Shipment n
  shipment_duty e = rw e (duty_is version Shipment n)

  pub parcel_duty : kind ≡ Parcel → is_required (profile version kind) n ≡ duty version Parcel n
  parcel_duty e = rw e (duty_is version Parcel n)

  pub product_duty : kind ≡ Product → is_required (profile version kind) n ≡ duty version Product n
  product_duty e = rw e (duty_is version Product n)

  pub feature_duty : kind ≡ Feature → is_required (profile version kind) n ≡ duty version Feature n
  feature_duty e = rw e (duty_is version Feature n)

  module _ (beside f : List ℕ) where
    pub header_form : kind ≡ Header → has_form (profile version kind) n beside f ≡ form version Header n beside f
    header_form e = rw e (form_is version Header n beside f)

    pub sender_form : kind ≡ Sender → has_form (profile version kind) n beside f ≡ form version Sender n beside f
    sender_form e = rw e (form_is version Sender n beside f)

    pub shipment_form : kind ≡ Shipment → has_form (profile version kind) n beside f ≡ form version Shipment n beside f
    shipment_form e = rw e (form_is version Shipment n beside f)

    pub parcel_form : kind ≡ Parcel → has_form (profile version kind) n beside f ≡ form version Parcel n beside f
    parcel_form e = rw e (form_is version Parcel n beside f)

    pub product_form : kind ≡ Product → has_form (profile version kind) n beside f ≡ true
    product_form e = rw e (form_is version Product n beside f)

    pub feature_form : kind ≡ Feature → has_form (profile version kind) n beside f ≡ form version Feature n beside f
    feature_form e = rw e (form_is version Feature n beside f)

pub ruleset width_rules = (cash_width, other_number, other_record, other_version)

pub ruleset duties = (header_duty, sender_duty, shipment_duty, parcel_duty, product_duty, feature_duty)

pub ruleset form_rules = (header_form, sender_form, shipment_form, parcel_form, product_form, feature_form)
