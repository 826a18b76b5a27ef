-- What the laws above ask of rules, whatever profile they are: `Sound`. Both versions of ours are.
use Prim.Native.Nat.{ℕ, ◌≤◌, zero-le}
use mathlib.Core.Path.{◌≡◌, refl}
use mathlib.Core.Bool.{Bool, true, false, ◌&&◌}
use mathlib.Core.List.{List, [], ◌∷◌}
use native.Mathlib.Omega.{arith}
use lib.Dec.{leb}
use borrow.Author.Tests.{leb-true}
use Rattle.std.specs.Prelude.{if◌then◌else◌}
use Rattle.text.proofs.Choices.{and_left, and_right}
use Rattle.text.proofs.Scans.{same_eq}
use Rattle.forms.specs.Shape.{digits}
use Rattle.forms.specs.Amount.{amount}
use Rattle.records.specs.Record.{count_fits}
use Rattle.fields.specs.Profile.{Row, names, row_in, profile, width_in_table, But, always, instead, narrowed, width_of, Rules, is_required, has_form}
use Rattle.fields.specs.Field.{tested}
use Rattle.records.specs.Version.{numeral, is_version}
use Rattle.records.specs.declared.version.Version.{Version}
use Rattle.records.specs.declared.version.Version.TheVariants.{Five, Seven}
use Rattle.records.specs.declared.record.Record.{Record}
use Rattle.records.specs.declared.record.Record.TheVariants.{Header, Sender, Shipment, Parcel, Product, Feature}
use Rattle.fields.proofs.Forms.{identcode_digits}

-- no width above 100
abbrev pub narrow : But → Bool
narrow always = true
narrow (instead width test) = leb width 100

abbrev pub within : List Row → Bool
within [] = true
within (row ∷ rows) = leb row.width 100 && (narrow row.but && within rows)

-- no rule of a first field looks beside it; 040.1 must be filled, with 22 digits whatever else its form asks; and 060.3 is an amount
pub record Sound (rules : Rules) : Type 0 where
  pub narrows : (kind : Record) → within (rules kind) ≡ true
  pub lone : (kind : Record) (b c f : List ℕ) → tested (rules kind) 1 b f ≡ tested (rules kind) 1 c f
  pub coded : is_required (rules Parcel) 1 ≡ true
  pub digital : (beside f : List ℕ) → has_form (rules Parcel) 1 beside f ≡ true → digits 22 f ≡ true
  pub priced : (beside f : List ℕ) → has_form (rules Feature) 3 beside f ≡ true → amount f ≡ true

row_within : (rows : List Row) (n : ℕ) → within rows ≡ true → ((row_in rows n).width ≤ 100) × (narrow (row_in rows n).but ≡ true)
row_within [] n e = (zero-le, refl)
row_within (row ∷ rows) n e =
    let more = and_right (leb row.width 100) (narrow row.but && within rows) e in
    go (names row n)
    (leb-true row.width 100 (and_left (leb row.width 100) (narrow row.but && within rows) e))
    (and_left (narrow row.but) (within rows) more)
    (row_within rows n (and_right (narrow row.but) (within rows) more))
  where
    go : (t : Bool) → row.width ≤ 100 → narrow row.but ≡ true → ((row_in rows n).width ≤ 100) × (narrow (row_in rows n).but ≡ true) →
        ((if t then row else row_in rows n).width ≤ 100) × (narrow (if t then row else row_in rows n).but ≡ true)
    go true h k more = (h, k)
    go false h k more = more

pub width_le : (rows : List Row) (n : ℕ) (beside : List ℕ) → within rows ≡ true → width_of rows n beside ≤ 100
unfolding width_of width_in_table
width_le rows n beside e = let w = row_within rows n e in go (row_in rows n).but (row_in rows n).width w.0 w.1
  where
    either : (t : Bool) (a b : ℕ) → a ≤ 100 → b ≤ 100 → (if t then a else b) ≤ 100
    either true a b h k = h
    either false a b h k = k

    go : (b : But) (w : ℕ) → w ≤ 100 → narrow b ≡ true → narrowed b w beside ≤ 100
    go always w h e = h
    go (instead width test) w h e = either (test beside) width w (leb-true width 100 e) h

pub count_le : (kind : Record) (n : ℕ) → count_fits kind n ≡ true → n ≤ 40
count_le Header n e = omega (arith, leb-true n 10 (and_right (leb 10 n) (leb n 10) e))
count_le Sender n e = omega (arith, leb-true n 16 (and_right (leb 16 n) (leb n 16) e))
count_le Shipment n e = omega (arith, leb-true n 40 (and_right (leb 40 n) (leb n 40) e))
count_le Parcel n e = omega (arith, leb-true n 24 (and_right (leb 3 n) (leb n 24) e))
count_le Product n e = omega (arith, leb-true n 24 (and_right (leb 1 n) (leb n 24) e))
count_le Feature n e = omega (arith, leb-true n 10 (and_right (leb 10 n) (leb n 10) e))

pub sound : (version : Version) → Sound (profile version)
unfolding profile is_required has_form tested width_of width_in_table
sound version =
    record {
      narrows = narrows version;
      lone = lone version;
      coded = coded version;
      digital = λ beside f e. identcode_digits f e;
      priced = λ beside f e. e;
    }
  where
    coded : (v : Version) → is_required (profile v Parcel) 1 ≡ true
    coded Five = refl
    coded Seven = refl

    lone : (v : Version) (kind : Record) (b c f : List ℕ) → tested (profile v kind) 1 b f ≡ tested (profile v kind) 1 c f
    lone v Header b c f = refl
    lone v Sender b c f = refl
    lone v Shipment b c f = refl
    lone v Feature b c f = refl
    lone Five Parcel b c f = refl
    lone Seven Parcel b c f = refl
    lone Five Product b c f = refl
    lone Seven Product b c f = refl

    narrows : (v : Version) (kind : Record) → within (profile v kind) ≡ true
    narrows v Sender = refl
    narrows v Shipment = refl
    narrows Five Header = refl
    narrows Seven Header = refl
    narrows Five Parcel = refl
    narrows Seven Parcel = refl
    narrows Five Product = refl
    narrows Seven Product = refl
    narrows Five Feature = refl
    narrows Seven Feature = refl

-- 010.6 is the version whose rules the header keeps
pub header_version : (version : Version) (beside f : List ℕ) → has_form (profile version Header) 6 beside f ≡ true → f ≡ numeral version
unfolding profile has_form is_version
header_version version beside f e = same_eq f (numeral version) e

pub header_versioned : (version : Version) → is_required (profile version Header) 6 ≡ true
unfolding profile is_required
header_versioned version = refl
