-- The source of a text: the shipment above a line and its first parcel, by cases.
use Prim.Native.Nat.{ℕ, suc, ◌+◌, ◌-◌, ◌≤◌, ◌<◌}
use mathlib.Core.Path.{◌≡◌, sym, ap, ◌∙◌}
use mathlib.Core.Bool.{Bool, true, false, not}
use mathlib.Core.List.{List}
use native.Mathlib.Numerals.{add-one}
use native.Mathlib.Omega.{arith}
use lib.ListN.{length, drop, get_or, drop_of_length-le}
use lib.Seq.{drop-cons}
use borrow.Author.Tests.{le-leb, lt-leb, not-true, not-false}
use Rattle.std.specs.Prelude.{if◌then◌else◌, Some, None}
use Rattle.text.specs.Quoted.{bytes}
use Rattle.line.specs.Parts.{split}
use Rattle.line.specs.Need.{is_filled}
use Rattle.line.specs.Line.{text_at}
use Rattle.purpose.specs.At.{is_typed}
use Rattle.purpose.specs.Source.{is_cash_line, shipment_above, first_parcel, from_shipment, for_feature, source_of}
use Rattle.purpose.specs.declared.source.Source.{Source}
use Rattle.purpose.specs.declared.source.Source.TheVariants.{Field}

-- the loop upward from a line: the shipment above the line i is the one looked for
module _ (s starts : List ℕ) (i z : ℕ) (left : shipment_above s starts i ≡ z) where
  module _ (h : 0 < i) (o : ℕ) (eo : o ≡ get_or starts (i - 1) 0) (t : Bool) (et : t ≡ is_typed s o (bytes "030")) where
    above : (if t then i - 1 else shipment_above s starts (i - 1)) ≡ z
    above = let k : i ≡ suc (i - 1) = omega arith in rw (et, eo) (sym (ap (shipment_above s starts) k) ∙ left)

    pub ship_here : t ≡ true → i - 1 ≡ z
    ship_here e = rw e at above

    pub ship_up : t ≡ false → shipment_above s starts (i - 1) ≡ z
    ship_up e = rw e at above

  pub ship_none : i ≤ 0 → 0 ≡ z
  ship_none h = let k : i ≡ 0 = omega arith in sym (ap (shipment_above s starts) k) ∙ left

-- the loop downward from a shipment: the first parcel from the line i on is the one looked for
module _ (s starts : List ℕ) (i z : ℕ) (left : first_parcel s (drop i starts) ≡ z) where
  module _ (h : i < length starts) (o : ℕ) (eo : o ≡ get_or starts i 0) (t : Bool) (et : t ≡ is_typed s o (bytes "040")) where
    below : (if t then o else first_parcel s (drop (suc i) starts)) ≡ z
    below = rw (et, eo) (sym (ap (first_parcel s) (drop-cons starts i 0 h)) ∙ left)

    pub parcel_here : t ≡ true → o ≡ z
    parcel_here e = rw e at below

    pub parcel_on : t ≡ false → first_parcel s (drop (i + 1) starts) ≡ z
    parcel_on e = rw add-one (rw e at below)

  pub parcel_none : length starts ≤ i → 0 ≡ z
  parcel_none h = sym (ap (first_parcel s) (drop_of_length-le starts {i = i} h)) ∙ left

-- the source for a cash line
module _ (s starts : List ℕ) (n at : ℕ) (ea : at ≡ get_or starts n 0) (t : Bool) (et : t ≡ is_filled (split (text_at s at)) 8) where
  pub own_field : t ≡ true → Field at 8 ≡ for_feature s starts n
  unfolding for_feature
  own_field e = rw (← ea, ← et, e)

  pub from_above :
      t ≡ false → (shipment o parcel : ℕ) → shipment ≡ shipment_above s starts n → parcel ≡ first_parcel s (drop (shipment + 1) starts) →
      o ≡ get_or starts shipment 0 →
      (r : Source) → r ≡ from_shipment s o parcel → r ≡ for_feature s starts n
  unfolding for_feature
  from_above e shipment o parcel es ep eo r er = rw (← ea, ← et, e, ← es, ← ep, ← eo) er

-- the source for any line
module _ (s starts : List ℕ) (n : ℕ) where
  pub past_lines : length starts ≤ n → None ≡ source_of s starts n
  unfolding source_of
  past_lines h = rw (le-leb (length starts) n h)

  module _ (h : n < length starts) (at : ℕ) (ea : at ≡ get_or starts n 0) (t : Bool) (et : t ≡ is_cash_line s at) where
    pub no_cash_line : not t ≡ true → None ≡ source_of s starts n
    unfolding source_of
    no_cash_line e = rw (lt-leb (length starts) n h, ← ea, ← et, not-true t e)

    pub cash_line : not t ≡ false → (r : Source) → r ≡ for_feature s starts n → Some r ≡ source_of s starts n
    unfolding source_of
    cash_line e r er = rw (lt-leb (length starts) n h, ← ea, ← et, not-false t e, er)
