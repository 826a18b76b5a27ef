-- What the judge adds up on a line is what the line's own fields say.
use Prim.Native.Nat.{ℕ}
use mathlib.Core.Path.{◌≡◌, refl}
use mathlib.Core.Bool.{Bool, true, false, ◌&&◌}
use mathlib.Core.List.{List, [], ◌∷◌}
use mathlib.Core.Logic.{inl, inr, ⊎_elim}
use Rattle.std.specs.Prelude.{if◌then◌else◌}
use Rattle.text.specs.Quoted.{bytes}
use Rattle.text.specs.Scan.{same}
use Rattle.text.proofs.Choices.{or_cases}
use Rattle.text.proofs.Scans.{same_eq}
use Rattle.forms.specs.Amount.{cents, amount}
use Rattle.records.specs.Record.{type_of}
use Rattle.fields.specs.Form.{is_cash}
use Rattle.fields.specs.Profile.{Rules}
use Rattle.fields.proofs.Rules.{Sound}
use Rattle.records.specs.declared.record.Record.{Record}
use Rattle.records.specs.declared.record.Record.TheVariants.{Header, Sender, Shipment, Parcel, Product, Feature}
use Rattle.line.specs.Parts.{field_no}
use Rattle.grammar.specs.Grammar.{Filled, FieldsOk, CodeAmong, LineOk}
use Rattle.file.specs.Cash.{cents_of, cash_in, cash_of}
use Rattle.allowed.specs.Allowed.{collects_euros}

-- a filled field 3 of an allowed feature is an amount
amount_there : (rules : Rules) → Sound rules → (fs : List (List ℕ)) → FieldsOk (rules Feature) 1 (type_of Feature) fs → Filled (field_no fs 3) →
    amount (field_no fs 3) ≡ true
amount_there rules w [] g h = absurd (h refl)
amount_there rules w (a ∷ []) g h = absurd (h refl)
amount_there rules w (a ∷ b ∷ []) g h = absurd (h refl)
amount_there rules w (a ∷ b ∷ c ∷ fs) g h = w.priced b c (g.1.1.0.formed h)

cash_coded : (fs : List (List ℕ)) → is_cash (field_no fs 1) ≡ true → CodeAmong fs ("006" ∷ "022" ∷ [])
unfolding is_cash
cash_coded fs e =
    ⊎_elim (λ t. inl (same_eq (field_no fs 1) (bytes "006") t)) (λ t. inr (inl (same_eq (field_no fs 1) (bytes "022") t)))
    (or_cases (same (field_no fs 1) (bytes "006")) (same (field_no fs 1) (bytes "022")) e)

feature_cash : {rules : Rules} → Sound rules → (fs : List (List ℕ)) → LineOk rules Feature fs →
    cash_in (type_of Feature ∷ fs) ≡ (if is_cash (field_no fs 1) && same (field_no fs 4) (bytes "EUR") then cents (field_no fs 3) else 0)
unfolding cash_in
feature_cash {rules} w fs g = go (is_cash (field_no fs 1)) (same (field_no fs 4) (bytes "EUR")) refl
  where
    go : (t u : Bool) → is_cash (field_no fs 1) ≡ t →
        (if t then (if u then cents_of (field_no fs 3) else 0) else 0) ≡ (if t && u then cents (field_no fs 3) else 0)
    go true true e = rw (amount_there rules w fs g.fields ((g.served refl).account (cash_coded fs e)).0)
    go true false e = refl
    go false u e = refl

pub line_cash : {rules : Rules} → Sound rules → (kind : Record) (fs : List (List ℕ)) → LineOk rules kind fs →
    cash_of kind (type_of kind ∷ fs) ≡ (if collects_euros (record { kind = kind; fields = fs }) then cents (field_no fs 3) else 0)
unfolding cash_of
line_cash w Header fs g = refl
line_cash w Sender fs g = refl
line_cash w Shipment fs g = refl
line_cash w Parcel fs g = refl
line_cash w Product fs g = refl
line_cash w Feature fs g = feature_cash w fs g
