-- The cash of a line, by cases, and how much it can be.
use Prim.Native.Nat.{ℕ, ◌≤◌}
use mathlib.Core.Path.{◌≡◌, refl, ap, ◌∙◌}
use mathlib.Core.Bool.{Bool, true, false, not}
use mathlib.Core.List.{List, []}
use native.Mathlib.Omega.{arith}
use lib.ListN.{get_or}
use borrow.Author.Tests.{not-true, not-false}
use Rattle.std.specs.Prelude.{if◌then◌else◌}
use Rattle.text.specs.Quoted.{bytes}
use Rattle.text.specs.Scan.{same}
use Rattle.forms.specs.Amount.{cents, amount}
use Rattle.forms.proofs.Amounts.{cents_most}
use Rattle.fields.specs.Form.{is_cash}
use Rattle.records.specs.declared.record.Record.{Record}
use Rattle.records.specs.declared.record.Record.TheVariants.{Header, Sender, Shipment, Parcel, Product, Feature}
use Rattle.file.specs.Cash.{cents_of, cash_in, cash_of}

module _ (parts : List (List ℕ)) (a : List ℕ) (ea : a ≡ get_or parts 1 []) (t : Bool) (et : t ≡ is_cash a) where
  is_cash_lem : t ≡ is_cash (get_or parts 1 [])
  is_cash_lem = et ∙ ap is_cash ea

  pub no_cash : not t ≡ true → 0 ≡ cash_in parts
  unfolding cash_in
  no_cash e = rw (← is_cash_lem, not-true t e)

  module _ (c : not t ≡ false) (b : List ℕ) (eb : b ≡ get_or parts 4 []) (u : Bool) (eu : u ≡ same b (bytes "EUR")) where
    is_euro : u ≡ same (get_or parts 4 []) (bytes "EUR")
    is_euro = eu ∙ ap (λ (x : List ℕ). same x (bytes "EUR")) eb

    pub no_euro : not u ≡ true → 0 ≡ cash_in parts
    unfolding cash_in
    no_euro e = rw (← is_cash_lem, not-false t c, ← is_euro, not-true u e)

    pub in_euro : not u ≡ false → (f : List ℕ) → f ≡ get_or parts 3 [] → (r : ℕ) → r ≡ (if amount f then cents f else 0) → r ≡ cash_in parts
    unfolding cash_in
    in_euro e f ef r er = rw (← is_cash_lem, not-false t c, ← is_euro, not-false u e, ← ef) er

pub cash_as : (kind case : Record) (parts : List (List ℕ)) (r : ℕ) → kind ≡ case → r ≡ cash_of case parts → r ≡ cash_of kind parts
cash_as kind case parts r e f = rw e f

cents_below : (f : List ℕ) → cents_of f ≤ 99999999
cents_below f = go (amount f) refl
  where
    go : (t : Bool) → amount f ≡ t → (if t then cents f else 0) ≤ 99999999
    go true e = cents_most f e
    go false e = omega arith

cash_in_below : (parts : List (List ℕ)) → cash_in parts ≤ 99999999
unfolding cash_in
cash_in_below parts = go (is_cash (get_or parts 1 [])) (same (get_or parts 4 []) (bytes "EUR"))
  where
    go : (t u : Bool) → (if t then (if u then cents_of (get_or parts 3 []) else 0) else 0) ≤ 99999999
    go true true = cents_below (get_or parts 3 [])
    go true false = omega arith
    go false u = omega arith

pub cash_below : (kind : Record) (parts : List (List ℕ)) → cash_of kind parts ≤ 99999999
unfolding cash_of
cash_below Header parts = omega arith
cash_below Sender parts = omega arith
cash_below Shipment parts = omega arith
cash_below Parcel parts = omega arith
cash_below Product parts = omega arith
cash_below Feature parts = cash_in_below parts

pub cash_told : (r : ℕ) (parts : List (List ℕ)) → r ≡ cash_in parts → r ≤ 99999999
cash_told r parts e = omega (arith, cash_in_below parts)
