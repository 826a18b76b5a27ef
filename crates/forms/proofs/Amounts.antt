-- An amount, by the cases that its functions meet, and how large it is.
use Prim.Native.Nat.{ℕ, ◌-◌, ◌≤◌}
use mathlib.Core.Path.{◌≡◌}
use mathlib.Core.Bool.{true, not, ◌&&◌}
use mathlib.Core.List.{List}
use native.Mathlib.Omega.{arith}
use lib.Dec.{leb, eqb}
use lib.ListN.{length, get_or, length-take}
use borrow.Author.Tests.{leb-true}
use Rattle.text.proofs.Decimals.{number_few}
use Rattle.text.proofs.Choices.{and_left, and_right}
use Rattle.forms.specs.Shape.{all_digits, digits}
use Rattle.forms.specs.Amount.{whole, hundredths, cents, pointed, leading_zero, amount}
use Rattle.forms.proofs.Shapes.{digits_parts}

module _ (s : List ℕ) where
  whole_long : length (whole s) ≡ length s - 3
  whole_long = simp length-take (omega arith)

  -- what a pointed number is, taken apart
  pub pointed_parts : pointed s ≡ true → (4 ≤ length s) × (length s ≤ 9) × (all_digits (whole s) ≡ true) × (digits 2 (hundredths s) ≡ true)
  unfolding pointed
  pointed_parts e =
      let n = length (whole s) in
      let p = eqb (get_or s (length s - 3) 0) 46 && digits 2 (hundredths s) in
      let d = all_digits (whole s) && p in
      let e₁ = and_right (leb 1 n) (leb n 6 && d) e in
      let e₂ = and_right (leb n 6) d e₁ in
      let e₃ = and_right (all_digits (whole s)) p e₂ in
      let least = leb-true 1 n (and_left (leb 1 n) (leb n 6 && d) e) in
      let most = leb-true n 6 (and_left (leb n 6) d e₁) in (
        omega (arith, least, whole_long),
        omega (arith, most, whole_long),
        and_left (all_digits (whole s)) p e₂,
        and_right (eqb (get_or s (length s - 3) 0) 46) (digits 2 (hundredths s)) e₃,
      )

  pub pointed_long : pointed s ≡ true → (4 ≤ length s) × (length s ≤ 9)
  pointed_long e = let p = pointed_parts e in (p.0, p.1)

  pub amount_pointed : amount s ≡ true → pointed s ≡ true
  unfolding amount
  amount_pointed e = and_left (pointed s) (not (leading_zero s) && leb 1 (cents s)) e

  pub amount_long : amount s ≡ true → (4 ≤ length s) × (length s ≤ 9)
  amount_long e = pointed_long (amount_pointed e)

  pub cents_most : amount s ≡ true → cents s ≤ 99999999
  unfolding cents all_digits
  cents_most e =
      let p = pointed_parts (amount_pointed e) in
      let q = digits_parts 2 (hundredths s) p.3 in
      let w = number_few (whole s) 6 p.2 (omega (arith, whole_long, p.1)) in
      let d = number_few (hundredths s) 2 q.1 (omega (arith, q.0)) in
      omega (arith, w, d)

pub ruleset parts_fit = (pointed_long, amount_long)
