-- The number of a few bytes, each worth at most 207, fits a word of 32 bits.
use Prim.Native.Nat.{ℕ, ◌+◌, ◌*◌, ◌^◌, ◌≤◌, ◌<◌}
use mathlib.Core.Path.{◌≡◌}
use native.Mathlib.Nat.{pow-suc, pow-le-pow_right}
use native.Mathlib.Numerals.{add-one}
use native.Mathlib.Omega.{arith}
use mir.Syntax.{w32}
use mir.Val.{Fits}
use Rattle.text.proofs.Decimals.{number_on_lem, number_ends}

-- a bound on what i bytes write
abbrev pub Bounded : ℕ → ℕ → Type 0
Bounded n i = n + 23 ≤ 23 * 10 ^ i

module _ (n i : ℕ) (h : Bounded n i) where
  pub bounded_on : (d : ℕ) → d ≤ 207 → Bounded (10 * n + d) (i + 1)
  bounded_on d k = let q : 10 ^ (i + 1) ≡ 10 ^ i * 10 = rw add-one (pow-suc 10 i) in omega (arith, h, q)

  pub few : (m : ℕ) → i < m → m ≤ 6 → n ≤ 2300000
  few m l k = let j : i ≤ 5 = omega arith in let q : 10 ^ i ≤ 10 ^ 5 = pow-le-pow_right (omega arith) j in omega (arith, h, q)

  pub tens_fit : (m : ℕ) → i < m → m ≤ 6 → Fits w32 (10 * n)
  tens_fit m l k = omega (arith, few m l k)

  pub next_fits : (m d : ℕ) → i < m → m ≤ 6 → d ≤ 207 → Fits w32 (10 * n + d)
  next_fits m d l k r = omega (arith, few m l k)

-- the steps of the loop over the digits
pub ruleset number_steps = (tens_fit, next_fits, bounded_on, number_on_lem, number_ends)
