-- Symbols and their values, by cases.
use Prim.Native.Nat.{ℕ, ◌+◌, ◌-◌, ◌≤◌, ◌<◌}
use mathlib.Core.Path.{◌≡◌, refl}
use mathlib.Core.Bool.{Bool, true, false}
use mathlib.Core.Logic.{⊎_elim}
use native.Mathlib.Omega.{arith}
use borrow.Author.Tests.{lt-ltb}
use Rattle.text.specs.Byte.{digit, capital}
use Rattle.text.proofs.Choices.{true_or_false}
use Rattle.text.proofs.Bytes.{digit_range, capital_range}
use Rattle.check_characters.specs.Symbol.{value_of, symbol_of}

module _ (b : ℕ) (t : Bool) (et : t ≡ digit b) where
  pub value_digit : t ≡ true → b - 48 ≡ value_of b
  unfolding value_of
  value_digit e = simp (← et, e)

  module _ (u : Bool) (eu : u ≡ capital b) (other : t ≡ false) where
    pub value_capital : u ≡ true → b - 65 + 10 ≡ value_of b
    unfolding value_of
    value_capital e = simp (← et, other, ← eu, e)

    pub value_other : u ≡ false → 0 ≡ value_of b
    unfolding value_of
    value_other e = simp (← et, other, ← eu, e)

pub value_le : (b : ℕ) → value_of b ≤ 35
value_le b =
    ⊎_elim (λ d. omega (arith, digit_range b d, value_digit b (digit b) refl d))
    (λ n. ⊎_elim (λ c. omega (arith, capital_range b c, value_capital b (digit b) refl (capital b) refl n c))
    (λ c. omega (arith, value_other b (digit b) refl (capital b) refl n c)) (true_or_false (capital b)))
    (true_or_false (digit b))

pub low_symbol : (v : ℕ) → v < 10 → symbol_of v ≡ 48 + v
unfolding symbol_of
low_symbol v h = simp (lt-ltb v 10)
