-- The remainder by 97 walked symbol by symbol, and what it tells of one symbol and of two neighbours.
use Prim.Native.Nat.{ℕ, ◌+◌, ◌*◌, ◌%◌, ◌<◌}
use mathlib.Core.Path.{◌≡◌, refl, sym, ap, ◌∙◌}
use mathlib.Core.Bool.{Bool, true, false}
use mathlib.Core.List.{List, [], ◌∷◌, ◌++◌}
use native.Mathlib.Omega.{arith}
use native.Mathlib.Nat.{mul-add}
use Rattle.std.specs.Prelude.{if◌then◌else◌}
use Rattle.text.specs.Byte.{capital}
use Rattle.text.proofs.Finite.{tells, told_apart}
use Rattle.check_characters.specs.Symbol.{value_of}
use Rattle.check_characters.specs.Iban.{digits_of, spread, decimal_from}
use Rattle.check_characters.proofs.Digits.{decimal_append, weight, weighed, mod_scale}

-- the remainder after a symbol, and after a run of symbols
abbrev pub after : ℕ → ℕ → ℕ
after r b = (weight b * r + value_of b) % 97

abbrev pub remainder_from : ℕ → List ℕ → ℕ
remainder_from r [] = r
remainder_from r (b ∷ s) = remainder_from (after r b) s

pub remainder_spread : (a : ℕ) (s : List ℕ) → decimal_from a (spread s) % 97 ≡ remainder_from (a % 97) s
remainder_spread a [] = refl
remainder_spread a (b ∷ s) =
    ap (λ (x : ℕ). x % 97) (decimal_append a (digits_of b) (spread s))
    ∙ remainder_spread (decimal_from a (digits_of b)) s
    ∙ ap (λ (x : ℕ). remainder_from x s) (ap (λ (x : ℕ). x % 97) (weighed a b) ∙ mod_scale (weight b) a (value_of b))

pub remainder_append : (r : ℕ) (p q : List ℕ) → remainder_from r (p ++ q) ≡ remainder_from (remainder_from r p) q
remainder_append r [] q = refl
remainder_append r (b ∷ p) q = remainder_append (after r b) p q

-- what a weight can tell apart, tested: two remainders, and two values in either order
pub record Tells (m : ℕ) : Type 0 where
  pub remainders : tells 97 (λ v w. m * v % 97) (λ v w. m * w % 97) ≡ true
  pub order : tells 36 (λ v w. (m * v + w) % 97) (λ v w. (m * w + v) % 97) ≡ true

pub weight_tells : (b : ℕ) → Tells (weight b)
weight_tells b = go (capital b)
  where
    go : (t : Bool) → Tells (if t then 100 else 10)
    go true = record { remainders = refl; order = refl }
    go false = record { remainders = refl; order = refl }

-- what a common part adds does not matter
pub cancel : (c x y : ℕ) → (x + c) % 97 ≡ (y + c) % 97 → x % 97 ≡ y % 97
cancel c x y e = omega arith

module _ (m : ℕ) (h : Tells m) where
  pub tell_remainders : (v r q : ℕ) → r < 97 → q < 97 → (m * r + v) % 97 ≡ (m * q + v) % 97 → r ≡ q
  tell_remainders v r q l k e = told_apart 97 (λ v w. m * v % 97) (λ v w. m * w % 97) h.remainders r q l k (cancel v (m * r) (m * q) e)

  pub tell_order : (r v w : ℕ) → v < 36 → w < 36 → (m * ((m * r + v) % 97) + w) % 97 ≡ (m * ((m * r + w) % 97) + v) % 97 → v ≡ w
  tell_order r v w l k e =
      told_apart 36 (λ v w. (m * v + w) % 97) (λ v w. (m * w + v) % 97) h.order v w l k
      (cancel (m * (m * r)) (m * v + w) (m * w + v) (even v w ∙ mod_scale m (m * r + v) w ∙ e ∙ sym (mod_scale m (m * r + w) v)
      ∙ sym (even w v)))
    where
      even : (v w : ℕ) → (m * v + w + m * (m * r)) % 97 ≡ (m * (m * r + v) + w) % 97
      even v w = let q : m * v + w + m * (m * r) ≡ m * (m * r + v) + w = omega (arith, mul-add m (m * r) v) in ap (λ (n : ℕ). n % 97) q

pub tell_value : (x v w : ℕ) → v < 36 → w < 36 → (x + v) % 97 ≡ (x + w) % 97 → v ≡ w
tell_value x v w l m e = omega arith
