-- The number that digits write: the steps of a loop, and how large it is.
use Prim.Native.Nat.{ℕ, suc, ◌+◌, ◌-◌, ◌*◌, ◌^◌, ◌≤◌, ◌<◌}
use mathlib.Core.Path.{◌≡◌, sym, ◌∙◌}
use mathlib.Core.Bool.{true}
use mathlib.Core.List.{List, [], ◌∷◌}
use native.Mathlib.Nat.{pow-suc, pow-le-pow_right, mul-le-mul_right, mul_comm, mul_assoc}
use native.Mathlib.Numerals.{add-one}
use native.Mathlib.Omega.{arith}
use lib.ListN.{length, drop, get_or, drop_of_length-le}
use lib.Seq.{drop-cons}
use Rattle.text.specs.Byte.{digit}
use Rattle.text.specs.Decimal.{number_from, worth, number}
use Rattle.text.specs.Scan.{all}
use Rattle.text.proofs.Bytes.{digit_range}
use Rattle.text.proofs.Choices.{and_left, and_right}

-- n is written in front, and the digit here is worth d
module _ (value : ℕ → ℕ) (s : List ℕ) (i n z : ℕ) where
  pub number_on_lem :
      (d : ℕ) → i < length s → d ≡ value (get_or s i 0) → number_from value n (drop i s) ≡ z →
      number_from value (10 * n + d) (drop (i + 1) s) ≡ z
  number_on_lem d h e f = rw (add-one, e) (sym (rw (drop-cons s i 0 h)) ∙ f)

  pub number_ends : length s ≤ i → number_from value n (drop i s) ≡ z → n ≡ z
  number_ends h f = sym (rw (drop_of_length-le s h)) ∙ f

pub number_below : (s : List ℕ) (a : ℕ) → all digit s ≡ true → number_from worth a s < (a + 1) * 10 ^ length s
number_below [] a e = omega arith
number_below (b ∷ s) a e =
    let r : (48 ≤ b) × (b ≤ 57) = digit_range b (and_left (digit b) (all digit s) e) in
    let c = 10 * a + (b - 48) in
    let p = number_below s c (and_right (digit b) (all digit s) e) in
    let m : (c + 1) * 10 ^ length s ≤ (a + 1) * 10 * 10 ^ length s = mul-le-mul_right (10 ^ length s) (omega (arith, r)) in
    let q : (a + 1) * 10 ^ suc (length s) ≡ (a + 1) * 10 * 10 ^ length s =
    rw (pow-suc 10 (length s), mul_comm (10 ^ length s) 10) (sym (mul_assoc (a + 1) 10 (10 ^ length s)))
    in
    omega (arith, p, m, q)

pub number_few : (s : List ℕ) (n : ℕ) → all digit s ≡ true → length s ≤ n → number s < 10 ^ n
number_few s n e l = let v : 10 ^ length s ≤ 10 ^ n = pow-le-pow_right (omega arith) l in omega (arith, number_below s 0 e, v)
