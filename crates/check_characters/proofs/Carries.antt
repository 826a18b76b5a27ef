-- The carry: its step and its range, the walk over a run of symbols, when a number passes, and the check character.
use Prim.Native.Nat.{ℕ, suc, ◌+◌, ◌-◌, ◌*◌, ◌%◌, ◌≤◌, ◌<◌}
use mathlib.Core.Path.{◌≡◌, refl, sym, ap, ◌∙◌}
use mathlib.Core.Bool.{true}
use mathlib.Core.List.{List, [], ◌∷◌, ◌++◌}
use native.Mathlib.Omega.{arith}
use native.Mathlib.Numerals.{add-one}
use lib.Dec.{leb, eqb}
use lib.ListN.{length, take, get_or}
use lib.Seq.{take-suc, take_all}
use borrow.Author.Tests.{eq-eqb, ne_eqb, eqb-true, leb-true}
use Rattle.text.proofs.Finite.{every_at, told_apart}
use Rattle.check_characters.specs.Symbol.{value_of, symbol_of}
use Rattle.check_characters.specs.Mod37.{thirty_six_for0, step, carry_from, carry, closes, passes, first_value}

-- a carry is from 1 to 36
pub record Carry (c : ℕ) : Type 0 where
  pub low : 1 ≤ c
  pub high : c ≤ 36

pub step_more : (c v : ℕ) → ((c + v) % 36 ≡ 0 → ⊥) → step c v ≡ 2 * ((c + v) % 36) % 37
unfolding step
step_more c v h = simp (ne_eqb ((c + v) % 36) 0)

pub step_carry : (c v : ℕ) → Carry (step c v)
unfolding step
step_carry c v =
    record {
      low = leb-true 1 _ (every_at 36 (λ z. leb 1 (2 * thirty_six_for0 z % 37)) refl ((c + v) % 36) (omega arith));
      high = omega arith;
    }

pub carry_range : (c : ℕ) (s : List ℕ) → Carry c → Carry (carry_from c s)
carry_range c [] h = h
carry_range c (b ∷ s) h = carry_range (step c (value_of b)) s (step_carry c (value_of b))

pub carry_of : (s : List ℕ) → Carry (carry s)
carry_of s = carry_range 36 s (record { low = omega arith; high = omega arith })

-- the step is one to one in what the sum leaves modulo 36
pub step_sum : (c v d w : ℕ) → step c v ≡ step d w → (c + v) % 36 ≡ (d + w) % 36
unfolding step
step_sum c v d w e = told_apart 36 (λ x y. 2 * thirty_six_for0 x % 37) (λ x y. 2 * thirty_six_for0 y % 37) refl ((c + v) % 36) ((d + w) % 36)
    (omega arith) (omega arith) e

-- the check's value closes a carry exactly when the carry behind it is 2
pub two_of_one : (c v : ℕ) → (c + v) % 36 ≡ 1 → step c v ≡ 2
two_of_one c v e = step_more c v (λ z. omega arith) ∙ rw e

pub one_of_two : (c v : ℕ) → step c v ≡ 2 → (c + v) % 36 ≡ 1
unfolding step
one_of_two c v e = step_sum c v 36 1 e

-- a run behind another
pub carry_append : (c : ℕ) (p q : List ℕ) → carry_from c (p ++ q) ≡ carry_from (carry_from c p) q
carry_append c [] q = refl
carry_append c (b ∷ p) q = carry_append (step c (value_of b)) p q

-- one symbol more
pub carry_next : (s : List ℕ) (i : ℕ) → i < length s → carry (take (i + 1) s) ≡ step (carry (take i s)) (value_of (get_or s i 0))
carry_next s i h = rw add-one (ap carry (take-suc s i 0 h) ∙ carry_append 36 (take i s) (get_or s i 0 ∷ []))

-- the carry behind all of them
pub carry_ends : (s : List ℕ) (i c : ℕ) → c ≡ carry (take i s) → length s ≤ i → c ≡ carry s
carry_ends s i c ec h = ec ∙ ap carry (take_all i s h)

-- a number passes exactly when the carry of the whole is 2: the check is a symbol like the others
module _ (s : List ℕ) (h : 1 ≤ length s) where
  last_step : carry s ≡ step (carry (take (length s - 1) s)) (value_of (get_or s (length s - 1) 0))
  last_step =
      let e : length s - 1 + 1 ≡ length s = omega arith in
      ap carry (sym (take_all (length s - 1 + 1) s (omega arith))) ∙ carry_next s (length s - 1) (omega arith)

  pub passes_two : passes s ≡ true → carry s ≡ 2
  unfolding passes
  passes_two e = last_step ∙ two_of_one (carry (take (length s - 1) s)) (value_of (get_or s (length s - 1) 0)) (eqb-true _ _ e)

  pub two_passes : carry s ≡ 2 → passes s ≡ true
  unfolding passes
  two_passes e = eq-eqb _ _ (one_of_two (carry (take (length s - 1) s)) (value_of (get_or s (length s - 1) 0)) (sym last_step ∙ e))

-- the check character's value, the first that closes a carry, is what the code works out
abbrev check_value : ℕ → ℕ
check_value c = first_value (closes c) 0 36

pub check_value_lem : (c : ℕ) → Carry c → check_value c ≡ (37 - c) % 36
check_value_lem c h =
    let e : suc (c - 1) ≡ c = omega (arith, h.low) in
    let t = every_at 36 (λ k. eqb (check_value (suc k)) ((37 - suc k) % 36)) refl (c - 1) (omega (arith, h.low, h.high)) in
    rw e at (eqb-true (check_value (suc (c - 1))) ((37 - suc (c - 1)) % 36) t)

pub closing_symbol : (r c : ℕ) → 1 ≤ c → c ≤ 36 → r ≡ symbol_of ((37 - c) % 36) → r ≡ symbol_of (first_value (closes c) 0 36)
closing_symbol r c low high er = er ∙ ap symbol_of (sym (check_value_lem c (record { low = low; high = high })))
