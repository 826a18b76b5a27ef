-- The step of the carry, tested at every carry and value: one to one in the value and in the carry, and when two values may be
-- swapped.
use Prim.Native.Nat.{ℕ, suc, ◌+◌, ◌-◌, ◌%◌, ◌<◌}
use mathlib.Core.Path.{◌≡◌, refl, sym, ◌∙◌}
use mathlib.Core.Bool.{Bool, true, false, ◌&&◌, ◌||◌, beq}
use mathlib.Core.Logic.{inl, inr, ⊎_elim}
use native.Mathlib.Omega.{arith}
use lib.Dec.{eqb}
use borrow.Author.Tests.{eqb-true, eq-eqb, ne_eqb}
use Rattle.text.proofs.Choices.{and_left, and_right, and_both, or_cases}
use Rattle.text.proofs.Finite.{every, every_at}
use Rattle.check_characters.specs.Mod37.{step}
use Rattle.check_characters.proofs.Carries.{Carry, step_sum}
use Rattle.slips.specs.Slips.{Follows, OneFollows}

-- a test of a carry and two values, at all of them
abbrev always : (ℕ → ℕ → ℕ → Bool) → Bool
always test = every 36 (λ c. every 36 (λ x. every 36 (λ y. test (suc c) x y)))

always_at : (test : ℕ → ℕ → ℕ → Bool) → always test ≡ true → (c x y : ℕ) → Carry c → x < 36 → y < 36 → test c x y ≡ true
always_at test t c x y h l m =
    let e : suc (c - 1) ≡ c = omega (arith, h.low) in
    rw e at
    (every_at 36 (λ y. test (suc (c - 1)) x y)
    (every_at 36 (λ x. every 36 (λ y. test (suc (c - 1)) x y))
    (every_at 36 (λ c. every 36 (λ x. every 36 (λ y. test (suc c) x y))) t (c - 1) (omega (arith, h.low, h.high))) x l) y m)

-- the step is one to one in the value and in the carry
pub step_value : (c v w : ℕ) → v < 36 → w < 36 → step c v ≡ step c w → v ≡ w
step_value c v w l m e = omega (arith, step_sum c v c w e)

pub step_back : (c d v : ℕ) → Carry c → Carry d → step c v ≡ step d v → c ≡ d
step_back c d v h k e = omega (arith, step_sum c v d v e)

-- the paper's rule for a swap
abbrev follows : ℕ → ℕ → ℕ → Bool
follows c x y = eqb y ((x + 1) % 36) && eqb ((c + x) % 36) 18

abbrev swaps : ℕ → ℕ → ℕ → Bool
swaps c x y = eqb (step (step c x) y) (step (step c y) x)

abbrev may : ℕ → ℕ → ℕ → Bool
may c x y = eqb x y || (follows c x y || follows c y x)

swap_test : always (λ c x y. beq (swaps c x y) (may c x y)) ≡ true
unfolding step
swap_test = refl

beq_eq : (a b : Bool) → beq a b ≡ true → a ≡ b
beq_eq true true e = refl
beq_eq true false e = sym e
beq_eq false true e = e
beq_eq false false e = refl

swaps_may : (c x y : ℕ) → Carry c → x < 36 → y < 36 → swaps c x y ≡ may c x y
swaps_may c x y h l m = beq_eq (swaps c x y) (may c x y) (always_at (λ c x y. beq (swaps c x y) (may c x y)) swap_test c x y h l m)

follows_true : (c x y : ℕ) → Follows c x y → follows c x y ≡ true
follows_true c x y f = and_both (eqb y ((x + 1) % 36)) (eqb ((c + x) % 36) 18) (eq-eqb _ _ f.0) (eq-eqb _ _ f.1)

true_follows : (c x y : ℕ) → follows c x y ≡ true → Follows c x y
true_follows c x y e = (
  eqb-true y ((x + 1) % 36) (and_left (eqb y ((x + 1) % 36)) (eqb ((c + x) % 36) 18) e),
  eqb-true ((c + x) % 36) 18 (and_right (eqb y ((x + 1) % 36)) (eqb ((c + x) % 36) 18) e),
)

module _ (c x y : ℕ) (h : Carry c) (l : x < 36) (m : y < 36) (n : x ≡ y → ⊥) where
  unlike : swaps c x y ≡ (follows c x y || follows c y x)
  unlike = swaps_may c x y h l m ∙ rw (ne_eqb x y n)

  pub swap_follows : step (step c x) y ≡ step (step c y) x → OneFollows c x y
  swap_follows e =
      ⊎_elim (λ f. inl (true_follows c x y f)) (λ f. inr (true_follows c y x f))
      (or_cases (follows c x y) (follows c y x) (sym unlike ∙ eq-eqb (step (step c x) y) (step (step c y) x) e))

  pub follows_swap : OneFollows c x y → step (step c x) y ≡ step (step c y) x
  follows_swap f = eqb-true (step (step c x) y) (step (step c y) x) (unlike
      ∙ ⊎_elim (λ f. rw (follows_true c x y f)) (λ f. second (follows c x y) (follows_true c y x f)) f)
    where
      second : (t : Bool) → follows c y x ≡ true → (t || follows c y x) ≡ true
      second true e = refl
      second false e = e
