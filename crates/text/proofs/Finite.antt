-- A test at every number below a bound, which the checker computes, and what it tells at each.
use Prim.Native.Nat.{ℕ, zero, suc, ◌<◌}
use mathlib.Core.Path.{◌≡◌, ap, ◌∙◌}
use mathlib.Core.Bool.{Bool, true, not, ◌&&◌, ◌||◌}
use mathlib.Core.Logic.{⊎_elim}
use native.Mathlib.Nat.{not-suc-le-zero, le_of_suc-le-suc, eq-or-lt_of_le}
use lib.Dec.{eqb}
use borrow.Author.Tests.{eqb-true, eq-eqb}
use Rattle.text.proofs.Choices.{and_left, and_right, or_cases, clash}

abbrev pub every : ℕ → (ℕ → Bool) → Bool
every zero test = true
every (suc n) test = test n && every n test

pub every_at : (n : ℕ) (test : ℕ → Bool) → every n test ≡ true → (k : ℕ) → k < n → test k ≡ true
every_at zero test t k h = absurd (not-suc-le-zero h)
every_at (suc n) test t k h =
    ⊎_elim (λ e. ap test e ∙ and_left (test n) (every n test) t) (λ l. every_at n test (and_right (test n) (every n test) t) k l)
    (eq-or-lt_of_le (le_of_suc-le-suc h))

-- where f and g agree at two numbers below n, the two are one
abbrev pub tells : ℕ → (ℕ → ℕ → ℕ) → (ℕ → ℕ → ℕ) → Bool
tells n f g = every n (λ v. every n (λ w. not (eqb (f v w) (g v w)) || eqb v w))

pub told_apart : (n : ℕ) (f g : ℕ → ℕ → ℕ) → tells n f g ≡ true → (v w : ℕ) → v < n → w < n → f v w ≡ g v w → v ≡ w
told_apart n f g t v w l m e =
    ⊎_elim (λ d. clash d (ap not (eq-eqb (f v w) (g v w) e))) (λ d. eqb-true v w d)
    (or_cases (not (eqb (f v w) (g v w))) (eqb v w)
    (every_at n (λ w. not (eqb (f v w) (g v w)) || eqb v w) (every_at n
    (λ v. every n (λ w. not (eqb (f v w) (g v w)) || eqb v w)) t v l) w m))
