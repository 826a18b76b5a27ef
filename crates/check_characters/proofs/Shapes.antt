-- Which byte may stand where in a DPD number.
use Prim.Native.Nat.{ℕ, zero, suc, ◌+◌, ◌-◌, ◌≤◌, ◌<◌}
use mathlib.Core.Path.{◌≡◌, refl, ap, ◌∙◌}
use mathlib.Core.Bool.{Bool, false}
use mathlib.Core.List.{List, [], ◌∷◌, ◌++◌}
use native.Mathlib.Nat.{add-zero, add-suc, not-suc-le-zero, le_of_suc-le-suc}
use native.Mathlib.Omega.{arith}
use lib.ListN.{get_or, replicate}
use Rattle.text.specs.Byte.{digit, symbol}
use Rattle.check_characters.specs.Number.{shape_of, length_of, allowed_in_number}
use Rattle.check_characters.specs.declared.number.Kind.{Kind}
use Rattle.check_characters.specs.declared.number.Kind.TheVariants.{Tracking, Label}

abbrev Test : Type 0
Test = ℕ → Bool

run_at : (n i : ℕ) (p : Test) (rest : List Test) (d : Test) → i < n → get_or (replicate n p ++ rest) i d ≡ p
run_at zero i p rest d h = absurd (not-suc-le-zero h)
run_at (suc n) zero p rest d h = refl
run_at (suc n) (suc i) p rest d h = run_at n i p rest d (le_of_suc-le-suc h)

run_past : (n i : ℕ) (p : Test) (rest : List Test) (d : Test) → get_or (replicate n p ++ rest) (i + n) d ≡ get_or rest i d
run_past zero i p rest d = rw add-zero
run_past (suc n) i p rest d = rw (add-suc i n) (run_past n i p rest d)

module _ (i b : ℕ) where
  pub tracking_digit : i < 14 → allowed_in_number Tracking i b ≡ digit b
  unfolding shape_of allowed_in_number
  tracking_digit h = ap (λ (f : Test). f b) (run_at 14 i digit (symbol ∷ []) (λ _. false) h)

  pub tracking_check : i ≡ 14 → allowed_in_number Tracking i b ≡ symbol b
  unfolding shape_of allowed_in_number
  tracking_check e = rw e

  pub label_symbol : i < 7 → allowed_in_number Label i b ≡ symbol b
  unfolding shape_of allowed_in_number
  label_symbol h = ap (λ (f : Test). f b) (run_at 7 i symbol (replicate 20 digit ++ (symbol ∷ [])) (λ _. false) h)

  pub label_digit : 7 ≤ i → i < 27 → allowed_in_number Label i b ≡ digit b
  unfolding shape_of allowed_in_number
  label_digit l h =
      let e : i ≡ i - 7 + 7 = omega arith in
      let there : get_or (replicate 7 symbol ++ (replicate 20 digit ++ (symbol ∷ []))) (i - 7 + 7) (λ _. false) ≡ digit =
      run_past 7 (i - 7) symbol (replicate 20 digit ++ (symbol ∷ [])) (λ _. false)
      ∙ run_at 20 (i - 7) digit (symbol ∷ []) (λ _. false) (omega arith) in
      ap (λ (f : Test). f b) (ap (λ j. get_or (shape_of Label) j (λ _. false)) e ∙ there)

  pub label_check : i ≡ 27 → allowed_in_number Label i b ≡ symbol b
  unfolding shape_of allowed_in_number
  label_check e = rw e

-- a number of a kind has a last symbol
pub has_last : (k : Kind) (n : ℕ) → n ≡ length_of k → 1 ≤ n
has_last Tracking n e = omega arith
has_last Label n e = omega arith

pub ruleset stands = (tracking_digit, tracking_check, label_symbol, label_digit, label_check)
