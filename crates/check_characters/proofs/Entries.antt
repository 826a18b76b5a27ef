-- The table of steps: each entry is what the formula gives.
use Prim.Native.Nat.{ℕ, ◌+◌, ◌/◌, ◌%◌, ◌≤◌, ◌<◌}
use mathlib.Core.Path.{◌≡◌, ap, ◌∙◌}
use mathlib.Core.List.{List}
use native.Mathlib.Omega.{arith}
use lib.ListN.{get_or}
use Rattle.text.proofs.Tables.{tabled_at}
use Rattle.check_characters.specs.Mod37.{step}
use Rattle.check_characters.specs.Steps.{steps, entry_for}
use Rattle.check_characters.proofs.Symbols.{value_le}
use Rattle.check_characters.proofs.Carries.{step_carry}

module _ (c v : ℕ) (low : 1 ≤ c) (high : c ≤ 36) (small : v < 36) where
  pub entry_inside : entry_for c v < 1296
  entry_inside = omega arith

  pub entry_step : get_or steps (entry_for c v) 0 ≡ step c v
  unfolding steps
  entry_step =
      let row : entry_for c v / 36 + 1 ≡ c = omega arith in
      let column : entry_for c v % 36 ≡ v = omega arith in
      tabled_at (λ entry. step (entry / 36 + 1) (entry % 36)) 1296 (entry_for c v) 0 entry_inside ∙ rw (row, column)

  -- read from a table that was lent
  pub entry_read : (table : List ℕ) → table ≡ steps → get_or table (entry_for c v) 0 ≡ step c v
  entry_read table e = ap (λ (t : List ℕ). get_or t (entry_for c v) 0) e ∙ entry_step

pub ruleset entries = (entry_inside, entry_read, step_carry, value_le)
