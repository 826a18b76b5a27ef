-- The shape holds exactly when the scan for a wrong symbol finds none.
use Prim.Native.Nat.{ℕ, ◌≤◌}
use mathlib.Core.Bool.{Bool}
use mathlib.Core.List.{List}
use native.Mathlib.Nat.{zero-add}
use native.Mathlib.Omega.{arith}
use lib.ListN.{length}
use Rattle.text.specs.Scan.{first_failing}
use Rattle.text.proofs.Scans.{none_fails, all_pass}
use Rattle.slips.specs.Exactly.{Shaped}

module _ (ok : ℕ → ℕ → Bool) (s : List ℕ) where
  pub shaped_all : length s ≤ first_failing ok 0 s → Shaped ok s
  shaped_all h i l = rw zero-add at (none_fails ok 0 s (omega arith) i l)

  pub all_shaped : Shaped ok s → length s ≤ first_failing ok 0 s
  all_shaped p = omega (arith, all_pass ok 0 s (λ j l. rw zero-add (p j l)))
