-- The first symbol that is not allowed at its place: a scan for one stops there.
use Prim.Native.Nat.{ℕ, ◌-◌, ◌≤◌, ◌<◌}
use mathlib.Core.Path.{◌≡◌, sym, ap, ◌∙◌}
use mathlib.Core.Bool.{Bool, true}
use mathlib.Core.List.{List}
use mathlib.Core.Logic.{⊎_elim}
use native.Mathlib.Nat.{zero-add}
use native.Mathlib.Omega.{arith}
use lib.ListN.{length, get_or}
use Rattle.text.specs.Scan.{first_failing}
use Rattle.text.proofs.Choices.{clash}
use Rattle.text.proofs.Numbers.{le_or_lt}
use Rattle.text.proofs.Runs.{first_before, first_fails}
use Rattle.refused.specs.Number.{FirstWrong}

module _ (ok : ℕ → ℕ → Bool) where
  module _ (s : List ℕ) where
    pub wrong_there : first_failing ok 0 s < length s → FirstWrong ok s (first_failing ok 0 s)
    wrong_there h =
        let k : first_failing ok 0 s - 0 ≡ first_failing ok 0 s = omega arith in
        record {
          inside = h;
          before = λ j l. rw zero-add at (first_before ok 0 s j (omega arith));
          here = ap (λ (m : ℕ). ok (first_failing ok 0 s) (get_or s m 0)) (sym k) ∙ first_fails ok 0 s (omega arith);
        }

    pub there_wrong : (i : ℕ) → FirstWrong ok s i → first_failing ok 0 s ≡ i
    there_wrong i g =
        let m = first_failing ok 0 s in
        ⊎_elim
        (λ (h : m ≤ i). ⊎_elim (λ (l : i ≤ m). omega arith)
        (λ (l : m < i). let w = wrong_there (omega (arith, g.inside)) in clash (g.before m l) w.here) (le_or_lt i m))
        (λ (h : i < m). let t : ok i (get_or s i 0) ≡ true = rw zero-add at (first_before ok 0 s i (omega arith)) in clash t g.here)
        (le_or_lt m i)
