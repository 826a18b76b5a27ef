-- The answers overruled, one after the other.
use Rattle.std.proofs.Common.{◌≡◌, ℕ, ◌+◌, ◌<◌, Bool, true, false, List, length, get_or, set, sym, ◌∙◌}
use Rattle.std.proofs.lemmas.List.{set-get_or}
use Rattle.text.specs.Placed.{written}
use Rattle.text.specs.Tabled.{tabled}
use Rattle.scans.specs.Laying.{ruled}
use Rattle.scans.proofs.Tabling.{table_rest, table_on}

-- the first answers are those of the definition, and the others are as they were
abbrev pub Overruling : List Bool → List ℕ → List ℕ → ℕ → Type 0
Overruling marks before answers i = answers ≡ written before 0 (tabled (λ k. ruled (get_or marks k false) (get_or before k 0)) 0 i)

-- each premise is a fact that the loop has
module _ (marks : List Bool) (before answers : List ℕ) (i : ℕ) (is : Overruling marks before answers i) (fits : i < length before) where
  rule : ℕ → ℕ
  rule = λ k. ruled (get_or marks k false) (get_or before k 0)

  pub overruled_on : get_or marks i false ≡ false → Overruling marks before (set answers i 16) (i + 1)
  unfolding rule
  overruled_on e = table_on rule before answers i is fits 16 (rw e)

  pub overruled_past : get_or marks i false ≡ true → Overruling marks before answers (i + 1)
  unfolding rule
  overruled_past e =
      sym (set-get_or answers i 0) ∙ table_on rule before answers i is fits (get_or answers i 0) (table_rest rule before answers i is fits ∙ rw e)
