-- A table whose entries a rule gives.
use Rattle.std.specs.Prelude.{ℕ, zero, suc, List, [], ◌∷◌}

-- n entries, from that for i on
abbrev pub tabled : {A : Type 0} → (ℕ → A) → ℕ → ℕ → List A
tabled rule i zero = []
tabled rule i (suc n) = rule i ∷ tabled rule (suc i) n
