-- The number that digits write, the most significant first.
use Rattle.std.specs.Prelude.{ℕ, ◌+◌, ◌-◌, ◌*◌, List, [], ◌∷◌}
use Rattle.text.specs.Quoted.{byte}

-- the number that these digits write behind digits that write a, where each is worth what value says
abbrev pub number_from : (ℕ → ℕ) → ℕ → List ℕ → ℕ
number_from value a [] = a
number_from value a (d ∷ s) = number_from value (10 * a + value d) s

-- what a byte is worth as a digit
abbrev pub worth : ℕ → ℕ
worth b = b - byte "0"

-- the number that bytes write
abbrev pub number : List ℕ → ℕ
number s = number_from worth 0 s
