-- Demand 3: the slips that it names, and those of an identcode (document 02, request 2).
use Rattle.std.specs.Prelude.{ℕ, ◌+◌, ◌%◌, ◌≡◌, true, List, ◌∷◌, ◌++◌, ◌⊎◌, length, take, drop}
use Rattle.text.specs.Byte.{digit, capital}
use Rattle.slips.specs.Exactly.{symbol_at}

-- two numbers of "one length" that agree everywhere but at the place i
pub record AgreeBut (i : ℕ) (s t : List ℕ) : Type 0 where
  pub long : length s ≡ length t
  pub away : (j : ℕ) → (j ≡ i → ⊥) → symbol_at s j ≡ symbol_at t j

-- "a digit for a digit or a letter for a letter"
abbrev pub OneClass : ℕ → ℕ → Type 0
OneClass a b = ((digit a ≡ true) × (digit b ≡ true)) ⊎ ((capital a ≡ true) × (capital b ≡ true))

-- "Swapping two unlike neighbours", or two "neighbouring digits": those at the places i and i + 1
abbrev pub swapped : ℕ → List ℕ → List ℕ
swapped i s = take i s ++ symbol_at s (i + 1) ∷ symbol_at s i ∷ drop (i + 2) s

-- the value y "follows" the value x "(0 follows 35) and the carry before them plus the followed value is 18, modulo 36"
abbrev pub Follows : ℕ → ℕ → ℕ → Type 0
Follows carry x y = (y ≡ (x + 1) % 36) × ((carry + x) % 36 ≡ 18)

-- "one value follows the other"
abbrev pub OneFollows : ℕ → ℕ → ℕ → Type 0
OneFollows carry x y = Follows carry x y ⊎ Follows carry y x

-- two digits that differ by 5
abbrev pub FiveApart : ℕ → ℕ → Type 0
FiveApart x y = (y ≡ x + 5) ⊎ (x ≡ y + 5)
