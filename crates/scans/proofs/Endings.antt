-- A line's number, which a carriage return may follow.
use Rattle.std.proofs.Common.{◌≡◌, ℕ, ◌-◌, ◌<◌, List, [], ◌∷◌, length, get_or, take, refl, arith, eq-eqb, ne_eqb}
use Rattle.scans.specs.Scans.{number_on}

pub with_return : (line : List ℕ) → get_or line (length line - 1) 0 ≡ 13 → take (length line - 1) line ≡ number_on line
unfolding number_on
with_return line e = rw (eq-eqb (get_or line (length line - 1) 0) 13 e)

pub empty_line : (line : List ℕ) → length line < 1 → line ≡ number_on line
unfolding number_on
empty_line [] h = refl
empty_line (b ∷ line) h = absurd (omega arith)

pub without_return : (line : List ℕ) → (get_or line (length line - 1) 0 ≡ 13 → ⊥) → line ≡ number_on line
unfolding number_on
without_return line e = rw (ne_eqb (get_or line (length line - 1) 0) 13 e)
