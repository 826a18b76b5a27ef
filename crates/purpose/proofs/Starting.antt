-- A line by where it starts, as the code asks of its text.
use Prim.Native.Nat.{ℕ}
use mathlib.Core.Path.{◌≡◌, ap, ◌∙◌}
use mathlib.Core.Bool.{Bool}
use mathlib.Core.List.{List}
use Rattle.line.specs.Parts.{split, part_at}
use Rattle.line.specs.Need.{is_filled}
use Rattle.line.specs.Line.{text_at}
use Rattle.purpose.specs.At.{field_at, filled_at}

module _ (s : List ℕ) (at n : ℕ) (line : List ℕ) (el : line ≡ text_at s at) where
  pub part_told : (f : List ℕ) → f ≡ part_at line n → f ≡ field_at s at n
  part_told f e = e ∙ ap (λ (l : List ℕ). part_at l n) el

  pub filled_told : (t : Bool) → t ≡ is_filled (split line) n → t ≡ filled_at s at n
  filled_told t e = e ∙ ap (λ (l : List ℕ). is_filled (split l) n) el
