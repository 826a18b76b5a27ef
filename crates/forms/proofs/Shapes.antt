-- So many digits: how many, and that they are digits.
use Prim.Native.Nat.{ℕ}
use mathlib.Core.Path.{◌≡◌}
use mathlib.Core.Bool.{true}
use mathlib.Core.List.{List}
use lib.Dec.{eqb}
use lib.ListN.{length}
use borrow.Author.Tests.{eqb-true}
use Rattle.text.proofs.Choices.{and_left, and_right}
use Rattle.forms.specs.Shape.{all_digits, digits}

pub digits_parts : (n : ℕ) (s : List ℕ) → digits n s ≡ true → (length s ≡ n) × (all_digits s ≡ true)
unfolding digits
digits_parts n s e = (eqb-true (length s) n (and_left (eqb (length s) n) (all_digits s) e), and_right (eqb (length s) n) (all_digits s) e)
