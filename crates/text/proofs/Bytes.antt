-- The classes of a byte, by cases.
use Prim.Native.Nat.{ℕ, ◌≤◌, ◌<◌}
use mathlib.Core.Path.{◌≡◌}
use mathlib.Core.Bool.{true, false}
use lib.Dec.{leb}
use borrow.Author.Tests.{lt-leb, leb-true}
use Rattle.text.specs.Byte.{digit, capital}
use Rattle.text.proofs.Choices.{and_left, and_right}

module _ (b : ℕ) where
  pub capital_low : b < 65 → capital b ≡ false
  capital_low h = simp (lt-leb 65 b)

  pub digit_range : digit b ≡ true → (48 ≤ b) × (b ≤ 57)
  digit_range e = (leb-true 48 b (and_left (leb 48 b) (leb b 57) e), leb-true b 57 (and_right (leb 48 b) (leb b 57) e))

  pub capital_range : capital b ≡ true → (65 ≤ b) × (b ≤ 90)
  capital_range e = (leb-true 65 b (and_left (leb 65 b) (leb b 90) e), leb-true b 90 (and_right (leb 65 b) (leb b 90) e))
