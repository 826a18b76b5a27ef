-- What the wedge is answered, by cases.
use Prim.Native.Nat.{ℕ}
use mathlib.Core.Path.{◌≡◌}
use mathlib.Core.Bool.{true, false}
use lib.Dec.{leb}
use borrow.Author.Tests.{le-leb, leb-true}
use Rattle.refusal.specs.declared.Reason.TheVariants.{NotThere, WrongSymbol}
use Rattle.refusal.specs.Table.{because}
use Rattle.text.specs.Byte.{symbol}
use Rattle.text.proofs.Choices.{and_left, and_right, and_both}
use Rattle.check_characters.specs.Symbol.{value_of}
use Rattle.check_characters.specs.Mod37.{step}
use Rattle.check_characters.specs.Wedge.{is_carry, next_carry}
use Rattle.check_characters.proofs.Carries.{Carry}
use Rattle.std.specs.Prelude.{Ok, Err}

-- what the test of a carry says of a number
module _ (c : ℕ) where
  pub carry_there : is_carry c ≡ true → Carry c
  carry_there e =
      record {
        low = leb-true 1 c (and_left (leb 1 c) (leb c 36) e);
        high = leb-true c 36 (and_right (leb 1 c) (leb c 36) e);
      }

  pub there_carry : Carry c → is_carry c ≡ true
  there_carry h = and_both (leb 1 c) (leb c 36) (le-leb 1 c h.low) (le-leb c 36 h.high)

-- the answer, by what the wedge was asked with
module _ (c b : ℕ) where
  pub next_no_carry : is_carry c ≡ false → next_carry c b ≡ Err (because NotThere 0)
  unfolding next_carry
  next_no_carry e = simp e

  pub next_no_symbol : Carry c → symbol b ≡ false → next_carry c b ≡ Err (because WrongSymbol 0)
  unfolding next_carry
  next_no_symbol h e = simp (there_carry c h, e)

  pub next_step : Carry c → symbol b ≡ true → next_carry c b ≡ Ok (step c (value_of b))
  unfolding next_carry
  next_step h e = simp (there_carry c h, e)
