-- Document 02, request 4: when the wedge is refused the carry after a key. The call sees no number, so that the place is 0.
use Rattle.std.specs.Prelude.{ℕ, ◌≤◌, ◌≡◌, false}
use Rattle.refusal.specs.Table.{because}
use Rattle.refusal.specs.declared.Refusal.{Refusal}
use Rattle.refusal.specs.declared.Reason.TheVariants.{NotThere, WrongSymbol}
use Rattle.text.specs.Byte.{symbol}

pub data RefusedKey (carry key : ℕ) : Refusal → Type 0 where
  -- 15: there is no such carry; "carries 1 to 36"
  no_carry : (1 ≤ carry → carry ≤ 36 → ⊥) → RefusedKey carry key (because NotThere 0)
  -- 17: "symbol not allowed at its place"; no place allows it
  no_symbol : 1 ≤ carry → carry ≤ 36 → symbol key ≡ false → RefusedKey carry key (because WrongSymbol 0)
