-- The scanning wedge (document 02, request 4), which "asks for the carry after each keystroke".
--
-- It starts at 36, and the carry that one key is answered goes into the call for the next. For 09980000020041F the carries are those that
-- src/number.rt lists, 35 behind the first `0` and 22 behind the `1`; behind the check `F` it is 2 (`example_keyed`).
use Rattle.std.specs.Prelude.{ℕ, Bool, not, ◌&&◌, leb, if◌then◌else◌, Result, Ok, Err}
use Rattle.text.specs.Byte.{symbol}
use Rattle.refusal.specs.declared.Reason.TheVariants.{NotThere, WrongSymbol}
use Rattle.refusal.specs.Table.{because}
use Rattle.check_characters.specs.Symbol.{value_of}
use Rattle.check_characters.specs.Mod37.{step}
use Rattle.refusal.specs.declared.Refusal.{Refusal}

-- "carries 1 to 36"
abbrev pub is_carry : ℕ → Bool
is_carry carry = leb 1 carry && leb carry 36

-- the carry after one more symbol. A number that is no carry is 15, "no such field or line"; then a key that is no symbol 17.
unfoldable pub next_carry : ℕ → ℕ → Result ℕ Refusal
next_carry carry key =
    if not (is_carry carry) then Err (because NotThere 0)
    else if not (symbol key) then Err (because WrongSymbol 0)
    else Ok (step carry (value_of key))

-- the carry behind a number that passes: its check makes the sum "leave 1 modulo 36", and twice 1 is 2
abbrev pub carry_passed : ℕ
carry_passed = 2
