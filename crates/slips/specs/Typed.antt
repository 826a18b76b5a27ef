-- Document 02, request 4: "The scanning wedge asks for the carry after each keystroke". What it is answered when a number is typed key by
-- key.
use Rattle.std.specs.Prelude.{ℕ, ◌≤◌, ◌≡◌, true, List, [], ◌∷◌, Result, Ok, Err}
use Rattle.text.specs.Byte.{symbol}
use Rattle.check_characters.specs.Symbol.{value_of}
use Rattle.check_characters.specs.Mod37.{step}
use Rattle.check_characters.specs.Wedge.{next_carry}
use Rattle.refusal.specs.declared.Refusal.{Refusal}

-- a key leads from a carry to the next one: the carry is one of 1 to 36, the key a symbol, and the next carry what the step makes of them
pub record Leads (carry key next : ℕ) : Type 0 where
  pub low : 1 ≤ carry
  pub high : carry ≤ 36
  pub allowed : symbol key ≡ true
  pub stepped : next ≡ step carry (value_of key)

-- each key is asked for with the carry of the answer in front of it; a refusal ends the typing
abbrev pub typed_on : Result ℕ Refusal → List ℕ → Result ℕ Refusal
typed_on answer [] = answer
typed_on (Ok carry) (key ∷ keys) = typed_on (next_carry carry key) keys
typed_on (Err refusal) (key ∷ keys) = Err refusal

-- "the carry starts at 36"
abbrev pub typed : List ℕ → Result ℕ Refusal
typed keys = typed_on (Ok 36) keys
