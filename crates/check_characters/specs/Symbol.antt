-- Document 01, 'Check characters': the symbols and their values.
use Rattle.std.specs.Prelude.{ℕ, ◌+◌, ◌-◌, ltb, if◌then◌else◌}
use Rattle.text.specs.Byte.{digit, capital}
use Rattle.text.specs.Quoted.{byte}

-- "Digits have values 0 to 9, A to Z 10 to 35." (Any other byte has the value 0: no sentence asks for it.)
unfoldable pub value_of : ℕ → ℕ
value_of b = if digit b then b - byte "0" else if capital b then b - byte "A" + 10 else 0

-- the symbol that has a value below 36
unfoldable pub symbol_of : ℕ → ℕ
symbol_of v = if ltb v 10 then byte "0" + v else byte "A" + (v - 10)
