-- The classes of a byte (document 01, 'The file').
use Rattle.std.specs.Prelude.{ℕ, Bool, ◌&&◌, ◌||◌, leb}
use Rattle.text.specs.Quoted.{byte, bytes}
use Rattle.text.specs.Scan.{among}
use Rattle.text.specs.declared.Class.{Class}
use Rattle.text.specs.declared.Class.TheVariants.{Digit, Capital, Symbol, Purpose}

-- 0 to 9
abbrev pub digit : ℕ → Bool
digit b = leb (byte "0") b && leb b (byte "9")

-- A to Z
abbrev pub capital : ℕ → Bool
capital b = leb (byte "A") b && leb b (byte "Z")

-- a to z
abbrev pub small : ℕ → Bool
small b = leb (byte "a") b && leb b (byte "z")

-- "capitals or digits"
abbrev pub symbol : ℕ → Bool
symbol b = digit b || capital b

-- "Text bytes are 32 to 126 and 160 to 255."
abbrev pub text_byte : ℕ → Bool
text_byte b = (leb 32 b && leb b 126) || (leb 160 b && leb b 255)

-- "a-z A-Z 0-9 . , : ' + - / ( ) ? and space"
abbrev pub purpose_byte : ℕ → Bool
purpose_byte b = small b || (symbol b || among b (bytes ".,:'+-/()? "))

-- the class that is named
abbrev pub in_class : Class → ℕ → Bool
in_class Digit = digit
in_class Capital = capital
in_class Symbol = symbol
in_class Purpose = purpose_byte
