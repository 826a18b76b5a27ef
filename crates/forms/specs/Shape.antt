-- Document 01, 'The file': the forms that look at bytes one by one. Forms apply to filled fields.
use Rattle.std.specs.Prelude.{ℕ, ◌-◌, Bool, ◌&&◌, ◌||◌, not, List, eqb, length, take, get_or}
use Rattle.text.specs.Byte.{digit, capital, symbol, purpose_byte}
use Rattle.text.specs.Quoted.{byte, bytes}
use Rattle.text.specs.Scan.{all, count, same}

-- "Fields 1 and 2, if filled, are digits."
unfoldable pub all_digits : List ℕ → Bool
all_digits s = all digit s

-- "four digits", "ten digits"
unfoldable pub digits : ℕ → List ℕ → Bool
digits n s = eqb (length s) n && all_digits s

-- "two capitals", "three capitals"
unfoldable pub capitals : ℕ → List ℕ → Bool
capitals n s = eqb (length s) n && all capital s

-- "ten digits, the first two 00"
unfoldable pub customer : List ℕ → Bool
customer s = digits 10 s && same (take 2 s) (bytes "00")

-- "a BIC of 8 or 11 capitals or digits"
unfoldable pub bic : List ℕ → Bool
bic s = (eqb (length s) 8 || eqb (length s) 11) && all symbol s

-- the byte `@`
abbrev pub at_sign : ℕ → Bool
at_sign b = eqb b (byte "@")

-- "with exactly one `@`, neither first nor last"
unfoldable pub mail : List ℕ → Bool
mail s = eqb (count at_sign s) 1 && (not (at_sign (get_or s 0 0)) && not (at_sign (get_or s (length s - 1) 0)))

-- "hold only a-z A-Z 0-9 . , : ' + - / ( ) ? and space"
unfoldable pub purpose_text : List ℕ → Bool
purpose_text s = all purpose_byte s
