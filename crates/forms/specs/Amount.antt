-- Document 01, 'The file': "Amount: 1 to 6 digits, a point, two digits; no leading zero before another digit; at least 0.01."
--
-- In 12.50 the digits before the point are 12 and those behind it 50, and its cents are 100 * 12 + 50 = 1250. The least amount is 0.01
-- and the largest 999999.99. 0.00 has the digits and the point but no cent, and 01.00 has a leading zero (`example_amounts`, `example_none`).
use Rattle.std.specs.Prelude.{ℕ, ◌+◌, ◌-◌, ◌*◌, Bool, ◌&&◌, not, List, leb, eqb, length, take, drop, get_or}
use Rattle.text.specs.Decimal.{number}
use Rattle.text.specs.Quoted.{byte}
use Rattle.forms.specs.Shape.{all_digits, digits}

-- what stands before the point, and the two bytes behind it
abbrev pub whole : List ℕ → List ℕ
whole s = take (length s - 3) s

abbrev pub hundredths : List ℕ → List ℕ
hundredths s = drop (length s - 2) s

-- the amount in cents
unfoldable pub cents : List ℕ → ℕ
cents s = 100 * number (whole s) + number (hundredths s)

-- "1 to 6 digits, a point, two digits"
unfoldable pub pointed : List ℕ → Bool
pointed s =
    leb 1 (length (whole s)) &&
    (leb (length (whole s)) 6 && (all_digits (whole s) && (eqb (get_or s (length s - 3) 0) (byte ".") && digits 2 (hundredths s))))

-- "leading zero before another digit"
unfoldable pub leading_zero : List ℕ → Bool
leading_zero s = leb 2 (length (whole s)) && eqb (get_or s 0 0) (byte "0")

-- "at least 0.01"
unfoldable pub amount : List ℕ → Bool
amount s = pointed s && (not (leading_zero s) && leb 1 (cents s))
