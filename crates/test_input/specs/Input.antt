-- The input of the test programs: the number that stands at a place.
use Rattle.std.specs.Prelude.{ℕ, ◌+◌, ◌-◌, ◌*◌, ◌%◌, min, List, [], ◌∷◌, length, drop, if◌then◌else◌}
use Rattle.text.specs.Byte.{digit}
use Rattle.text.specs.Scan.{first_failing}
use Rattle.test_input.specs.declared.Given.{Given}

-- the number that the digits at the front write behind digits that write a, modulo 1,000,000
abbrev pub value_from : ℕ → List ℕ → ℕ
value_from a [] = a
value_from a (b ∷ s) = if digit b then value_from ((10 * a + (b - 48)) % 1000000) s else a

-- the place behind the first byte from here on that is no digit, or the input's length
abbrev pub behind : List ℕ → ℕ → ℕ
behind s start = min (length s) (first_failing (λ _ b. digit b) start (drop start s) + 1)

-- the number that the digits from here on write, 0 where there are none, and where the input goes on
unfoldable pub given : List ℕ → ℕ → Given
given s start = record { value = value_from 0 (drop start s); next = behind s start }
