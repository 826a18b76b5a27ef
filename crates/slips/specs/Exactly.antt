-- Demand 2: "DPD numbers and IBANs pass exactly by ISO 7064." What a sound number is, apart from any order of tests; and what a sound
-- identcode is (document 02, request 2).
use Rattle.std.specs.Prelude.{ℕ, ◌+◌, ◌-◌, ◌%◌, ◌≤◌, ◌<◌, ◌≡◌, Bool, true, false, List, [], ◌∷◌, ◌++◌, length, get_or, take, drop}
use Rattle.check_characters.specs.Mod37.{passes}
use Rattle.check_characters.specs.Number.{length_of, allowed_in_number}
use Rattle.check_characters.specs.Iban.{iban_number, check_digits, barred, allowed_in_iban}
use Rattle.check_digits.specs.Identcode.{allowed_in_identcode, check_digit_of}
use Rattle.check_digits.specs.declared.identcode.Part.{Part}
use Rattle.check_digits.specs.declared.identcode.Parts.{Parts}
use Rattle.check_characters.specs.declared.number.Kind.{Kind}

-- the symbol at a place, counted from 0
abbrev pub symbol_at : List ℕ → ℕ → ℕ
symbol_at s i = get_or s i 0

-- "where the shape still holds": each symbol is allowed where it stands
abbrev pub Shaped : (ℕ → ℕ → Bool) → List ℕ → Type 0
Shaped ok s = (i : ℕ) → i < length s → ok i (symbol_at s i) ≡ true

-- the body of a number: all but its check
abbrev pub body_of : List ℕ → List ℕ
body_of s = take (length s - 1) s

pub record SoundNumber (kind : Kind) (s : List ℕ) : Type 0 where
  pub long : length s ≡ length_of kind
  pub shaped : Shaped (allowed_in_number kind) s
  pub closed : passes s ≡ true

pub record SoundIban (s : List ℕ) : Type 0 where
  pub long : 15 ≤ length s
  pub short : length s ≤ 34
  pub shaped : Shaped allowed_in_iban s
  pub unbarred : barred (check_digits s) ≡ false
  pub one : iban_number s % 97 ≡ 1

-- 22 digits, the last of them the check digit of the others
pub record SoundIdentcode (s : List ℕ) : Type 0 where
  pub long : length s ≡ 22
  pub shaped : Shaped allowed_in_identcode s
  pub closed : symbol_at s 21 ≡ check_digit_of (body_of s)

-- the parts of a code, in their order
abbrev pub in_order : Parts → List Part
in_order parts =
    parts.origin ∷ parts.customer ∷ parts.sequence ∷ parts.product ∷ parts.destination ∷ parts.check ∷ []

-- one part stands behind the other from a place on, with these widths
abbrev pub Laid : ℕ → List Part → List ℕ → Type 0
Laid at [] [] = Unit {0}
Laid at [] (width ∷ widths) = ⊥
Laid at (part ∷ parts) [] = ⊥
Laid at (part ∷ parts) (width ∷ widths) = (part.start ≡ at) × (part.length ≡ width) × Laid (at + width) parts widths

-- document 000, section 4.2: the parts of a code are "2 - 5 - 8 - 2 - 4 - 1" digits
abbrev pub Divides : Parts → Type 0
Divides parts = Laid 0 (in_order parts) (2 ∷ 5 ∷ 8 ∷ 2 ∷ 4 ∷ 1 ∷ [])

-- "its parts, joined without the check"
abbrev pub without_check : Parts → List Part
without_check parts =
    parts.origin ∷ parts.customer ∷ parts.sequence ∷ parts.product ∷ parts.destination ∷ []

-- the digits of a part, and those of parts joined
abbrev pub digits_in : List ℕ → Part → List ℕ
digits_in code part = take part.length (drop part.start code)

abbrev pub digits_joined : List ℕ → List Part → List ℕ
digits_joined code [] = []
digits_joined code (part ∷ parts) = digits_in code part ++ digits_joined code parts
