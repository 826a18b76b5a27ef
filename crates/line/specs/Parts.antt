-- Document 01, 'The file': "Semicolons divide fields; nothing quotes them. The first field is the record type. Fields are numbered
-- from 1 after it."
use Rattle.std.specs.Prelude.{ℕ, zero, suc, ◌+◌, ◌-◌, Bool, not, List, [], ◌∷◌, eqb, length, drop, get_or, if◌then◌else◌}
use Rattle.text.specs.Quoted.{byte}

abbrev pub semicolon : ℕ → Bool
semicolon b = eqb b (byte ";")

-- a byte in front of the first of these parts
abbrev pub into_first : ℕ → List (List ℕ) → List (List ℕ)
into_first b [] = (b ∷ []) ∷ []
into_first b (part ∷ parts) = (b ∷ part) ∷ parts

-- the parts of a line: the record type and the fields
abbrev pub split : List ℕ → List (List ℕ)
split [] = [] ∷ []
split (b ∷ line) = if semicolon b then [] ∷ split line else into_first b (split line)

-- the part with a number: the record type for 0, else the field with that number; no bytes where there is none
abbrev pub part_at : List ℕ → ℕ → List ℕ
part_at line n = get_or (split line) n []

abbrev pub name_of : List ℕ → List ℕ
name_of line = part_at line 0

abbrev pub fields_of : List ℕ → List (List ℕ)
fields_of line = drop 1 (split line)

-- the field with a number, "numbered from 1"
abbrev pub field_no : List (List ℕ) → ℕ → List ℕ
field_no fs n = get_or fs (n - 1) []

-- the part in front of a field: the last of the fields in front of it, or the record type
abbrev pub part_before : List ℕ → List (List ℕ) → List ℕ
part_before name [] = name
part_before name (f ∷ front) = part_before f front

-- where a part starts in its line
abbrev pub start_in : List (List ℕ) → ℕ → ℕ
start_in parts zero = 0
start_in [] (suc n) = 0
start_in (part ∷ parts) (suc n) = length part + 1 + start_in parts n

abbrev pub start_of : List ℕ → ℕ → ℕ
start_of line n = start_in (split line) n

-- a byte of a part
abbrev pub in_field : ℕ → Bool
in_field b = not (semicolon b)
