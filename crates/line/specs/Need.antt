-- Document 01, 'The file': "What a feature needs depends on its three-digit code alone: 006 and 022 need 3, 4, 5, 6, 7; 011 and 063
-- need 3 and 4; 054 needs 9 or 10; the rest need nothing."
use Rattle.std.specs.Prelude.{ℕ, Bool, true, not, ◌&&◌, ◌||◌, List, [], ◌∷◌, eqb, length, get_or, if◌then◌else◌}
use Rattle.text.specs.Scan.{all, among}
use Rattle.forms.specs.Feature.{code_of}
use Rattle.records.specs.Record.{◌is_a◌}
use Rattle.records.specs.declared.record.Record.{Record}
use Rattle.records.specs.declared.record.Record.TheVariants.{Feature}

-- "A field of spaces is filled; only zero bytes is empty." Part 0 is the record type, and the part with a field's number that field.
unfoldable pub is_filled : List (List ℕ) → ℕ → Bool
is_filled parts n = not (eqb (length (get_or parts n [])) 0)

-- the feature with this code has what it needs
unfoldable pub serves : ℕ → List (List ℕ) → Bool
serves code parts =
    -- "006 and 022 need 3, 4, 5, 6, 7"
    if among code (6 ∷ 22 ∷ []) then all (is_filled parts) (3 ∷ 4 ∷ 5 ∷ 6 ∷ 7 ∷ [])
    -- "011 and 063 need 3 and 4"
    else if among code (11 ∷ 63 ∷ []) then all (is_filled parts) (3 ∷ 4 ∷ [])
    -- "054 needs 9 or 10"
    else if eqb code 54 then is_filled parts 9 || is_filled parts 10
    -- "the rest need nothing"
    else true

unfoldable pub is_served : List (List ℕ) → Bool
is_served parts = serves (code_of (get_or parts 1 [])) parts

-- "feature lacks a needed field"
unfoldable pub lacks : Record → List (List ℕ) → Bool
lacks kind parts = kind is_a Feature && not (is_served parts)
