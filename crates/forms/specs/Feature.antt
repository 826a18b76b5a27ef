-- Document 01, 'The file': the feature codes.
use Rattle.std.specs.Prelude.{ℕ, Bool, ◌&&◌, List, [], ◌∷◌, if◌then◌else◌}
use Rattle.text.specs.Decimal.{number}
use Rattle.text.specs.Scan.{among}
use Rattle.forms.specs.Shape.{digits}

-- "Feature codes (002): 004 006 007 011 019 022 024 027 029 045 052 053 054 061 062 063 065 066 072 074 081 082 083 116 122
-- 123 142 143 186 187."
unfoldable pub feature_codes : List ℕ
feature_codes =
    4 ∷ 6 ∷ 7 ∷ 11 ∷ 19 ∷ 22 ∷ 24 ∷ 27 ∷ 29 ∷ 45 ∷ 52 ∷ 53 ∷ 54 ∷ 61 ∷ 62 ∷ 63 ∷ 65 ∷ 66 ∷ 72 ∷ 74 ∷ 81 ∷ 82 ∷ 83 ∷ 116 ∷ 122 ∷
    123 ∷ 142 ∷ 143 ∷ 186 ∷ 187 ∷ []

-- "width 3, a feature code"
unfoldable pub is_feature : List ℕ → Bool
is_feature s = digits 3 s && among (number s) feature_codes

-- the number of a feature code, 0 for anything else
unfoldable pub code_of : List ℕ → ℕ
code_of s = if is_feature s then number s else 0
