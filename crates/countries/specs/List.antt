-- Document 02, request 1: "a list the caller lends (pairs of capitals)".
use Rattle.std.specs.Prelude.{ℕ, ◌%◌, Bool, false, ◌||◌, List, [], ◌∷◌, eqb, length}
use Rattle.text.specs.Scan.{same}

-- else 20: "the list's length is odd"
unfoldable pub is_paired : List ℕ → Bool
is_paired countries = eqb (length countries % 2) 0

-- "a consignee country on a list": one of its pairs. They stand at even places, so that `XATX` does not name `AT`; a single byte at
-- the end names nothing.
abbrev pub is_listed : List ℕ → List ℕ → Bool
is_listed [] country = false
is_listed (a ∷ []) country = false
is_listed (a ∷ b ∷ more) country = same (a ∷ b ∷ []) country || is_listed more country
