-- A line that is put together run by run, and then written at once.
use Rattle.std.specs.Prelude.{◌≡◌, ℕ, ◌+◌, ◌<◌, ◌≤◌, min, List, [], ◌∷◌, ◌++◌, length, take, codes}
use Rattle.std.specs.Fmt.{decimal}
use Rattle.text.specs.Placed.{placed}

-- A run stands behind the bytes that a line has, where the line has room for it, and so many bytes it then has; where it has no room, it
-- stays as it was.
pub record Adds (line : List ℕ) (fill : ℕ) (run : List ℕ) (count : ℕ) (after : List ℕ) : Type 0 where
  pub there : after ≡ placed line fill run
  pub whole : fill + length run ≤ length line → (count ≡ fill + length run) × (take count after ≡ take fill line ++ run)
  pub none : length line < fill + length run → (count ≡ min fill (length line)) × (after ≡ line)

-- Runs are added one behind the other, each so. Behind one that the line has no room for, a shorter one may still have some.
abbrev pub AddsAll : List ℕ → ℕ → List (List ℕ) → ℕ → List ℕ → Type 0
AddsAll line fill [] count after = (count ≡ fill) × (after ≡ line)
AddsAll line fill (run ∷ rest) count after =
    (next : ℕ) × (between : List ℕ) × Adds line fill run next between × AddsAll between next rest count after

-- the runs of numbers: a space and the digits of each, and the line feed
abbrev pub runs : List ℕ → List (List ℕ)
runs [] = (10 ∷ []) ∷ []
runs (n ∷ rest) = codes " " ∷ decimal n ∷ runs rest

-- numbers, each behind a space, and the line feed
abbrev pub numbers : List ℕ → List ℕ
numbers [] = 10 ∷ []
numbers (n ∷ rest) = codes " " ++ decimal n ++ numbers rest
