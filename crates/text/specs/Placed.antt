-- A run of bytes written into an output; every other byte of the output stays.
use Rattle.std.specs.Prelude.{ℕ, ◌+◌, List, ◌++◌, leb, length, take, drop, if◌then◌else◌}

-- the bytes of src stand in out from the place at on
abbrev pub written : List ℕ → ℕ → List ℕ → List ℕ
written out at src = take at out ++ src ++ drop (at + length src) out

-- src is written where it fits, and nothing where it does not
unfoldable pub placed : List ℕ → ℕ → List ℕ → List ℕ
placed out at src = if leb (at + length src) (length out) then written out at src else out
