-- Tests of a run's bytes: the first that fails one, whether all pass, how many do, where a line ends, and two runs byte for byte.
use Rattle.std.specs.Prelude.{ℕ, suc, ◌+◌, min, Bool, true, false, not, ◌&&◌, List, [], ◌∷◌, eqb, length, drop, if◌then◌else◌}
use Rattle.std.specs.List.{list_all, list_any}

-- the place of the first byte that fails a test of its place and itself, where the first of these bytes stands at the place i;
-- the place past the last where none fails
abbrev pub first_failing : (ℕ → ℕ → Bool) → ℕ → List ℕ → ℕ
first_failing ok i [] = i
first_failing ok i (b ∷ s) = if ok i b then first_failing ok (suc i) s else i

-- any byte but a line feed
abbrev pub in_line : ℕ → Bool
in_line b = not (eqb b 10)

-- the first line feed from a place on, or the run's length
abbrev pub line_feed : List ℕ → ℕ → ℕ
line_feed s start = min (length s) (first_failing (λ _ b. in_line b) start (drop start s))

-- every byte passes the test
abbrev pub all : (ℕ → Bool) → List ℕ → Bool
all = list_all

-- how many bytes pass the test
abbrev pub count : (ℕ → Bool) → List ℕ → ℕ
count ok [] = 0
count ok (b ∷ s) = (if ok b then 1 else 0) + count ok s

-- a is one of these
abbrev pub among : ℕ → List ℕ → Bool
among a = list_any (eqb a)

-- two runs of one length, whose bytes at each place pass the test together
abbrev pub paired : (ℕ → ℕ → Bool) → List ℕ → List ℕ → Bool
paired ok [] [] = true
paired ok [] (b ∷ t) = false
paired ok (a ∷ s) [] = false
paired ok (a ∷ s) (b ∷ t) = ok a b && paired ok s t

-- two runs are equal, byte for byte
abbrev pub same : List ℕ → List ℕ → Bool
same s t = paired eqb s t
