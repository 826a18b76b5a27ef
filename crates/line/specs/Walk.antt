-- Document 01, 'Refusal numbers': "then the fields from left to right (6, 7, 8 for each)", each at its start.
use Rattle.std.specs.Prelude.{ℕ, suc, ◌+◌, List, [], ◌∷◌, length, ⊤, Result, Ok, Err}
use Rattle.refusal.specs.Table.{because}
use Rattle.fields.specs.Profile.{Row}
use Rattle.fields.specs.Field.{tested}
use Rattle.refusal.specs.declared.Refusal.{Refusal}
use Rattle.refusal.specs.declared.Reason.{Reason}

-- a bad field stops the walk at its place; a good one lets it go on
abbrev pub on_test : Result ⊤ Reason → ℕ → Result ⊤ Refusal → Result ⊤ Refusal
on_test (Ok _) place rest = rest
on_test (Err why) place rest = Err (because why place)

-- these fields by a test of each, the first with this number and at this place, the next so much further; beside a field stands the part
-- in front of it
abbrev pub walk_by : (ℕ → List ℕ → List ℕ → Result ⊤ Reason) → (ℕ → List ℕ → ℕ) → ℕ → ℕ → List ℕ → List (List ℕ) → Result ⊤ Refusal
walk_by test further n place beside [] = Ok tt
walk_by test further n place beside (f ∷ fs) = on_test (test n beside f) place (walk_by test further (suc n) (further place f) f fs)

-- in a file: a field starts behind the semicolon that ends the one in front of it
abbrev pub behind : ℕ → List ℕ → ℕ
behind place f = place + length f + 1

abbrev pub walk : List Row → ℕ → ℕ → List ℕ → List (List ℕ) → Result ⊤ Refusal
walk rows n place beside fs = walk_by (tested rows) behind n place beside fs
