-- Document 01, 'Check characters': what checking a number and issuing one answer, and what an issued one writes.
use Rattle.std.specs.Prelude.{ℕ, Bool, List, ◌∷◌, ◌++◌, ltb, length, drop, if◌then◌else◌, Result, Ok, Err}
use Rattle.text.specs.Scan.{first_failing}
use Rattle.refusal.specs.declared.Reason.TheVariants.{OutputTooShort, WrongSymbol}
use Rattle.refusal.specs.Table.{because}
use Rattle.refusal.specs.declared.Refusal.{Refusal}

-- 17 at the first symbol that may not stand at its place; where all may, what a walk over them has worked out
unfoldable pub walked : {A : Type 0} → (ℕ → ℕ → Bool) → List ℕ → A → Result A Refusal
walked allowed symbols worth =
    if ltb (first_failing allowed 0 symbols) (length symbols) then Err (because WrongSymbol (first_failing allowed 0 symbols)) else Ok worth

-- "then 13": a number of so many symbols is issued into an output of so many bytes
unfoldable pub room_for : ℕ → ℕ → Result ℕ Refusal
room_for whole room = if ltb room whole then Err (because OutputTooShort 0) else Ok whole

-- "it writes body and check at the output's start and nothing else, and a refusal writes nothing"
unfoldable pub issued_to : Result ℕ Refusal → List ℕ → ℕ → List ℕ → List ℕ
issued_to (Ok n) body check output = body ++ check ∷ drop n output
issued_to (Err refusal) body check output = output
