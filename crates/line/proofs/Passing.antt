-- A walk over fields is fine exactly when each field passes its test, whatever the test.
use Prim.Native.Nat.{ℕ, suc, ◌*◌, ◌≤◌, zero-le}
use mathlib.Core.Path.{◌≡◌, refl}
use mathlib.Core.List.{List, [], ◌∷◌}
use native.Mathlib.Omega.{arith}
use lib.ListN.{length, length-append}
use Rattle.refusal.specs.declared.Refusal.{Refusal}
use Rattle.line.specs.Render.{joined}
use Rattle.line.specs.Walk.{on_test, walk_by}
use Rattle.std.specs.Prelude.{⊤, Result, Ok, Err}
use Rattle.refusal.specs.declared.Reason.{Reason}

stopped : {refusal : Refusal} → ◌≡◌ {A = Result ⊤ Refusal} (Err refusal) (Ok tt) → ⊥
stopped e = let z : ◌≡◌ {A = ℕ} 0 1 = cc in omega arith

on_fine : (t : Result ⊤ Reason) (place : ℕ) (rest : Result ⊤ Refusal) → on_test t place rest ≡ Ok tt → (t ≡ Ok tt) × (rest ≡ Ok tt)
on_fine (Ok _) place rest e = (refl, e)
on_fine (Err why) place rest e = absurd (stopped e)

module _ (test : ℕ → List ℕ → List ℕ → Result ⊤ Reason) where
  -- each of these fields, the first with this number, beside it the part in front of it
  abbrev pub Each : ℕ → List ℕ → List (List ℕ) → Type 0
  Each n beside [] = Unit {0}
  Each n beside (f ∷ fs) = (test n beside f ≡ Ok tt) × Each (suc n) f fs

  module _ (further : ℕ → List ℕ → ℕ) where
    pub fine_each : (n place : ℕ) (beside : List ℕ) (fs : List (List ℕ)) → walk_by test further n place beside fs ≡ Ok tt → Each n beside fs
    fine_each n place beside [] e = tt
    fine_each n place beside (f ∷ fs) e =
        let a = on_fine (test n beside f) place (walk_by test further (suc n) (further place f) f fs) e in
        (a.0, fine_each (suc n) (further place f) f fs a.1)

    pub each_fine : (n place : ℕ) (beside : List ℕ) (fs : List (List ℕ)) → Each n beside fs → walk_by test further n place beside fs ≡ Ok tt
    each_fine n place beside [] g = refl
    each_fine n place beside (f ∷ fs) g = rw g.0 (each_fine (suc n) (further place f) f fs g.1)

  -- where no field that passes is longer than 100 bytes, so many fields are not long either
  module _ (least : (n : ℕ) (beside f : List ℕ) → test n beside f ≡ Ok tt → length f ≤ 100) where
    pub each_le : (n : ℕ) (beside : List ℕ) (fs : List (List ℕ)) → Each n beside fs → length (joined fs) ≤ 101 * length fs
    each_le n beside [] g = zero-le
    each_le n beside (f ∷ fs) g = omega (arith, each_le (suc n) f fs g.1, least n beside f g.0, length-append f (joined fs))
