-- A walk over fields stops exactly at the first field that does not pass its test, whatever the test.
use Prim.Native.Nat.{ℕ, suc, ◌+◌}
use mathlib.Core.Path.{◌≡◌, refl, ap}
use mathlib.Core.List.{List, [], ◌∷◌, ◌++◌}
use native.Mathlib.Nat.{add-zero, add-suc, suc-add}
use native.Mathlib.Omega.{arith}
use lib.ListN.{length}
use Rattle.refusal.specs.Table.{because}
use Rattle.refusal.specs.declared.Refusal.{Refusal}
use Rattle.refusal.specs.declared.Reason.{Reason}
use Rattle.line.specs.Parts.{part_before}
use Rattle.line.specs.Walk.{on_test, walk_by}
use Rattle.line.proofs.Passing.{Each}
use Rattle.std.specs.Prelude.{⊤, Result, Ok, Err}

fine_stopped : {A : Type 0} {refusal : Refusal} → ◌≡◌ {A = Result ⊤ Refusal} (Ok tt) (Err refusal) → A
fine_stopped e = let z : ◌≡◌ {A = ℕ} 0 1 = cc in absurd (omega arith)

stopped_by : {refusal other : Refusal} → ◌≡◌ {A = Result ⊤ Refusal} (Err refusal) (Err other) → other ≡ refusal
stopped_by e = cc

module _ (test : ℕ → List ℕ → List ℕ → Result ⊤ Reason) (further : ℕ → List ℕ → ℕ) where
  -- the place of the field behind these, the first of which is at this place
  abbrev pub place_behind : ℕ → List (List ℕ) → ℕ
  place_behind place [] = place
  place_behind place (f ∷ front) = place_behind (further place f) front

  -- the field with this number is the first that is bad
  pub record Stops (n place : ℕ) (beside : List ℕ) (fs : List (List ℕ)) (refusal : Refusal) : Type 0 where
    pub front : List (List ℕ)
    pub field : List ℕ
    pub more : List (List ℕ)
    pub parts : fs ≡ front ++ field ∷ more
    pub before : Each test n beside front
    pub why : Reason
    pub here : test (n + length front) (part_before beside front) field ≡ Err why
    pub is : refusal ≡ because why (place_behind place front)

  pub stopped_stops : (n place : ℕ) (beside : List ℕ) (fs : List (List ℕ)) (refusal : Refusal) →
      walk_by test further n place beside fs ≡ Err refusal → Stops n place beside fs refusal
  stopped_stops n place beside [] refusal e = fine_stopped e
  stopped_stops n place beside (f ∷ fs) refusal e =
      go (test n beside f) refl (λ q. stopped_stops (suc n) (further place f) f fs refusal q) e
    where
      go :
          (t : Result ⊤ Reason) → test n beside f ≡ t →
          (walk_by test further (suc n) (further place f) f fs ≡ Err refusal → Stops (suc n) (further place f) f fs refusal) →
          on_test t place (walk_by test further (suc n) (further place f) f fs) ≡ Err refusal → Stops n place beside (f ∷ fs) refusal
      go (Ok tt) t on q =
          let r = on q in
          record {
            front = f ∷ r.front;
            field = r.field;
            more = r.more;
            parts = ap (λ (l : List (List ℕ)). f ∷ l) r.parts;
            before = (t, r.before);
            why = r.why;
            here = rw (add-suc n (length r.front), ← suc-add n (length r.front)) r.here;
            is = r.is;
          }
      go (Err why) t on q =
          record {
            front = [];
            field = f;
            more = fs;
            parts = refl;
            before = tt;
            why = why;
            here = rw (add-zero n) t;
            is = stopped_by q;
          }

  pub stops_stopped : (n place : ℕ) (beside : List ℕ) (front : List (List ℕ)) (f : List ℕ) (more : List (List ℕ)) (why : Reason) →
      Each test n beside front → test (n + length front) (part_before beside front) f ≡ Err why →
      walk_by test further n place beside (front ++ f ∷ more) ≡ Err (because why (place_behind place front))
  stops_stopped n place beside [] f more why b h = rw (rw (add-zero n) at h)
  stops_stopped n place beside (g ∷ front) f more why b h =
      let h' : test (suc n + length front) (part_before g front) f ≡ Err why = rw (suc-add n (length front), ← add-suc n (length front)) h in
      rw b.0 (stops_stopped (suc n) (further place g) g front f more why b.1 h')
