-- The one test of a field, by the cases that the code meets.
use Prim.Native.Nat.{ℕ, ◌≤◌, ◌<◌}
use mathlib.Core.Path.{◌≡◌}
use mathlib.Core.Bool.{Bool, true, false}
use mathlib.Core.List.{List}
use native.Mathlib.Omega.{arith}
use lib.Dec.{ltb, eqb}
use lib.ListN.{length}
use borrow.Author.Tests.{ltb-false, lt-ltb, le-ltb, eq-eqb, ne_eqb}
use Rattle.std.specs.Prelude.{if◌then◌else◌, Ok, Err, Result, ⊤}
use Rattle.text.proofs.Choices.{came_then, came_else}
use Rattle.refusal.specs.declared.Reason.{Reason}
use Rattle.refusal.specs.declared.Reason.TheVariants.{FieldTooLong, FieldEmpty, FieldForm}
use Rattle.fields.specs.Profile.{Row, width_of, is_required, has_form}
use Rattle.fields.specs.Field.{tested}

module _ (rows : List Row) (n : ℕ) (beside f : List ℕ) where
  module _ (empty : length f ≡ 0) (t : Bool) (et : t ≡ is_required rows n) where
    never_long : ltb (width_of rows n beside) (length f) ≡ false
    never_long = le-ltb (width_of rows n beside) (length f) (omega arith)

    pub empty_bad : t ≡ true → Err FieldEmpty ≡ tested rows n beside f
    unfolding tested
    empty_bad e = simp (never_long, eq-eqb (length f) 0, ← et, e)

    pub empty_good : t ≡ false → Ok tt ≡ tested rows n beside f
    unfolding tested
    empty_good e = simp (never_long, eq-eqb (length f) 0, ← et, e)

  module _ (w : ℕ) (ew : w ≡ width_of rows n beside) where
    pub too_long : w < length f → Err FieldTooLong ≡ tested rows n beside f
    unfolding tested
    too_long h = simp (← ew, lt-ltb w (length f))

    module _ (h : length f ≤ w) (filled : length f ≡ 0 → ⊥) (t : Bool) (et : t ≡ has_form rows n beside f) where
      pub form_good : t ≡ true → Ok tt ≡ tested rows n beside f
      unfolding tested
      form_good e = simp (← ew, le-ltb w (length f), ne_eqb (length f) 0, ← et, e)

      pub form_bad : t ≡ false → Err FieldForm ≡ tested rows n beside f
      unfolding tested
      form_bad e = simp (← ew, le-ltb w (length f), ne_eqb (length f) 0, ← et, e)

-- what a field that passes tells
pub bad : {why : Reason} → ◌≡◌ {A = Result ⊤ Reason} (Err why) (Ok tt) → ⊥
bad e = let z : ◌≡◌ {A = ℕ} 0 1 = cc in omega arith

pub record Passed (rows : List Row) (n : ℕ) (beside f : List ℕ) : Type 0 where
  pub fits : length f ≤ width_of rows n beside
  pub filled : is_required rows n ≡ true → length f ≡ 0 → ⊥
  pub formed : (length f ≡ 0 → ⊥) → has_form rows n beside f ≡ true

pub good_passed : (rows : List Row) (n : ℕ) (beside f : List ℕ) → tested rows n beside f ≡ Ok tt → Passed rows n beside f
unfolding tested
good_passed rows n beside f e =
    let empty = if is_required rows n then Err FieldEmpty else Ok tt in
    let form = if has_form rows n beside f then Ok tt else Err FieldForm in
    let a = came_else (ltb (width_of rows n beside) (length f)) (Err FieldTooLong) (if eqb (length f) 0 then empty else form) (Ok tt) bad e in
    record {
      fits = ltb-false (width_of rows n beside) (length f) a.0;
      filled = λ r z. bad (simp (eq-eqb (length f) 0 z, r) at a.1);
      formed = λ z. (came_then (has_form rows n beside f) (Ok tt) (Err FieldForm) (Ok tt) bad (simp (ne_eqb (length f) 0 z) at a.1)).0;
    }
