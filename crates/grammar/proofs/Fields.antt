-- The test of one field and the walk over the fields of a line: they pass exactly what is allowed.
use Prim.Native.Nat.{ℕ, suc}
use mathlib.Core.Path.{◌≡◌, refl, sym}
use mathlib.Core.Bool.{true}
use mathlib.Core.List.{List, [], ◌∷◌}
use mathlib.Core.Logic.{⊎_elim}
use lib.ListN.{length}
use Rattle.text.specs.Scan.{all}
use Rattle.text.proofs.Choices.{and_left, and_right, and_both, true_or_false}
use Rattle.text.proofs.Numbers.{eq_or_ne}
use Rattle.fields.specs.Profile.{is_required, has_form, Row, width_of}
use Rattle.fields.specs.Field.{tested}
use Rattle.fields.proofs.Tests.{empty_good, form_good, good_passed}
use Rattle.line.specs.Render.{plain, all_in}
use Rattle.line.proofs.Passing.{Each}
use Rattle.grammar.specs.Grammar.{FieldOk, FieldsOk}
use Rattle.std.specs.Prelude.{Ok}

module _ (rows : List Row) (n : ℕ) (beside f : List ℕ) where
  pub good_field : all plain f ≡ true → tested rows n beside f ≡ Ok tt → FieldOk rows n beside f
  good_field p e =
      let g = good_passed rows n beside f e in
      record { clean = p; fits = g.fits; filled = g.filled; formed = g.formed }

  pub field_good : FieldOk rows n beside f → tested rows n beside f ≡ Ok tt
  field_good g =
      ⊎_elim
      (λ (z : length f ≡ 0). ⊎_elim (λ (r : is_required rows n ≡ true). absurd (g.filled r z))
      (λ r. sym (empty_good rows n beside f z (is_required rows n) refl r))
      (true_or_false (is_required rows n)))
      (λ z. sym (form_good rows n beside f (width_of rows n beside) refl g.fits z (has_form rows n beside f) refl (g.formed z)))
      (eq_or_ne (length f) 0)

module _ (rows : List Row) where
  pub each_fields : (n : ℕ) (beside : List ℕ) (fs : List (List ℕ)) → all_in plain fs ≡ true → Each (tested rows) n beside fs →
      FieldsOk rows n beside fs
  each_fields n beside [] p e = tt
  each_fields n beside (f ∷ fs) p e = (
    good_field rows n beside f (and_left (all plain f) (all_in plain fs) p) e.0,
    each_fields (suc n) f fs (and_right (all plain f) (all_in plain fs) p) e.1,
  )

  pub fields_each : (n : ℕ) (beside : List ℕ) (fs : List (List ℕ)) → FieldsOk rows n beside fs → Each (tested rows) n beside fs
  fields_each n beside [] g = tt
  fields_each n beside (f ∷ fs) g = (field_good rows n beside f g.0, fields_each (suc n) f fs g.1)

  -- the bytes of the fields
  pub fields_plain : (n : ℕ) (beside : List ℕ) (fs : List (List ℕ)) → FieldsOk rows n beside fs → all_in plain fs ≡ true
  fields_plain n beside [] g = refl
  fields_plain n beside (f ∷ fs) g = and_both (all plain f) (all_in plain fs) g.0.clean (fields_plain (suc n) f fs g.1)
