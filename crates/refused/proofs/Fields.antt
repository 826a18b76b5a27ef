-- One field, and the fields of a line from left to right: they are refused exactly as the rows of the profile say.
use Prim.Native.Nat.{ℕ, ◌+◌, ◌≤◌, ◌<◌}
use mathlib.Core.Path.{◌≡◌, refl, sym, subst, ◌∙◌}
use mathlib.Core.List.{List, [], ◌∷◌}
use mathlib.Core.Logic.{⊎_elim}
use native.Mathlib.Omega.{arith}
use lib.ListN.{length, length-append}
use Rattle.text.proofs.Choices.{true_or_false}
use Rattle.text.proofs.Numbers.{le_or_lt, eq_or_ne}
use Rattle.refusal.specs.declared.Reason.{Reason}
use Rattle.refusal.specs.declared.Reason.TheVariants.{FieldTooLong, FieldEmpty, FieldForm}
use Rattle.fields.specs.Profile.{Row, width_of, is_required, has_form}
use Rattle.fields.specs.Field.{tested}
use Rattle.fields.proofs.Tests as tests
use Rattle.line.specs.Render.{joined}
use Rattle.line.specs.Walk.{behind}
use Rattle.refused.specs.Line.{RefusedField}
use Rattle.line.proofs.Stopping.{place_behind}
use Rattle.std.specs.Prelude.{Err, Result, ⊤}

pub bad_same : {why other : Reason} → ◌≡◌ {A = Result ⊤ Reason} (Err why) (Err other) → why ≡ other
bad_same e = cc

module _ (rows : List Row) (n : ℕ) (beside f : List ℕ) where
  pub bad_refused : (why : Reason) → tested rows n beside f ≡ Err why → RefusedField rows n beside f why
  bad_refused why e = ⊎_elim fits long (le_or_lt (length f) (width_of rows n beside))
    where
      told : (w : Reason) → Err w ≡ tested rows n beside f → RefusedField rows n beside f w → RefusedField rows n beside f why
      told w b g = subst (RefusedField rows n beside f) (bad_same (b ∙ e)) g

      long : width_of rows n beside < length f → RefusedField rows n beside f why
      long h = told FieldTooLong (tests.too_long rows n beside f (width_of rows n beside) refl h) (RefusedField.too_long h)

      none : length f ≡ 0 → RefusedField rows n beside f why
      none z =
          ⊎_elim
          (λ r. told FieldEmpty (tests.empty_bad rows n beside f z (is_required rows n) refl r) (RefusedField.empty z r))
          (λ r. absurd (tests.bad (sym (tests.empty_good rows n beside f z (is_required rows n) refl r ∙ e))))
          (true_or_false (is_required rows n))

      some : length f ≤ width_of rows n beside → (length f ≡ 0 → ⊥) → RefusedField rows n beside f why
      some h z =
          ⊎_elim
          (λ r. absurd (tests.bad (sym (tests.form_good rows n beside f (width_of rows n beside) refl h z (has_form rows n beside f) refl r ∙ e))))
          (λ r. told FieldForm (tests.form_bad rows n beside f (width_of rows n beside) refl h z (has_form rows n beside f) refl r)
          (RefusedField.formless h z r))
          (true_or_false (has_form rows n beside f))

      fits : length f ≤ width_of rows n beside → RefusedField rows n beside f why
      fits h = ⊎_elim none (some h) (eq_or_ne (length f) 0)

  pub refused_bad : (why : Reason) → RefusedField rows n beside f why → tested rows n beside f ≡ Err why
  refused_bad why (RefusedField.too_long h) = sym (tests.too_long rows n beside f (width_of rows n beside) refl h)
  refused_bad why (RefusedField.empty z r) = sym (tests.empty_bad rows n beside f z (is_required rows n) refl r)
  refused_bad why (RefusedField.formless h z r) =
      sym (tests.form_bad rows n beside f (width_of rows n beside) refl h z (has_form rows n beside f) refl r)

-- where a field starts, behind those in front of it and their semicolons
pub starts_behind : (rows : List Row) (place : ℕ) (front : List (List ℕ)) →
    place_behind (tested rows) behind place front ≡ place + length (joined front)
starts_behind rows place [] = omega arith
starts_behind rows place (f ∷ front) = omega (arith, starts_behind rows (behind place f) front, length-append f (joined front))
