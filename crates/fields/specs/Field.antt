-- Document 01: the rule of one field, in the order of its refusals, "6, 7, 8 for each".
use Rattle.std.specs.Prelude.{ℕ, List, ltb, eqb, length, if◌then◌else◌, ⊤, Result, Ok, Err}
use Rattle.refusal.specs.declared.Reason.TheVariants.{FieldTooLong, FieldEmpty, FieldForm}
use Rattle.fields.specs.Profile.{Row, width_of, is_required, has_form}
use Rattle.refusal.specs.declared.Reason.{Reason}

-- "only zero bytes is empty"
unfoldable pub tested : List Row → ℕ → List ℕ → List ℕ → Result ⊤ Reason
tested rows n beside f =
    if ltb (width_of rows n beside) (length f) then Err FieldTooLong
    else if eqb (length f) 0 then (if is_required rows n then Err FieldEmpty else Ok tt)
    else if has_form rows n beside f then Ok tt
    else Err FieldForm
