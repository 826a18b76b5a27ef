-- Proofs of the statements in specs/Wedge.
use Prim.Native.Nat.{ℕ}
use mathlib.Core.Path.{◌≡◌, refl, ap, ◌∙◌}
use Rattle.refusal.specs.Table.{because, number_told, place_told, verdict_on}
use Rattle.refusal.specs.declared.Reason.TheVariants.{NotThere}
use Rattle.check_characters.specs.Steps.{steps}
use Rattle.check_characters.specs.Wedge.{next_carry}
use Rattle.check_characters.proofs.Entries.{entry_step}
use Rattle.check_characters.proofs.Keying.{next_no_carry}
use Rattle.slips.proofs.Typing as typing
use Rattle.refused.proofs.Keys as keys
use Rattle.peliranopi.specs.Told.{value_told}
use Rattle.std.specs.Prelude.{Result, Ok, Err}
use Rattle.refusal.specs.declared.Refusal.{Refusal}
use Rattle.demands.specs.Wedge.{
  EachEntry,
  KeyExactly,
  TypedExactly,
  TypedRefusedExactly,
  CheckLeavesTwo,
  AcceptedLeavesTwo,
  OverlookedStaysRefused,
}

pub each_entry : EachEntry
unfolding steps
each_entry = (refl, entry_step)

pub key_exactly : KeyExactly
key_exactly = keys.key_exactly

pub typed_exactly : TypedExactly
typed_exactly = typing.typed_exactly

pub typed_refused_exactly : TypedRefusedExactly
typed_refused_exactly = typing.typed_refused_exactly

pub check_leaves_two : CheckLeavesTwo
check_leaves_two = typing.check_leaves_two

pub accepted_leaves_two : AcceptedLeavesTwo
accepted_leaves_two = typing.accepted_typed

-- what is told as the next carry behind a refusal is 0
none_told : (answer : Result ℕ Refusal) (number : ℕ) → number ≡ number_told (verdict_on answer) → (number ≡ 0 → ⊥) → value_told answer ≡ 0
none_told (Ok carry) number e n = absurd (n e)
none_told (Err refusal) number e n = refl

pub overlooked_stays_refused : OverlookedStaysRefused
overlooked_stays_refused start key number next place p n key₂ number₂ next₂ place₂ q =
    let none : next ≡ 0 = p.1 ∙ none_told (next_carry start key) number p.0.0 n in
    let refused : next_carry next key₂ ≡ Err (because NotThere 0) = ap (λ (c : ℕ). next_carry c key₂) none ∙ next_no_carry 0 key₂ refl in (
      q.0.0 ∙ ap (λ (a : Result ℕ Refusal). number_told (verdict_on a)) refused,
      q.1 ∙ ap value_told refused,
      q.0.1 ∙ ap (λ (a : Result ℕ Refusal). place_told (verdict_on a)) refused,
    )
