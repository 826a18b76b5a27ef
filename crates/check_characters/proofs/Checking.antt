-- What checking a DPD number answers, by cases.
use Prim.Native.Nat.{ℕ, ◌-◌}
use mathlib.Core.Path.{◌≡◌, sym, ◌∙◌}
use mathlib.Core.Bool.{true, false}
use mathlib.Core.List.{List}
use mathlib.Core.Logic.{⊎_elim}
use lib.ListN.{length}
use borrow.Author.Tests.{eq-eqb, ne_eqb, le-ltb}
use Rattle.refusal.specs.declared.Reason.TheVariants.{WrongLength, WrongCheck}
use Rattle.refusal.specs.Table.{because}
use Rattle.refusal.specs.declared.Refusal.{Refusal}
use Rattle.text.proofs.Choices.{true_or_false}
use Rattle.check_characters.specs.Mod37.{carry, passes}
use Rattle.check_characters.specs.Answer.{walked}
use Rattle.check_characters.specs.Number.{length_of, allowed_in_number, wrong_in_number, checked_as, checked_number}
use Rattle.check_characters.specs.declared.number.Kind.{Kind}
use Rattle.check_characters.specs.declared.number.Kind.TheVariants.{Tracking, Label}
use Rattle.check_characters.proofs.Carries.{passes_two, two_passes}
use Rattle.check_characters.proofs.Shapes.{has_last}
use Rattle.check_characters.proofs.Walks.{walked_refused, walked_whole}
use Rattle.std.specs.Prelude.{Ok, Err}

-- behind a walk over all of it
module _ (k : Kind) (s : List ℕ) where
  pub checked_refused : (r : Refusal) → walked (allowed_in_number k) s (carry s) ≡ Err r → checked_as k s ≡ Err r
  unfolding checked_as
  checked_refused r e = let a = walked_refused (allowed_in_number k) s (carry s) r e in rw (a.0, a.1)

  module _ (c : ℕ) (e : walked (allowed_in_number k) s (carry s) ≡ Ok c) (long : length s ≡ length_of k) where
    pub checked_passes : c ≡ 2 → checked_as k s ≡ Ok k
    unfolding checked_as
    checked_passes n =
        let (fine, ec) = walked_whole (allowed_in_number k) s (carry s) c e in
        let p : passes s ≡ true = two_passes s (has_last k (length s) long) (sym ec ∙ n) in
        simp (le-ltb (wrong_in_number k s) (length s), p)

    pub checked_fails : (c ≡ 2 → ⊥) → checked_as k s ≡ Err (because WrongCheck (length s - 1))
    unfolding checked_as
    checked_fails n =
        let (fine, ec) = walked_whole (allowed_in_number k) s (carry s) c e in
        let p : passes s ≡ false =
        ⊎_elim (λ (t : passes s ≡ true). absurd (n (ec ∙ passes_two s (has_last k (length s) long) t))) (λ f. f)
        (true_or_false (passes s)) in
        simp (le-ltb (wrong_in_number k s) (length s), p)

module _ (s : List ℕ) where
  pub checked_tracking : length s ≡ 15 → checked_number s ≡ checked_as Tracking s
  unfolding checked_number
  checked_tracking e = simp (eq-eqb (length s) 15)

  pub checked_label : (length s ≡ 15 → ⊥) → length s ≡ 28 → checked_number s ≡ checked_as Label s
  unfolding checked_number
  checked_label n e = simp (ne_eqb (length s) 15, eq-eqb (length s) 28)

  pub checked_length : (length s ≡ 15 → ⊥) → (length s ≡ 28 → ⊥) → checked_number s ≡ Err (because WrongLength 0)
  unfolding checked_number
  checked_length n m = simp (ne_eqb (length s) 15, ne_eqb (length s) 28)

pub ruleset checks = (checked_refused, checked_passes, checked_fails)
