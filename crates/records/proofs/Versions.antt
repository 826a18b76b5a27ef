-- The versions by cases.
use Prim.Native.Nat.{ℕ}
use mathlib.Core.Path.{◌≡◌, refl, ◌∙◌}
use borrow.Author.Tests.{ne_eqb}
use Rattle.refusal.specs.Table.{because}
use Rattle.refusal.specs.declared.Refusal.{Refusal}
use Rattle.refusal.specs.declared.Reason.TheVariants.{UnknownVersion}
use Rattle.records.specs.Version.{version_numbered, under_version, UnderVersion}
use Rattle.records.specs.declared.version.Version.{Version}
use Rattle.std.specs.Prelude.{Option, Some, None}

pub told_neither : (n : ℕ) → (n ≡ 5 → ⊥) → (n ≡ 7 → ⊥) → None ≡ version_numbered n
unfolding version_numbered
told_neither n h k = simp (ne_eqb n 5 h, ne_eqb n 7 k)

-- a call that is told a version, by the cases that the code meets
module _ {A : Type 0} (n : ℕ) (refused : Refusal → A) (answer : Version → A) (told : Option Version) (et : told ≡ version_numbered n) (r : A) where
  pub under_neither : told ≡ None → r ≡ refused (because UnknownVersion 0) → r ≡ under_version (version_numbered n) refused answer
  under_neither e f = f ∙ rw (← et, e)

  pub under_either : (version : Version) → told ≡ Some version → r ≡ answer version → r ≡ under_version (version_numbered n) refused answer
  under_either version e f = f ∙ rw (← et, e)

-- what its answer tells, and the other way round
module _ {A : Type 0} (n : ℕ) (refused : Refusal → A) (answer : Version → A) where
  pub under_is : (version : Version) → version_numbered n ≡ Some version → under_version (version_numbered n) refused answer ≡ answer version
  under_is version e = rw e

  pub under_passes : (a : A) → (refused (because UnknownVersion 0) ≡ a → ⊥) → under_version (version_numbered n) refused answer ≡ a →
      UnderVersion n (λ version. answer version ≡ a)
  under_passes a never e = go (version_numbered n) refl e
    where
      go : (told : Option Version) → version_numbered n ≡ told → under_version told refused answer ≡ a → UnderVersion n (λ version. answer version ≡ a)
      go None t q = absurd (never q)
      go (Some version) t q = (version, (t, q))
