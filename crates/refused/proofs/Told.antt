-- A line call that is told a version: refused exactly as under it, or by 22; it passes or is refused, never both.
use Prim.Native.Nat.{ℕ}
use mathlib.Core.Path.{◌≡◌, refl, sym, subst, ◌∙◌}
use mathlib.Core.Logic.{◌⊎◌, inl, inr, ◌↔◌}
use native.Mathlib.Omega.{arith}
use Rattle.refusal.specs.Table.{because}
use Rattle.refusal.specs.declared.Refusal.{Refusal}
use Rattle.refusal.specs.declared.Reason.TheVariants.{UnknownVersion}
use Rattle.records.specs.Version.{version_numbered, under_version, UnderVersion}
use Rattle.records.specs.declared.version.Version.{Version}
use Rattle.records.proofs.Versions.{under_is, under_passes}
use Rattle.refused.specs.Line.{RefusedTold}
use Rattle.std.specs.Prelude.{Option, Some, None}

pub same_version : {v w : Version} → Some v ≡ Some w → v ≡ w
same_version e = cc

pub no_version : {v : Version} → ◌≡◌ {A = Option Version} None (Some v) → ⊥
no_version e = let z : ◌≡◌ {A = ℕ} 0 1 = cc in omega arith

-- a call passes exactly where it does under the version that it is told
pub told_exactly : {A : Type 0} (told : ℕ) (refused : Refusal → A) (answer : Version → A) (a : A) → (refused (because UnknownVersion 0) ≡ a → ⊥) →
    (holds : Version → Type 0) → ((version : Version) → (answer version ≡ a) ↔ holds version) →
    (under_version (version_numbered told) refused answer ≡ a) ↔ UnderVersion told holds
told_exactly told refused answer a never holds exactly = (
  λ e. let u = under_passes told refused answer a never e in (u.0, (u.1.0, (exactly u.0).0 u.1.1)),
  λ u. under_is told refused answer u.0 u.1.0 ∙ (exactly u.0).1 u.1.1,
)

module _ (told : ℕ) (under : Version → Refusal → Type 0) where
  module _ {A : Type 0} (refused : Refusal → A) (answer : Version → A) (inject : (a b : Refusal) → refused a ≡ refused b → a ≡ b)
      (exactly : (version : Version) (refusal : Refusal) → (answer version ≡ refused refusal) ↔ under version refusal) where
    answered : (refusal : Refusal) (t : Option Version) → version_numbered told ≡ t → under_version t refused answer ≡ refused refusal →
        RefusedTold told under refusal
    answered refusal None et e =
        subst (RefusedTold told under) (inject (because UnknownVersion 0) refusal e) (RefusedTold.unknown_version et)
    answered refusal (Some version) et e = RefusedTold.told_under_version version refusal et ((exactly version refusal).0 e)

    given : (refusal : Refusal) → RefusedTold told under refusal → under_version (version_numbered told) refused answer ≡ refused refusal
    given refusal (RefusedTold.unknown_version et) = rw et
    given refusal (RefusedTold.told_under_version version other et g) = rw et ((exactly version refusal).1 g)

    pub told_refused_exactly : (refusal : Refusal) →
        (under_version (version_numbered told) refused answer ≡ refused refusal) ↔ RefusedTold told under refusal
    told_refused_exactly refusal = (answered refusal (version_numbered told) refl, given refusal)

  module _ (passes : Version → Type 0) where
    pub told_always_one : ((version : Version) → passes version ⊎ ((refusal : Refusal) × under version refusal)) →
        UnderVersion told passes ⊎ ((refusal : Refusal) × RefusedTold told under refusal)
    told_always_one either = go (version_numbered told) refl
      where
        one : (version : Version) → version_numbered told ≡ Some version → passes version ⊎ ((refusal : Refusal) × under version refusal) →
            UnderVersion told passes ⊎ ((refusal : Refusal) × RefusedTold told under refusal)
        one version et (inl p) = inl (version, (et, p))
        one version et (inr r) = inr (r.0, RefusedTold.told_under_version version r.0 et r.1)

        go : (t : Option Version) → version_numbered told ≡ t → UnderVersion told passes ⊎ ((refusal : Refusal) × RefusedTold told under refusal)
        go None et = inr (because UnknownVersion 0, RefusedTold.unknown_version et)
        go (Some version) et = one version et (either version)

    pub told_never_both : ((version : Version) (refusal : Refusal) → passes version → under version refusal → ⊥) → (refusal : Refusal) →
        UnderVersion told passes → RefusedTold told under refusal → ⊥
    told_never_both never refusal p (RefusedTold.unknown_version et) = no_version (sym et ∙ p.1.0)
    told_never_both never refusal p (RefusedTold.told_under_version version other et g) =
        never version refusal (subst passes (same_version (sym p.1.0 ∙ et)) p.1.1) g
