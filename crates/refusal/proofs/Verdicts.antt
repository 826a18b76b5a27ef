-- No answer both passes and is refused, whatever the kind of answer; and a byte holds the number of every refusal.
use Prim.Native.Nat.{ℕ, ◌≤◌}
use mathlib.Core.Path.{◌≡◌, sym, ap, ◌∙◌}
use mathlib.Core.Bool.{Bool, true, false}
use native.Mathlib.Omega.{arith}
use Rattle.refusal.specs.declared.Reason.{Reason}
use Rattle.refusal.specs.declared.Reason.TheVariants.{
  FileTooLong,
  NoLineEnd,
  UnknownRecord,
  OutOfOrder,
  FieldCount,
  FieldTooLong,
  FieldEmpty,
  FieldForm,
  FeatureLacks,
  IdentcodeRepeated,
  ListFull,
  FileEnds,
  OutputTooShort,
  FieldEnds,
  NotThere,
  WrongLength,
  WrongSymbol,
  WrongCheck,
  ContactMissing,
  CountriesOdd,
  UnknownVersion,
}
use Rattle.refusal.specs.Table.{Verdict, number_of}

abbrev pub refuses : Verdict → Bool
refuses Verdict.passes = false
refuses (Verdict.refused number place) = true

-- both tests compute where the cases of the answers are known: `no_pass verdict_on refl refl`
pub no_pass : {A : Type 0} (verdict : A → Verdict) {a b : A} → refuses (verdict a) ≡ true → refuses (verdict b) ≡ false → a ≡ b → ⊥
no_pass verdict r p e =
    let t : true ≡ false = sym r ∙ ap (λ (x : _). refuses (verdict x)) e ∙ p in
    let z : ◌≡◌ {A = ℕ} 0 1 = cc in omega arith

-- a byte holds every number
pub number_small : (why : Reason) → number_of why ≤ 22
number_small FileTooLong = omega arith
number_small NoLineEnd = omega arith
number_small UnknownRecord = omega arith
number_small OutOfOrder = omega arith
number_small FieldCount = omega arith
number_small FieldTooLong = omega arith
number_small FieldEmpty = omega arith
number_small FieldForm = omega arith
number_small FeatureLacks = omega arith
number_small IdentcodeRepeated = omega arith
number_small ListFull = omega arith
number_small FileEnds = omega arith
number_small OutputTooShort = omega arith
number_small FieldEnds = omega arith
number_small NotThere = omega arith
number_small WrongLength = omega arith
number_small WrongSymbol = omega arith
number_small WrongCheck = omega arith
number_small ContactMissing = omega arith
number_small CountriesOdd = omega arith
number_small UnknownVersion = omega arith
