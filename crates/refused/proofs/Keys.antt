-- The wedge is answered a carry, or refused, exactly when the carry and the key that it asks with say so.
use Prim.Native.Nat.{ℕ, ◌≤◌}
use mathlib.Core.Path.{◌≡◌, refl, sym, ap, subst, ◌∙◌}
use mathlib.Core.Bool.{true, false, not}
use mathlib.Core.Logic.{◌⊎◌, inl, inr, ◌↔◌, ⊎_elim}
use borrow.Author.Tests.{not-true, not-false}
use Rattle.refusal.specs.Table.{because, verdict_on}
use Rattle.refusal.specs.declared.Refusal.{Refusal}
use Rattle.refusal.specs.declared.Reason.TheVariants.{NotThere, WrongSymbol}
use Rattle.refusal.proofs.Verdicts.{no_pass}
use Rattle.text.specs.Byte.{symbol}
use Rattle.text.proofs.Choices.{choice, true_or_false, clash}
use Rattle.check_characters.specs.Symbol.{value_of}
use Rattle.check_characters.specs.Mod37.{step}
use Rattle.check_characters.specs.Wedge.{is_carry, next_carry}
use Rattle.check_characters.proofs.Keying.{carry_there, there_carry, next_no_carry, next_no_symbol, next_step}
use Rattle.slips.specs.Typed.{Leads}
use Rattle.refused.specs.Wedge.{RefusedKey}
use Rattle.std.specs.Prelude.{Result, Ok, Err}

module _ (carry key : ℕ) where
  range : is_carry carry ≡ true → (1 ≤ carry) × (carry ≤ 36)
  range e = let r = carry_there carry e in (r.low, r.high)

  module _ (refusal : Refusal) where
    is : (other : Refusal) → RefusedKey carry key other → ◌≡◌ {A = Result ℕ Refusal} (Err other) (Err refusal) → RefusedKey carry key refusal
    is other g e = let same : other ≡ refusal = cc in subst (RefusedKey carry key) same g

    key_refused : next_carry carry key ≡ Err refusal → RefusedKey carry key refusal
    unfolding next_carry
    key_refused e =
        choice (not (is_carry carry)) (Err (because NotThere 0)) _ (Err refusal)
        (λ t q. is (because NotThere 0)
        (RefusedKey.no_carry (λ low high. clash (there_carry carry (record { low = low; high = high })) (not-true (is_carry carry) t))) q)
        (λ t. let there = not-false (is_carry carry) t in
        choice (not (symbol key)) (Err (because WrongSymbol 0)) (Ok (step carry (value_of key))) (Err refusal)
        (λ u q. is (because WrongSymbol 0) (RefusedKey.no_symbol (range there).0 (range there).1 (not-true (symbol key) u)) q)
        (λ u q. absurd (no_pass verdict_on refl refl (sym q)))) e

  refused_key : (refusal : Refusal) → RefusedKey carry key refusal → next_carry carry key ≡ Err refusal
  refused_key refusal (RefusedKey.no_carry n) =
      ⊎_elim (λ (t : is_carry carry ≡ true). let r = range t in absurd (n r.0 r.1)) (λ (f : is_carry carry ≡ false). next_no_carry carry key f)
      (true_or_false (is_carry carry))
  refused_key refusal (RefusedKey.no_symbol low high e) = next_no_symbol carry key (record { low = low; high = high }) e

  pub key_refused_exactly : (refusal : Refusal) → (next_carry carry key ≡ Err refusal) ↔ RefusedKey carry key refusal
  key_refused_exactly refusal = (key_refused refusal, refused_key refusal)

  key_next : (next : ℕ) → next_carry carry key ≡ Ok next → Leads carry key next
  unfolding next_carry
  key_next next e =
      choice (not (is_carry carry)) (Err (because NotThere 0)) _ (Ok next) (λ t q. absurd (no_pass verdict_on refl refl q))
      (λ t. let r = carry_there carry (not-false (is_carry carry) t) in
      choice (not (symbol key)) (Err (because WrongSymbol 0)) (Ok (step carry (value_of key))) (Ok next)
      (λ u q. absurd (no_pass verdict_on refl refl q))
      (λ u q. let same : next ≡ step carry (value_of key) = cc in
      record { low = r.low; high = r.high; allowed = not-false (symbol key) u; stepped = same })) e

  next_key : (next : ℕ) → Leads carry key next → next_carry carry key ≡ Ok next
  next_key next g = next_step carry key (record { low = g.low; high = g.high }) g.allowed ∙ ap Ok (sym g.stepped)

  pub key_exactly : (next : ℕ) → (next_carry carry key ≡ Ok next) ↔ Leads carry key next
  key_exactly next = (key_next next, next_key next)

  pub key_always_one : ((next : ℕ) × Leads carry key next) ⊎ ((refusal : Refusal) × RefusedKey carry key refusal)
  key_always_one = go (next_carry carry key) refl
    where
      go : (a : Result ℕ Refusal) → next_carry carry key ≡ a → ((next : ℕ) × Leads carry key next) ⊎ ((refusal : Refusal) × RefusedKey carry key refusal)
      go (Ok next) e = inl (next, key_next next e)
      go (Err refusal) e = inr (refusal, key_refused refusal e)

  pub key_never_both : (next : ℕ) (refusal : Refusal) → Leads carry key next → RefusedKey carry key refusal → ⊥
  key_never_both next refusal g r = no_pass verdict_on refl refl (sym (refused_key refusal r) ∙ next_key next g)
