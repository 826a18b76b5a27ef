-- Whatever is asked for, it passes or it is refused, never both: a line, a field, a writing, a number, an IBAN.
use Rattle.refusal.specs.Table.{verdict_on}
use Prim.Native.Nat.{ℕ}
use mathlib.Core.Path.{◌≡◌, refl, sym, ◌∙◌}
use mathlib.Core.List.{List}
use mathlib.Core.Logic.{◌⊎◌, inl, inr}
use Rattle.refusal.specs.declared.Refusal.{Refusal}
use Rattle.refusal.proofs.Verdicts.{no_pass}
use Rattle.check_characters.specs.Number.{checked_number}
use Rattle.check_characters.specs.Iban.{checked_iban}
use Rattle.check_characters.specs.declared.number.Kind.{Kind}
use Rattle.slips.specs.Exactly.{SoundNumber, SoundIban}
use Rattle.slips.proofs.Numbers as numbers
use Rattle.slips.proofs.Ibans as ibans
use Rattle.fields.specs.Profile.{Rules}
use Rattle.line.specs.Told.{Told}
use Rattle.line.specs.Line.{line_answer}
use Rattle.line.specs.Find.{field_answer}
use Rattle.line.specs.declared.read.Line.{Line}
use Rattle.writer.specs.Write.{answer_under}
use Rattle.grammar.specs.Grammar.{Reads, StandsInLine}
use Rattle.grammar.specs.Written.{Writable}
use Rattle.grammar.proofs.Lines.{line_exactly}
use Rattle.grammar.proofs.Finding.{found_exactly}
use Rattle.grammar.proofs.Back.{written_exactly}
use Rattle.refused.specs.Line.{RefusedAt, RefusedFind}
use Rattle.refused.specs.Write.{RefusedWrite}
use Rattle.refused.specs.Number.{RefusedNumber, RefusedIban}
use Rattle.refused.proofs.Lines.{line_refused_exactly}
use Rattle.refused.proofs.Seeking.{field_refused_exactly}
use Rattle.refused.proofs.Writing.{answer_write, write_answer_lem}
use Rattle.refused.proofs.Numbers.{number_refused_exactly, iban_refused_exactly}
use Rattle.std.specs.Prelude.{⊤, Result, Ok, Err}
use Rattle.line.specs.declared.find.Span.{Span}

module _ (told : Told) (s : List ℕ) (at : ℕ) where
  abbrev Allowed : Type 0
  Allowed = (line : Line) × ((fs : List (List ℕ)) × Reads told s at line fs)

  pub line_always_one : Allowed ⊎ ((refusal : Refusal) × RefusedAt told s at refusal)
  line_always_one = go (line_answer told s at) refl
    where
      go : (a : Result Line Refusal) → line_answer told s at ≡ a → Allowed ⊎ ((refusal : Refusal) × RefusedAt told s at refusal)
      go (Ok line) e = inl (line, (line_exactly told s at line).0 e)
      go (Err refusal) e = inr (refusal, (line_refused_exactly told s at refusal).0 e)

  pub line_never_both : (refusal : Refusal) → Allowed → RefusedAt told s at refusal → ⊥
  line_never_both refusal g r =
      no_pass verdict_on refl refl (sym ((line_refused_exactly told s at refusal).1 r) ∙ (line_exactly told s at g.0).1 g.1)

module _ (rules : Rules) (s : List ℕ) (at n : ℕ) where
  abbrev IsThere : ℕ → ℕ → Type 0
  IsThere start long = StandsInLine rules s at n start long

  pub field_always_one : ((start : ℕ) × ((long : ℕ) × IsThere start long)) ⊎ ((refusal : Refusal) × RefusedFind rules s at n refusal)
  field_always_one = go (field_answer rules s at n) refl
    where
      go : (a : Result Span Refusal) → field_answer rules s at n ≡ a →
          ((start : ℕ) × ((long : ℕ) × IsThere start long)) ⊎ ((refusal : Refusal) × RefusedFind rules s at n refusal)
      go (Ok span) e = inl (span.start, (span.long, (found_exactly rules s at n span.start span.long).0 e))
      go (Err refusal) e = inr (refusal, (field_refused_exactly rules s at n refusal).0 e)

  pub field_never_both : (start long : ℕ) (refusal : Refusal) → IsThere start long → RefusedFind rules s at n refusal → ⊥
  field_never_both start long refusal g r =
      no_pass verdict_on refl refl (sym ((field_refused_exactly rules s at n refusal).1 r) ∙ (found_exactly rules s at n start long).1 g)

module _ (rules : Rules) (number : ℕ) (text ends : List ℕ) (size fill : ℕ) where
  pub write_always_one : ((n : ℕ) × Writable rules number text ends size fill n) ⊎ ((refusal : Refusal) × RefusedWrite rules number text ends size fill refusal)
  write_always_one = go (answer_under rules number text ends size fill) refl
    where
      go : (a : Result ℕ Refusal) → answer_under rules number text ends size fill ≡ a →
          ((n : ℕ) × Writable rules number text ends size fill n) ⊎ ((refusal : Refusal) × RefusedWrite rules number text ends size fill refusal)
      go (Ok n) e = inl (n, (written_exactly rules number text ends size fill n).0 e)
      go (Err refusal) e = inr (refusal, answer_write rules number text ends size fill refusal e)

  pub write_never_both : (n : ℕ) (refusal : Refusal) → Writable rules number text ends size fill n → RefusedWrite rules number text ends size fill refusal → ⊥
  write_never_both n refusal g r =
      no_pass verdict_on refl refl (sym (write_answer_lem rules number text ends size fill refusal r) ∙ (written_exactly rules number text ends size fill n).1 g)

module _ (s : List ℕ) where
  pub number_always_one : ((kind : Kind) × SoundNumber kind s) ⊎ ((refusal : Refusal) × RefusedNumber s refusal)
  number_always_one = go (checked_number s) refl
    where
      go : (a : Result Kind Refusal) → checked_number s ≡ a → ((kind : Kind) × SoundNumber kind s) ⊎ ((refusal : Refusal) × RefusedNumber s refusal)
      go (Ok kind) e = inl (kind, numbers.accepted_sound kind s e)
      go (Err refusal) e = inr (refusal, (number_refused_exactly s refusal).0 e)

  pub number_never_both : (kind : Kind) (refusal : Refusal) → SoundNumber kind s → RefusedNumber s refusal → ⊥
  number_never_both kind refusal g r =
      no_pass verdict_on refl refl (sym ((number_refused_exactly s refusal).1 r) ∙ numbers.sound_accepted kind s g)

  pub iban_always_one : SoundIban s ⊎ ((refusal : Refusal) × RefusedIban s refusal)
  iban_always_one = go (checked_iban s) refl
    where
      go : (a : Result ⊤ Refusal) → checked_iban s ≡ a → SoundIban s ⊎ ((refusal : Refusal) × RefusedIban s refusal)
      go (Ok _) e = inl (ibans.accepted_sound s e)
      go (Err refusal) e = inr (refusal, (iban_refused_exactly s refusal).0 e)

  pub iban_never_both : (refusal : Refusal) → SoundIban s → RefusedIban s refusal → ⊥
  iban_never_both refusal g r = no_pass verdict_on refl refl (sym ((iban_refused_exactly s refusal).1 r) ∙ ibans.sound_accepted s g)
