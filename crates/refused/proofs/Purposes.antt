-- The purpose is refused exactly when the file is, when it has no such 006 line, or when the output is too short.
use Prim.Native.Nat.{ℕ, ◌≤◌}
use mathlib.Core.Path.{◌≡◌, refl, sym, ap, subst, ◌∙◌}
use mathlib.Core.List.{List}
use mathlib.Core.Logic.{◌⊎◌, inl, inr, ◌↔◌, ⊎_elim}
use native.Mathlib.Omega.{arith}
use lib.Dec.{leb, ltb}
use lib.ListN.{length, get_or, replicate}
use borrow.Author.Tests.{leb-false, ltb-true, lt-ltb}
use Rattle.text.proofs.Choices.{choice}
use Rattle.refusal.specs.Table.{because, verdict_on}
use Rattle.refusal.specs.declared.Refusal.{Refusal}
use Rattle.refusal.specs.declared.Reason.TheVariants.{NotThere, OutputTooShort}
use Rattle.refusal.proofs.Verdicts.{no_pass}
use Rattle.file.specs.Lent.{Lent}
use Rattle.file.specs.File.{Judged, judged}
use Rattle.purpose.specs.Source.{is_cash_line, for_feature, source_of}
use Rattle.purpose.specs.Purpose.{purpose_long, on_source, on_file, purpose_answer, Purposes}
use Rattle.purpose.specs.declared.source.Source.{Source}
use Rattle.allowed.specs.Allowed.{FileLine, AllowedFile, line_starts}
use Rattle.allowed.specs.Sentence.{LineNo, CashLine}
use Rattle.allowed.proofs.Files.{accepted_allowed, starts_count}
use Rattle.allowed.proofs.Placed.{line_there}
use Rattle.allowed.proofs.Paying.{cash_told, cash_source}
use Rattle.allowed.proofs.Naming.{whole}
use Rattle.refused.specs.Purpose.{RefusedPurpose}
use Rattle.refused.proofs.Refusing.{judged_refused}
use Rattle.refused.proofs.Reaching.{refused_judged}
use Rattle.std.specs.Prelude.{Option, Some, None, Result, Ok, Err}
use Rattle.file.specs.declared.whole.Totals.{Totals}

-- the line with a number is a 006 line, or there is no source
source_cash : {countries : List ℕ} (s : List ℕ) (ls : List FileLine) (g : AllowedFile countries s ls) (n : ℕ) (x : Option Source) →
    source_of s (line_starts 0 ls) n ≡ x → (x ≡ None) ⊎ ((l : FileLine) × LineNo ls n l × CashLine l)
unfolding source_of
source_cash s ls g n x e =
    choice (leb (length (line_starts 0 ls)) n) None _ x (λ t q. inl (sym q))
    (λ t. choice (is_cash_line s (get_or (line_starts 0 ls) n 0)) (Some (for_feature s (line_starts 0 ls) n)) None x
    (λ u q. let k = line_there ls n (omega (arith, leb-false (length (line_starts 0 ls)) n t, starts_count 0 ls)) in
    inr (k.0, k.1, cash_told s ls g n k.0 k.1 u)) (λ u q. inl (sym q))) e

apart : {A : Type 0} {x : Source} → Some x ≡ None → A
apart e = let z : ◌≡◌ {A = ℕ} 0 1 = cc in absurd (omega arith)

said : Result Totals Refusal → List ℕ → Judged
said answer starts = record { answer = answer; starts = starts }

module _ (s : List ℕ) (n : ℕ) (lent : Lent) (room : ℕ) where
  answer_of : (ls : List FileLine) → AllowedFile lent.countries s ls → length ls ≤ lent.words →
      purpose_answer s n lent room ≡ on_source (source_of s (line_starts 0 ls) n) s room
  unfolding on_file
  answer_of ls g few = ap (λ (j : Judged). on_file j.answer (source_of s j.starts n) s room) (whole s lent ls g few)

  purpose_answer_lem : (refusal : Refusal) → RefusedPurpose s n lent room refusal → purpose_answer s n lent room ≡ Err refusal
  unfolding on_file on_source
  purpose_answer_lem refusal (RefusedPurpose.file_refused other g) = rw (refused_judged s lent other g)
  purpose_answer_lem refusal (RefusedPurpose.not_there ls g few none) =
      answer_of ls g few
      ∙ ⊎_elim (λ e. ap (λ (x : Option Source). on_source x s room) e) (λ k. absurd (none k.0 k.1 k.2))
      (source_cash s ls g n (source_of s (line_starts 0 ls) n) refl)
  purpose_answer_lem refusal (RefusedPurpose.too_short ls l g few h c short) =
      answer_of ls g few ∙ ap (λ (x : Option Source). on_source x s room) (cash_source s ls g n l h c) ∙ rw (lt-ltb room purpose_long short)

  module _ (refusal : Refusal) where
    is : (other : Refusal) → RefusedPurpose s n lent room other → ◌≡◌ {A = Result ℕ Refusal} (Err other) (Err refusal) → RefusedPurpose s n lent room refusal
    is other g e = let same : other ≡ refusal = cc in subst (RefusedPurpose s n lent room) same g

    answer_purpose : purpose_answer s n lent room ≡ Err refusal → RefusedPurpose s n lent room refusal
    unfolding said on_file on_source
    answer_purpose e = go (judged s lent).answer refl e
      where
        on : (ls : List FileLine) → AllowedFile lent.countries s ls → length ls ≤ lent.words → (x : Option Source) → source_of s (line_starts 0 ls) n ≡ x →
            on_source x s room ≡ Err refusal → RefusedPurpose s n lent room refusal
        on ls g few None ex q =
            is (because NotThere 0) (RefusedPurpose.not_there ls g few (λ l h c. apart (sym (cash_source s ls g n l h c) ∙ ex))) q
        on ls g few (Some source) ex q =
            choice (ltb room purpose_long) (Err (because OutputTooShort 0)) _ (Err refusal)
            (λ t r. ⊎_elim (λ z. apart z)
            (λ k. is (because OutputTooShort 0) (RefusedPurpose.too_short ls k.0 g few k.1 k.2 (ltb-true room purpose_long t)) r)
            (source_cash s ls g n (Some source) ex))
            (λ t r. absurd (no_pass verdict_on refl refl (sym r))) q

        go : (a : Result Totals Refusal) → (judged s lent).answer ≡ a → on_file a (source_of s (judged s lent).starts n) s room ≡ Err refusal →
            RefusedPurpose s n lent room refusal
        go (Err other) ea q = is other (RefusedPurpose.file_refused other (judged_refused s lent other ea)) q
        go (Ok totals) ea q =
            let r = accepted_allowed s lent totals (judged s lent).starts (ap (λ (a : Result Totals Refusal). said a (judged s lent).starts) ea) in
            on r.lines r.allowed r.room (source_of s (line_starts 0 r.lines) n) refl
            (ap (λ (x : List ℕ). on_source (source_of s x n) s room) (sym r.list) ∙ q)

-- the purpose is refused, by this number and at this place, exactly then; list and output are then as the paper has them
pub purpose_refused_exactly : (s : List ℕ) (n : ℕ) (lent : Lent) (output : List ℕ) (refusal : Refusal) (list after : List ℕ) →
    Purposes s n lent output (Err refusal) list after ↔
    (RefusedPurpose s n lent (length output) refusal × (list ≡ replicate lent.words 0) × (after ≡ output))
purpose_refused_exactly s n lent output refusal list after = (
  λ p. (answer_purpose s n lent (length output) refusal (sym p.0), p.1, p.2),
  λ g. (sym (purpose_answer_lem s n lent (length output) refusal g.0), g.1, g.2),
)
