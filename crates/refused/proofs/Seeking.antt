-- One field: it is refused exactly when its line is, or when the line has no such field.
use Prim.Native.Nat.{ℕ}
use mathlib.Core.Path.{◌≡◌, refl, sym, subst}
use mathlib.Core.Bool.{◌||◌}
use mathlib.Core.List.{List}
use mathlib.Core.Logic.{◌↔◌, ⊎_elim}
use native.Mathlib.Omega.{arith}
use lib.Dec.{ltb, eqb}
use borrow.Author.Tests.{eqb-true, ltb-true}
use Rattle.text.proofs.Choices.{choice, or_cases}
use Rattle.refusal.specs.Table.{because, verdict_on}
use Rattle.refusal.specs.declared.Refusal.{Refusal}
use Rattle.refusal.specs.declared.Reason.TheVariants.{NotThere}
use Rattle.refusal.proofs.Verdicts.{no_pass}
use Rattle.fields.specs.Profile.{Rules}
use Rattle.line.specs.Parts.{fields_of}
use Rattle.line.specs.Line.{text_at, line_answer, alone}
use Rattle.line.specs.Find.{in_line, field_answer}
use Rattle.grammar.proofs.Lines.{accepted_reads}
use Rattle.grammar.proofs.Finding.{field_not_there, field_refused}
use Rattle.refused.specs.Line.{RefusedFind}
use Rattle.refused.proofs.Lines.{answer_refused, refused_answer}
use Rattle.std.specs.Prelude.{Result, Ok, Err}
use Rattle.line.specs.declared.read.Line.{Line}
use Rattle.line.specs.declared.find.Span.{Span}

pub field_refused_exactly : (rules : Rules) (file : List ℕ) (offset n : ℕ) (refusal : Refusal) →
    (field_answer rules file offset n ≡ Err refusal) ↔ RefusedFind rules file offset n refusal
unfolding field_answer in_line
field_refused_exactly rules file offset n refusal = (λ e. forth (line_answer (alone rules) file offset) refl e, back refusal)
  where
    is : (other : Refusal) → RefusedFind rules file offset n other → ◌≡◌ {A = Result Span Refusal} (Err other) (Err refusal) →
        RefusedFind rules file offset n refusal
    is other g e = let same : other ≡ refusal = cc in subst (RefusedFind rules file offset n) same g

    forth : (a : Result Line Refusal) → line_answer (alone rules) file offset ≡ a → in_line a file offset n ≡ Err refusal →
        RefusedFind rules file offset n refusal
    forth (Err other) ea e = is other (RefusedFind.line_refused other (answer_refused (alone rules) file offset other ea)) e
    forth (Ok line) ea e =
        let g = accepted_reads (alone rules) file offset line ea in
        choice (eqb n 0 || ltb line.count n) (Err (because NotThere 0)) _ (Err refusal)
        (λ t q. is (because NotThere 0) (RefusedFind.no_such_field line (fields_of (text_at file offset)) g
        (λ h l. ⊎_elim (λ z. omega (arith, eqb-true n 0 z)) (λ z. omega (arith, ltb-true line.count n z, g.count))
        (or_cases (eqb n 0) (ltb line.count n) t))) q)
        (λ t q. absurd (no_pass verdict_on refl refl (sym q))) e

    back : (refusal : Refusal) → RefusedFind rules file offset n refusal → field_answer rules file offset n ≡ Err refusal
    back refusal (RefusedFind.line_refused other g) =
        field_refused rules file offset n other (refused_answer (alone rules) file offset other g)
    back refusal (RefusedFind.no_such_field line fs g h) = field_not_there g n h
