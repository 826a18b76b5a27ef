-- What the judge lists: a refused file no line, an accepted one as many as it counts, and no more than the list has words.
use Prim.Native.Nat.{ℕ, zero, suc, ◌+◌, ◌≤◌}
use mathlib.Core.Path.{◌≡◌, refl, sym, ap, ◌∙◌}
use mathlib.Core.Bool.{Bool, true, false, not}
use mathlib.Core.List.{List, [], ◌∷◌, ◌++◌}
use native.Mathlib.Omega.{arith}
use lib.Dec.{ltb}
use lib.ListN.{length, length-append}
use Rattle.std.specs.Prelude.{if◌then◌else◌, Result, Ok, Err}
use Rattle.refusal.specs.declared.Reason.TheVariants.{FileTooLong, FileEnds, CountriesOdd}
use Rattle.refusal.specs.Table.{because, verdict_on}
use Rattle.refusal.specs.declared.Refusal.{Refusal}
use Rattle.refusal.proofs.Verdicts.{no_pass}
use Rattle.countries.specs.List.{is_paired}
use Rattle.records.specs.Record.{may_end}
use Rattle.file.specs.Lent.{Lent}
use Rattle.file.specs.Version.{version_of}
use Rattle.file.specs.Step.{step_answer}
use Rattle.file.specs.File.{Judged, begin, passed, ended, on_step, file_from, judged}
use Rattle.file.specs.declared.step.State.{State}
use Rattle.file.specs.declared.whole.Totals.{Totals}
use Rattle.file.proofs.Lists.{word_left}
use Rattle.file.proofs.Stepping.{went}
use Rattle.line.specs.Line.{file_limit}

-- of a judgement with what is lent
record Listed (lent : Lent) (j : Judged) : Type 0 where
  counted : (totals : Totals) → j.answer ≡ Ok totals → length j.starts ≡ totals.lines
  fits : (totals : Totals) → j.answer ≡ Ok totals → totals.lines ≤ lent.words
  none : (refusal : Refusal) → j.answer ≡ Err refusal → j.starts ≡ []

module _ (lent : Lent) where
  refused : (refusal : Refusal) → Listed lent (record { answer = Err refusal; starts = [] })
  refused refusal = record {
    counted = λ t e. absurd (no_pass verdict_on refl refl e);
    fits = λ t e. absurd (no_pass verdict_on refl refl e);
    none = λ r e. refl;
  }

  accepted : (starts : List ℕ) (state : State) → length starts ≡ state.lines → state.lines ≤ lent.words → Listed lent (passed starts state)
  accepted starts state long room = record {
    counted = λ t e. let l : state.lines ≡ t.lines = cc in long ∙ l;
    fits = λ t e. let l : state.lines ≡ t.lines = cc in omega (arith, l, room);
    none = λ r e. absurd (no_pass verdict_on refl refl (sym e));
  }

  either : (t : Bool) (a b : Judged) → Listed lent a → Listed lent b → Listed lent (if t then a else b)
  either true a b p q = p
  either false a b p q = q

  at_end : (s starts : List ℕ) (state : State) → length starts ≡ state.lines → state.lines ≤ lent.words → Listed lent (ended s starts state)
  at_end s starts state long room =
      either (may_end state.due) (passed starts state) (record { answer = Err (because FileEnds (length s)); starts = [] })
      (accepted starts state long room) (refused (because FileEnds (length s)))

  from : (turns : ℕ) (s starts : List ℕ) (state : State) → length starts ≡ state.lines → state.lines ≤ lent.words →
      Listed lent (file_from turns s lent starts state)
  from zero s starts state long room = at_end s starts state long room
  from (suc turns) s starts state long room =
      either (ltb state.at (length s))
      (on_step (step_answer s lent starts state) (λ next. file_from turns s lent (starts ++ (state.at ∷ [])) next)) (ended s starts state)
      (go (step_answer s lent starts state) refl (λ next. from turns s (starts ++ (state.at ∷ [])) next)) (at_end s starts state long room)
    where
      go :
          (step : Result State Refusal) → step_answer s lent starts state ≡ step →
          ((next : State) → length (starts ++ (state.at ∷ [])) ≡ next.lines → next.lines ≤ lent.words →
          Listed lent (file_from turns s lent (starts ++ (state.at ∷ [])) next)) →
          Listed lent (on_step step (λ next. file_from turns s lent (starts ++ (state.at ∷ [])) next))
      go (Err refusal) e on = refused refusal
      go (Ok next) e on =
          let w = went s lent starts state next e in
          let n : state.lines + 1 ≡ next.lines = ap (λ (x : State). x.lines) w.there in
          on next (length-append starts (state.at ∷ []) ∙ omega (arith, long, n))
          (omega (arith, n, word_left lent.words state.lines w.room))

  whole : (s : List ℕ) → Listed lent (judged s lent)
  unfolding judged
  whole s =
      either (ltb file_limit (length s)) (record { answer = Err (because FileTooLong file_limit); starts = [] })
      (if not (is_paired lent.countries) then odd else file_from (length s + 1) s lent [] (begin (version_of s))) (refused (because FileTooLong file_limit))
      (either (not (is_paired lent.countries)) odd (file_from (length s + 1) s lent [] (begin (version_of s))) (refused (because CountriesOdd 0))
      (from (length s + 1) s [] (begin (version_of s)) refl (omega arith)))
    where
      odd : Judged
      odd = record { answer = Err (because CountriesOdd 0); starts = [] }

module _ (s : List ℕ) (lent : Lent) where
  pub none_listed : {refusal : Refusal} → (judged s lent).answer ≡ Err refusal → (judged s lent).starts ≡ []
  none_listed {refusal = refusal} e = (whole lent s).none refusal e

  module _ (totals : Totals) (e : (judged s lent).answer ≡ Ok totals) where
    pub lines_listed : length (judged s lent).starts ≡ totals.lines
    lines_listed = (whole lent s).counted totals e

    pub lines_fit : totals.lines ≤ lent.words
    lines_fit = (whole lent s).fits totals e
