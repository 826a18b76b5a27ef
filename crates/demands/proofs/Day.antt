-- Proofs of the statements in specs/Day.
use Prim.Native.Nat.{ℕ}
use mathlib.Core.Path.{◌≡◌, refl, sym, ap, ◌∙◌}
use mathlib.Core.List.{List, []}
use native.Mathlib.Omega.{arith}
use lib.ListN.{length, take}
use Rattle.refusal.specs.Table.{number_of, number_told, verdict_on}
use Rattle.refusal.specs.declared.Refusal.{Refusal}
use Rattle.check_characters.specs.Day.{day_answers, zeros, day_answer, answers_after, ChecksDay}
use Rattle.check_characters.proofs.Days.{day_answered}
use Rattle.refused.specs.Day.{RefusedDay}
use Rattle.refused.proofs.Days as days
use Rattle.peliranopi.specs.Told.{value_told}
use Rattle.peliranopi.specs.Calls.{DayTells}
use Rattle.demands.specs.Day.{DayExactly, EachAsAlone, ZerosCounted, NoNumbers, DayInPieces}
use Rattle.std.specs.Prelude.{Result, Ok, Err}

pub day_exactly : DayExactly
day_exactly = days.day_exactly

-- a call that tells 0 has answered
module _ (numbers answers after : List ℕ) (passed place : ℕ) (p : DayTells numbers answers 0 passed place after) where
  not_zero : (refusal : Refusal) → RefusedDay numbers (length answers) refusal → 0 ≡ number_of refusal.why → ⊥
  not_zero refusal (RefusedDay.wrong_length n) e = omega arith
  not_zero refusal (RefusedDay.too_short many whole h) e = omega arith

  told_answered : ChecksDay numbers answers (Ok passed) after
  unfolding answers_after
  told_answered = go (day_answer numbers (length answers)) refl p.0.0 p.1 p.2
    where
      go : (a : Result ℕ Refusal) → a ≡ day_answer numbers (length answers) → 0 ≡ number_told (verdict_on a) → passed ≡ value_told a →
          after ≡ answers_after a numbers answers → ChecksDay numbers answers (Ok passed) after
      go (Ok count) e n q r = (ap Ok q ∙ e, r)
      go (Err refusal) e n q r = absurd (not_zero refusal (days.day_refuses numbers answers after refusal e) n)

pub each_as_alone : EachAsAlone
each_as_alone numbers answers after passed place p i number kind at h q =
    days.each_alone numbers answers after passed i h (told_answered numbers answers after passed place p) ∙ sym q.0.0

pub zeros_counted : ZerosCounted
zeros_counted numbers answers after passed place p =
    let g = (days.day_exactly numbers answers after passed).0 (told_answered numbers answers after passed place p) in
    g.counted ∙ ap (λ (n : ℕ). zeros (take n after)) (sym (days.many_is numbers answers after passed g))

pub no_numbers : NoNumbers
unfolding day_answers answers_after
no_numbers answers after answer =
    let none : Ok 0 ≡ day_answer [] (length answers) = day_answered [] (length answers) 0 refl (omega arith) refl in (
      (λ (p, q). let e : answer ≡ Ok 0 = p ∙ sym none in (e, q ∙ ap (λ (a : Result ℕ Refusal). answers_after a [] answers) e)),
      (λ (e, f). (e ∙ none, f ∙ ap (λ (a : Result ℕ Refusal). answers_after a [] answers) (sym e))),
    )

pub day_in_pieces : DayInPieces
day_in_pieces first rest many whole = (days.in_pieces first rest many whole, days.zeros_in_pieces first rest many whole)
