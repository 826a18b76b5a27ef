-- What issuing a number answers and writes, by cases.
use Prim.Native.Nat.{ℕ, ◌+◌, ◌≤◌, ◌<◌}
use mathlib.Core.Path.{◌≡◌, refl, ap, ◌∙◌}
use mathlib.Core.List.{List, ◌++◌}
use native.Mathlib.Omega.{arith}
use native.Mathlib.Nat.{zero-add}
use native.Mathlib.Numerals.{add-one}
use lib.Dec.{ltb}
use lib.ListN.{length, drop, set}
use lib.Seq.{drop-cons, set-append_seam}
use borrow.Author.Tests.{eq-eqb, ne_eqb, lt-ltb, le-ltb, le-leb}
use Rattle.refusal.specs.declared.Reason.TheVariants.{OutputTooShort}
use Rattle.refusal.specs.Table.{because, verdict_on}
use Rattle.refusal.proofs.Verdicts.{no_pass}
use Rattle.text.specs.Placed.{placed}
use Rattle.text.proofs.Choices.{came_else}
use Rattle.check_characters.specs.Answer.{walked, room_for, issued_to}
use Rattle.check_characters.specs.Number.{length_of, allowed_in_number, wrong_in_number, issue_as, issue_answer}
use Rattle.check_characters.specs.Symbol.{symbol_of}
use Rattle.check_characters.specs.Mod37.{carry, closes, first_value, check_of}
use Rattle.check_characters.proofs.Walks.{walked_refused, walked_whole}
use Rattle.check_characters.specs.declared.number.Kind.{Kind}
use Rattle.check_characters.specs.declared.number.Kind.TheVariants.{Tracking, Label}
use Rattle.std.specs.Prelude.{Result, Ok, Err}
use Rattle.refusal.specs.declared.Refusal.{Refusal}

module _ (n room : ℕ) where
  pub room_short : room ≤ n → Err (because OutputTooShort 0) ≡ room_for (n + 1) room
  unfolding room_for
  room_short l = simp (lt-ltb room (n + 1) (omega arith))

  pub room_there : n < room → Ok (n + 1) ≡ room_for (n + 1) room
  unfolding room_for
  room_there l = simp (le-ltb room (n + 1) (omega arith))

module _ (whole room : ℕ) where
  pub room_whole : (n : ℕ) → room_for whole room ≡ Ok n → n ≡ whole
  unfolding room_for
  room_whole n e = let w = came_else (ltb room whole) (Err (because OutputTooShort 0)) (Ok whole) (Ok n) (no_pass verdict_on refl refl) e in cc

-- the body placed at the start, and the check behind it
pub issue_written : (body out placedOut : List ℕ) (check : ℕ) → length body < length out → placedOut ≡ placed out 0 body →
    set placedOut (length body) check ≡ issued_to (Ok (length body + 1)) body check out
unfolding placed issued_to
issue_written body out placedOut check h ep =
    let front : placedOut ≡ body ++ drop (length body) out = ep ∙ simp (zero-add, le-leb (length body) (length out) (omega arith)) in
    rw (front, add-one, drop-cons out (length body) 0 (omega arith), set-append_seam)

-- the check is the one that the number's rule gives
pub issued_with : (r : Result ℕ Refusal) (body out after : List ℕ) (check known : ℕ) → check ≡ known → after ≡ issued_to r body check out →
    after ≡ issued_to r body known out
issued_with r body out after check known e f = f ∙ ap (λ (c : ℕ). issued_to r body c out) e

module _ (k : Kind) (body : List ℕ) (room : ℕ) where
  pub issue_right : length body ≤ wrong_in_number k body → length body + 1 ≡ length_of k → issue_as k body room ≡ room_for (length body + 1) room
  unfolding issue_as
  issue_right h whole = simp (le-ltb (wrong_in_number k body) (length body), ← whole)

  -- behind a walk over the body
  pub issue_refused : (r : Refusal) → walked (allowed_in_number k) body (carry body) ≡ Err r → issue_as k body room ≡ Err r
  unfolding issue_as
  issue_refused r e = let a = walked_refused (allowed_in_number k) body (carry body) r e in rw (a.0, a.1)

  module _ (c : ℕ) (e : walked (allowed_in_number k) body (carry body) ≡ Ok c) where
    pub issue_walked : length body + 1 ≡ length_of k → issue_as k body room ≡ room_for (length body + 1) room
    issue_walked = issue_right (walked_whole (allowed_in_number k) body (carry body) c e).0

    pub check_walked : symbol_of (first_value (closes c) 0 36) ≡ check_of body
    unfolding check_of
    check_walked = ap (λ x. symbol_of (first_value (closes x) 0 36)) (walked_whole (allowed_in_number k) body (carry body) c e).1

module _ (body : List ℕ) (room : ℕ) where
  pub issue_tracking : length body ≡ 14 → issue_answer body room ≡ issue_as Tracking body room
  unfolding issue_answer
  issue_tracking e = simp (eq-eqb (length body) 14)

  pub issue_label : (length body ≡ 14 → ⊥) → length body ≡ 27 → issue_answer body room ≡ issue_as Label body room
  unfolding issue_answer
  issue_label n e = simp (ne_eqb (length body) 14, eq-eqb (length body) 27)

pub ruleset issues = (issue_refused, issue_walked, check_walked, issued_with)

pub ruleset writings = (room_short, room_there, issue_written)
