-- Issuing and checking are each other's inverse: what is issued is accepted, and an accepted number is what its body issues.
use Prim.Native.Nat.{ℕ, ◌+◌, ◌-◌, ◌%◌, ◌≤◌, ◌<◌}
use mathlib.Core.Path.{◌≡◌, refl, sym, ap, ◌∙◌}
use mathlib.Core.Bool.{true, false}
use mathlib.Core.List.{List, [], ◌∷◌, ◌++◌}
use mathlib.Core.Logic.{⊎_elim}
use native.Mathlib.Omega.{arith}
use lib.Dec.{eqb, ltb}
use lib.ListN.{length, get_or, take, drop, length-append, length-take, get_or-append}
use lib.Seq.{get_or_at}
use borrow.Author.Tests.{eqb-true, ltb-false}
use Rattle.refusal.specs.declared.Reason.TheVariants.{WrongLength, WrongSymbol}
use Rattle.refusal.specs.Table.{because, verdict_on}
use Rattle.refusal.proofs.Verdicts.{no_pass}
use Rattle.text.specs.Byte.{symbol}
use Rattle.text.proofs.Choices.{came_then, came_else, true_or_false}
use Rattle.text.proofs.Numbers.{le_or_lt}
use Rattle.text.proofs.Finite.{every_at}
use Rattle.check_characters.specs.Symbol.{value_of, symbol_of}
use Rattle.check_characters.specs.Mod37.{carry, check_of}
use Rattle.check_characters.specs.Answer.{room_for}
use Rattle.check_characters.specs.Number.{length_of, allowed_in_number, wrong_in_number, issue_as, issue_answer, Issues}
use Rattle.check_characters.specs.declared.number.Kind.{Kind}
use Rattle.check_characters.specs.declared.number.Kind.TheVariants.{Tracking, Label}
use Rattle.check_characters.proofs.Carries.{carry_of, carry_append, two_of_one, two_passes, check_value_lem}
use Rattle.check_characters.proofs.Shapes.{has_last, tracking_check, label_check}
use Rattle.check_characters.proofs.Issuing.{room_there, room_whole, issue_right, issue_tracking, issue_label}
use Rattle.slips.specs.Exactly.{Shaped, SoundNumber, body_of}
use Rattle.slips.proofs.Shaping.{shaped_all, all_shaped}
use Rattle.slips.proofs.Written.{written_start, front_shaped, all_and_last, written_again}
use Rattle.slips.proofs.Numbers.{one_symbol}
use Rattle.std.specs.Prelude.{Result, Ok, Err}
use Rattle.refusal.specs.declared.Refusal.{Refusal}

-- what an issued answer tells of the body
pub record Body (k : Kind) (body : List ℕ) (n : ℕ) : Type 0 where
  pub long : length body + 1 ≡ length_of k
  pub shaped : Shaped (allowed_in_number k) body
  pub whole : n ≡ length_of k

body_as : (k : Kind) (body : List ℕ) (room n : ℕ) → length body + 1 ≡ length_of k → issue_as k body room ≡ Ok n → Body k body n
unfolding issue_as
body_as k body room n long e =
    let w = came_else (ltb (wrong_in_number k body) (length body)) (Err (because WrongSymbol (wrong_in_number k body)))
    (room_for (length_of k) room) (Ok n) (no_pass verdict_on refl refl) e in
    record {
      long = long;
      shaped = shaped_all (allowed_in_number k) body (ltb-false (wrong_in_number k body) (length body) w.0);
      whole = room_whole (length_of k) room n w.1;
    }

body_of_lem : (body : List ℕ) (room n : ℕ) → issue_answer body room ≡ Ok n → (k : Kind) × Body k body n
unfolding issue_answer
body_of_lem body room n e =
    ⊎_elim (λ (t : eqb (length body) 14 ≡ true). (
      Tracking,
      body_as Tracking body room n (omega (arith, eqb-true (length body) 14 t))
          (simp t at e),
    ))
    (λ (f : eqb (length body) 14 ≡ false).
    let w = came_then (eqb (length body) 27) (issue_as Label body room) (Err (because WrongLength 0)) (Ok n) (no_pass verdict_on refl refl)
    (simp f at e) in
    (Label, body_as Label body room n (omega (arith, eqb-true (length body) 27 w.0)) w.1))
    (true_or_false (eqb (length body) 14))

-- the check character of a body: a symbol, whose value closes the carry
symbol_value : (v : ℕ) → v < 36 → value_of (symbol_of v) ≡ v
unfolding value_of symbol_of
symbol_value v l = eqb-true (value_of (symbol_of v)) v (every_at 36 (λ v. eqb (value_of (symbol_of v)) v) refl v l)

symbol_symbol : (v : ℕ) → v < 36 → symbol (symbol_of v) ≡ true
unfolding symbol_of
symbol_symbol v l = every_at 36 (λ v. symbol (symbol_of v)) refl v l

module _ (body : List ℕ) where
  check_is : check_of body ≡ symbol_of ((37 - carry body) % 36)
  unfolding check_of
  check_is = ap symbol_of (check_value_lem (carry body) (carry_of body))

  pub check_symbol : symbol (check_of body) ≡ true
  check_symbol = ap symbol check_is ∙ symbol_symbol ((37 - carry body) % 36) (omega arith)

  pub check_closes : (carry body + value_of (check_of body)) % 36 ≡ 1
  check_closes = let r = carry_of body in let v = ap value_of check_is ∙ symbol_value ((37 - carry body) % 36) (omega arith) in
      rw v (omega (arith, r.low, r.high))

check_stands : (k : Kind) (i b : ℕ) → i + 1 ≡ length_of k → symbol b ≡ true → allowed_in_number k i b ≡ true
check_stands Tracking i b e s = tracking_check i b (omega arith) ∙ s
check_stands Label i b e s = label_check i b (omega arith) ∙ s

with_check : (k : Kind) (body : List ℕ) → length body + 1 ≡ length_of k → Shaped (allowed_in_number k) body →
    SoundNumber k (body ++ (check_of body ∷ []))
with_check k body long shaped =
    record {
      long = whole_long ∙ long;
      shaped = λ i l. ⊎_elim (λ m. at_end i (omega (arith, whole_long)))
          (λ m. rw (get_or-append body (check_of body ∷ []) 0 i m) (shaped i m)) (le_or_lt (length body) i);
      closed = two_passes (body ++ (check_of body ∷ [])) (omega (arith, whole_long)) (carry_append 36 body (check_of body ∷ [])
          ∙ two_of_one (carry body) (value_of (check_of body)) (check_closes body));
    }
  where
    whole_long : length (body ++ (check_of body ∷ [])) ≡ length body + 1
    whole_long = length-append body (check_of body ∷ [])

    at_end : (i : ℕ) → i ≡ length body → allowed_in_number k i (get_or (body ++ (check_of body ∷ [])) i 0) ≡ true
    at_end i e = rw (get_or_at body (check_of body) [] 0 i (sym e)) (check_stands k i (check_of body) (rw e long) (check_symbol body))

-- what is issued is sound
pub issued_sound : (body out after : List ℕ) (n : ℕ) → Issues body out (Ok n) after → (k : Kind) × SoundNumber k (take n after)
issued_sound body out after n h =
    let b = body_of_lem body (length out) n (sym h.0) in
    let w = with_check b.0 body b.1.long b.1.shaped in
    (b.0, rw (written_start body out after (check_of body) n (b.1.long ∙ sym b.1.whole) h.1) w)

-- a sound number is what its body issues
pub issues_as : (k : Kind) (body : List ℕ) (room : ℕ) → length body + 1 ≡ length_of k → issue_answer body room ≡ issue_as k body room
issues_as Tracking body room e = issue_tracking body room (omega arith)
issues_as Label body room e = issue_label body room (λ q. omega arith) (omega arith)

pub sound_issued : (k : Kind) (s out after : List ℕ) (answer : Result ℕ Refusal) → SoundNumber k s → length s ≤ length out →
    Issues (body_of s) out answer after
    → (answer ≡ Ok (length s)) × (after ≡ s ++ drop (length s) out)
sound_issued k s out after answer g room h = (answered, rw answered at h.1 ∙ written_again s some out (check_of (body_of s)) last)
  where
    some : 1 ≤ length s
    some = has_last k (length s) g.long

    whole : length (body_of s) + 1 ≡ length s
    whole = omega (arith, length-take (length s - 1) s, some)

    shaped : Shaped (allowed_in_number k) (body_of s)
    shaped = front_shaped (allowed_in_number k) s (length s - 1) g.shaped

    answered : answer ≡ Ok (length s)
    answered =
        h.0
        ∙ issues_as k (body_of s) (length out) (whole ∙ g.long)
        ∙ issue_right k (body_of s) (length out) (all_shaped (allowed_in_number k) (body_of s) shaped) (whole ∙ g.long)
        ∙ sym (room_there (length (body_of s)) (length out) (omega (arith, whole)))
        ∙ ap Ok whole

    last : check_of (body_of s) ≡ get_or s (length s - 1) 0
    last =
        one_symbol k (body_of s) (check_of (body_of s)) (get_or s (length s - 1) 0) [] (with_check k (body_of s) (whole ∙ g.long) shaped)
        (rw (all_and_last s some) at g)
