-- Issuing and checking an identcode are each other's inverse: what is issued is sound, and a sound code is what its body issues.
use Prim.Native.Nat.{ℕ, ◌+◌, ◌-◌, ◌%◌, ◌≤◌}
use mathlib.Core.Path.{◌≡◌, refl, sym, ap, ◌∙◌}
use mathlib.Core.Bool.{true, not}
use mathlib.Core.List.{List, [], ◌∷◌, ◌++◌}
use native.Mathlib.Omega.{arith}
use lib.Dec.{eqb, ltb}
use lib.ListN.{length, get_or, take, drop, length-append, length-take}
use lib.Seq.{take_at, get_or_at}
use borrow.Author.Tests.{eqb-true, ltb-false, not-false}
use Rattle.refusal.specs.declared.Reason.TheVariants.{WrongLength, WrongSymbol}
use Rattle.refusal.specs.Table.{because, verdict_on}
use Rattle.refusal.proofs.Verdicts.{no_pass}
use Rattle.text.specs.Byte.{digit}
use Rattle.std.specs.Prelude.{if◌then◌else◌, Result, Ok, Err}
use Rattle.text.proofs.Choices.{came_else, and_both}
use Rattle.text.proofs.Runs.{all_append}
use Rattle.text.proofs.Scans.{all_at, all_of}
use Rattle.text.proofs.Finite.{every_at}
use Rattle.check_characters.specs.Answer.{room_for}
use Rattle.check_digits.specs.Identcode.{allowed_in_identcode, wrong_in_identcode, weighed, check_digit_of, issue_identcode_answer, IssuesIdentcode}
use Rattle.check_characters.proofs.Issuing.{room_there, room_whole}
use Rattle.check_digits.proofs.Identcodes.{digit_is, identcode_right}
use Rattle.slips.specs.Exactly.{Shaped, SoundIdentcode, body_of}
use Rattle.slips.proofs.Shaping.{shaped_all, all_shaped}
use Rattle.slips.proofs.Written.{written_start, front_shaped, written_again}
use Rattle.refusal.specs.declared.Refusal.{Refusal}

-- what an issued answer tells of the body
record Body (body : List ℕ) (n : ℕ) : Type 0 where
  long : length body ≡ 21
  shaped : Shaped allowed_in_identcode body
  whole : n ≡ 22

body_of_lem : (body : List ℕ) (room n : ℕ) → issue_identcode_answer body room ≡ Ok n → Body body n
unfolding issue_identcode_answer
body_of_lem body room n e =
    let wrong = ltb (wrong_in_identcode body) (length body) in
    let a = came_else (not (eqb (length body) 21)) (Err (because WrongLength 0))
    (if wrong then Err (because WrongSymbol (wrong_in_identcode body)) else room_for 22 room) (Ok n) (no_pass verdict_on refl refl) e in
    let b = came_else wrong (Err (because WrongSymbol (wrong_in_identcode body))) (room_for 22 room) (Ok n) (no_pass verdict_on refl refl) a.1 in
    record {
      long = eqb-true (length body) 21 (not-false (eqb (length body) 21) a.0);
      shaped = shaped_all allowed_in_identcode body (ltb-false (wrong_in_identcode body) (length body) b.0);
      whole = room_whole 22 room n b.1;
    }

check_is_digit : (sum : ℕ) → digit (48 + (10 - sum % 10) % 10) ≡ true
check_is_digit sum = every_at 10 (λ v. digit (48 + v)) refl ((10 - sum % 10) % 10) (omega arith)

-- a body with its check digit
module _ (body : List ℕ) (long : length body ≡ 21) (shaped : Shaped allowed_in_identcode body) where
  abbrev code : List ℕ
  code = body ++ (check_digit_of body ∷ [])

  code_long : length code ≡ 22
  code_long = length-append body (check_digit_of body ∷ []) ∙ rw long

  front : body_of code ≡ body
  front = take_at body (check_digit_of body ∷ []) (length code - 1) (omega (arith, code_long))

  with_check : SoundIdentcode code
  with_check =
      record {
        long = code_long;
        shaped =
            all_at digit code
            (all_append digit body (check_digit_of body ∷ []) (all_of digit body shaped)
            (and_both (digit (check_digit_of body)) true (ap digit (digit_is (weighed body)) ∙ check_is_digit (weighed body)) refl));
        closed = get_or_at body (check_digit_of body) [] 0 21 long ∙ ap check_digit_of (sym front);
      }

-- what is issued is sound
pub issued_sound : (body out after : List ℕ) (n : ℕ) → IssuesIdentcode body out (Ok n) after → SoundIdentcode (take n after)
issued_sound body out after n h =
    let b = body_of_lem body (length out) n (sym h.0) in
    rw (written_start body out after (check_digit_of body) n (omega (arith, b.long, b.whole)) h.1) (with_check body b.long b.shaped)

-- a sound code is what its body issues
pub sound_issued : (s out after : List ℕ) (answer : Result ℕ Refusal) → SoundIdentcode s → length s ≤ length out →
    IssuesIdentcode (body_of s) out answer after → (answer ≡ Ok (length s)) × (after ≡ s ++ drop (length s) out)
sound_issued s out after answer g room h =
    (answered, rw answered at h.1 ∙ written_again s (omega (arith, g.long)) out (check_digit_of (body_of s)) last)
  where
    long : length (body_of s) ≡ 21
    long = omega (arith, length-take (length s - 1) s, g.long)

    answered : answer ≡ Ok (length s)
    answered =
        h.0
        ∙ identcode_right (body_of s) (length out) long
        (all_shaped allowed_in_identcode (body_of s) (front_shaped allowed_in_identcode s (length s - 1) g.shaped))
        ∙ sym (room_there (length (body_of s)) (length out) (omega (arith, long, g.long)))
        ∙ ap Ok (omega (arith, long, g.long))

    last : check_digit_of (body_of s) ≡ get_or s (length s - 1) 0
    last = sym g.closed ∙ ap (λ (k : ℕ). get_or s k 0) (omega (arith, g.long))
