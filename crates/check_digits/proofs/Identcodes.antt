-- Identcodes: the walk over digits and their weights, the check digit, and what each call answers, by cases.
use Prim.Native.Nat.{ℕ, suc, ◌+◌, ◌-◌, ◌*◌, ◌%◌, ◌≤◌, ◌<◌}
use mathlib.Core.Path.{◌≡◌, refl, sym, ap, ◌∙◌}
use mathlib.Core.Bool.{true, false, not}
use mathlib.Core.List.{List, [], ◌∷◌, ◌++◌}
use mathlib.Core.Logic.{⊎_elim}
use native.Mathlib.Omega.{arith}
use native.Mathlib.Nat.{zero-add, add-zero, suc-add, add-suc}
use native.Mathlib.Numerals.{add-one}
use lib.Dec.{eqb, ltb}
use lib.ListN.{length, get_or, take, length-take}
use lib.Seq.{take-suc, take_all}
use borrow.Author.Tests.{eqb-true, eq-eqb, ne_eqb, le-ltb, ltb-false, not-false}
use Rattle.refusal.specs.declared.Reason.TheVariants.{WrongLength, WrongSymbol, WrongCheck}
use Rattle.refusal.specs.declared.Refusal.{Refusal}
use Rattle.refusal.specs.Table.{because, verdict_on}
use Rattle.refusal.proofs.Verdicts.{no_pass}
use Rattle.std.specs.Prelude.{if◌then◌else◌, Ok, Err}
use Rattle.text.specs.Byte.{digit}
use Rattle.text.proofs.Choices.{came_then, came_else}
use Rattle.text.proofs.Bytes.{digit_range}
use Rattle.text.proofs.Numbers.{eq_or_ne}
use Rattle.text.proofs.Scans.{none_fails}
use Rattle.check_characters.specs.Symbol.{value_of, symbol_of}
use Rattle.check_characters.specs.Answer.{walked, room_for}
use Rattle.check_characters.proofs.Walks.{walked_refused, walked_whole}
use Rattle.check_digits.specs.Identcode.{allowed_in_identcode, wrong_in_identcode, weight_at}
use Rattle.check_digits.specs.Identcode.{weighed_from, weighed, check_digit, check_digit_of, passes}
use Rattle.check_digits.specs.Identcode.{checked_identcode, issue_identcode_answer}
use Rattle.check_characters.proofs.Symbols.{value_digit, low_symbol}
use Rattle.check_characters.proofs.Issuing.{issued_with}

module _ (i : ℕ) where
  pub weight_three : i % 2 ≡ 0 → 3 ≡ weight_at i
  unfolding weight_at
  weight_three e = simp (eq-eqb (i % 2) 0)

  pub weight_one : (i % 2 ≡ 0 → ⊥) → 1 ≡ weight_at i
  unfolding weight_at
  weight_one n = simp (ne_eqb (i % 2) 0)

pub weighed_append : (i : ℕ) (p q : List ℕ) → weighed_from i (p ++ q) ≡ weighed_from i p + weighed_from (i + length p) q
weighed_append i [] q = rw (add-zero, zero-add)
weighed_append i (b ∷ p) q =
    omega (arith, weighed_append (suc i) p q, ap (λ (k : ℕ). weighed_from k q) (suc-add i (length p) ∙ sym (add-suc i (length p))))

-- one digit more
pub weighed_more : (s : List ℕ) (i : ℕ) → i < length s → weighed (take (i + 1) s) ≡ weighed (take i s) + weight_at i * value_of (get_or s i 0)
weighed_more s i h =
    let n : length (take i s) ≡ i = length-take i s ∙ omega arith in
    rw add-one
    (ap weighed (take-suc s i 0 h) ∙ weighed_append 0 (take i s) (get_or s i 0 ∷ [])
    ∙ rw (n, zero-add) (omega arith))

-- a walk at the place i that has walked over what lies in front of it
module _ (s : List ℕ) (i : ℕ) (h : i < length s) where
  -- the byte there passes
  module _ (t : digit (get_or s i 0) ≡ true) where
    pub digit_there : (48 ≤ get_or s i 0) × (get_or s i 0 ≤ 57)
    digit_there = digit_range (get_or s i 0) t

    pub digit_weighs : weighed (take (i + 1) s) ≡ weighed (take i s) + weight_at i * (get_or s i 0 - 48)
    digit_weighs = rw (value_digit (get_or s i 0) (digit (get_or s i 0)) refl t) (weighed_more s i h)

pub weighs_little : (i d : ℕ) → d ≤ 9 → weight_at i * d ≤ 27
weighs_little i d l =
    ⊎_elim (λ z. rw (sym (weight_three i z)) (omega arith)) (λ z. rw (sym (weight_one i z)) (omega arith)) (eq_or_ne (i % 2) 0)

-- and behind all of them
pub weighed_ends : (s : List ℕ) (i sum : ℕ) → sum ≡ weighed (take i s) → length s ≤ i → sum ≡ weighed s
weighed_ends s i sum e h = e ∙ ap weighed (take_all i s h)

pub ruleset weighings = (digit_there, digit_weighs, weighs_little)

-- the check digit of a sum
module _ (left sum : ℕ) (e : left ≡ sum % 10) where
  pub digit_none : left ≡ 0 → 48 ≡ check_digit sum
  unfolding check_digit symbol_of
  digit_none z = rw (eq-eqb (sum % 10) 0 (sym e ∙ z))

  pub digit_some : (left ≡ 0 → ⊥) → 48 + (10 - left) ≡ check_digit sum
  unfolding check_digit
  digit_some n = rw (ne_eqb (sum % 10) 0 (λ z. n (e ∙ z)), low_symbol (10 - sum % 10) (omega arith), e)

pub digit_is : (sum : ℕ) → check_digit sum ≡ 48 + (10 - sum % 10) % 10
digit_is sum =
    ⊎_elim (λ z. sym (digit_none (sum % 10) sum refl z) ∙ rw z) (λ n. sym (digit_some (sum % 10) sum refl n)
    ∙ omega arith) (eq_or_ne (sum % 10) 0)

-- a check digit weighs 1, so that a code passes where all its digits, weighed, leave 0
module _ (s : List ℕ) (long : length s ≡ 22) (fine : length s ≤ wrong_in_identcode s) where
  pub code_digit : (i : ℕ) → i < length s → digit (get_or s i 0) ≡ true
  code_digit i l = none_fails allowed_in_identcode 0 s (omega arith) i l

  pub code_weighs : weighed s ≡ weighed (take 21 s) + (get_or s 21 0 - 48)
  code_weighs =
      ap weighed (sym (take_all 22 s (omega arith)))
      ∙ weighed_more s 21 (omega arith)
      ∙ ap (λ (v : ℕ). weighed (take 21 s) + v) (ap (λ (w : ℕ). w * value_of (get_or s 21 0)) (sym (weight_one 21 (λ z. omega arith)))
      ∙ omega (arith, value_digit (get_or s 21 0) (digit (get_or s 21 0)) refl (code_digit 21 (omega arith))))

  pub passes_leaves : weighed s % 10 ≡ 0 → passes s ≡ true
  unfolding passes
  passes_leaves e =
      rw long (eq-eqb (get_or s 21 0) (check_digit_of (take 21 s))
      (omega (arith, code_weighs, digit_is (weighed (take 21 s)), digit_range (get_or s 21 0) (code_digit 21 (omega arith)))))

  pub leaves_passes : (weighed s % 10 ≡ 0 → ⊥) → passes s ≡ false
  unfolding passes
  leaves_passes n =
      rw long (ne_eqb (get_or s 21 0) (check_digit_of (take 21 s))
      (λ e. n (omega (arith, code_weighs, digit_is (weighed (take 21 s)), digit_range (get_or s 21 0) (code_digit 21 (omega arith))))))

-- what checking a code answers
module _ (s : List ℕ) where
  pub checked_length : (length s ≡ 22 → ⊥) → checked_identcode s ≡ Err (because WrongLength 0)
  unfolding checked_identcode
  checked_length n = simp (ne_eqb (length s) 22)

  module _ (long : length s ≡ 22) where
    pub checked_refused : (r : Refusal) → walked allowed_in_identcode s (weighed s) ≡ Err r → checked_identcode s ≡ Err r
    unfolding checked_identcode
    checked_refused r e = let a = walked_refused allowed_in_identcode s (weighed s) r e in simp (eq-eqb (length s) 22, a.0) (rw a.1)

    module _ (sum : ℕ) (e : walked allowed_in_identcode s (weighed s) ≡ Ok sum) where
      fine : length s ≤ wrong_in_identcode s
      fine = (walked_whole allowed_in_identcode s (weighed s) sum e).0

      pub checked_passes : sum % 10 ≡ 0 → checked_identcode s ≡ Ok tt
      unfolding checked_identcode
      checked_passes z =
          let a = walked_whole allowed_in_identcode s (weighed s) sum e in
          simp (eq-eqb (length s) 22, le-ltb (wrong_in_identcode s) (length s) fine, passes_leaves s long fine (rw (← a.1) z))

      pub checked_fails : (sum % 10 ≡ 0 → ⊥) → checked_identcode s ≡ Err (because WrongCheck 21)
      unfolding checked_identcode
      checked_fails n =
          let a = walked_whole allowed_in_identcode s (weighed s) sum e in
          simp (long, le-ltb (wrong_in_identcode s) 22 (omega (arith, a.0)), leaves_passes s long fine (λ z. n (rw a.1 z)))

pub ruleset checks = (checked_length, checked_refused, checked_passes, checked_fails)

-- what an accepted code is
pub record Whole (s : List ℕ) : Type 0 where
  pub long : length s ≡ 22
  pub fine : length s ≤ wrong_in_identcode s
  pub closed : passes s ≡ true

pub accepted_whole : (s : List ℕ) → checked_identcode s ≡ Ok tt → Whole s
unfolding checked_identcode
accepted_whole s e =
    let wrong = ltb (wrong_in_identcode s) (length s) in
    let tail = if passes s then Ok tt else Err (because WrongCheck (length s - 1)) in
    let a = came_else (not (eqb (length s) 22)) (Err (because WrongLength 0))
    (if wrong then Err (because WrongSymbol (wrong_in_identcode s)) else tail) (Ok tt) (no_pass verdict_on refl refl) e in
    let b = came_else wrong (Err (because WrongSymbol (wrong_in_identcode s))) tail (Ok tt) (no_pass verdict_on refl refl) a.1 in
    let c = came_then (passes s) (Ok tt) (Err (because WrongCheck (length s - 1))) (Ok tt) (no_pass verdict_on refl refl) b.1 in
    record {
      long = eqb-true (length s) 22 (not-false (eqb (length s) 22) a.0);
      fine = ltb-false (wrong_in_identcode s) (length s) b.0;
      closed = c.0;
    }

-- and issuing one
module _ (body : List ℕ) (room : ℕ) where
  pub identcode_length : (length body ≡ 21 → ⊥) → issue_identcode_answer body room ≡ Err (because WrongLength 0)
  unfolding issue_identcode_answer
  identcode_length n = simp (ne_eqb (length body) 21)

  module _ (long : length body ≡ 21) where
    pub identcode_refused : (r : Refusal) → walked allowed_in_identcode body (weighed body) ≡ Err r → issue_identcode_answer body room ≡ Err r
    unfolding issue_identcode_answer
    identcode_refused r e = let a = walked_refused allowed_in_identcode body (weighed body) r e in simp (eq-eqb (length body) 21, a.0) (rw a.1)

    -- where every symbol is a digit
    pub identcode_right : length body ≤ wrong_in_identcode body → issue_identcode_answer body room ≡ room_for (length body + 1) room
    unfolding issue_identcode_answer
    identcode_right f = simp (long, le-ltb (wrong_in_identcode body) 21 (omega arith))

    module _ (sum : ℕ) (e : walked allowed_in_identcode body (weighed body) ≡ Ok sum) where
      pub identcode_walked : issue_identcode_answer body room ≡ room_for (length body + 1) room
      identcode_walked = identcode_right (walked_whole allowed_in_identcode body (weighed body) sum e).0

      pub identcode_check : check_digit sum ≡ check_digit_of body
      identcode_check = ap check_digit (walked_whole allowed_in_identcode body (weighed body) sum e).1

pub ruleset issues = (identcode_length, identcode_refused, identcode_walked, identcode_check, issued_with)
