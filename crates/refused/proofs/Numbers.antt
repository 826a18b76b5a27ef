-- A number, an IBAN and a body to issue are refused exactly when their symbols say so.
use Prim.Native.Nat.{ℕ, ◌+◌, ◌-◌, ◌%◌, ◌≤◌}
use mathlib.Core.Path.{◌≡◌, refl, sym, ap, subst, ◌∙◌}
use mathlib.Core.Bool.{Bool, true, false, not, ◌&&◌}
use mathlib.Core.List.{List}
use mathlib.Core.Logic.{◌⊎◌, inl, inr, ◌↔◌, ⊎_elim}
use native.Mathlib.Omega.{arith}
use lib.Dec.{leb, ltb, eqb}
use lib.ListN.{length}
use borrow.Author.Tests.{le-leb, leb-true, ltb-true, ltb-false, lt-ltb, le-ltb, eqb-true, eqb-false, eq-eqb, ne_eqb, not-true, not-false}
use Rattle.text.proofs.Choices.{choice, and_left, and_right, and_both, true_or_false, clash}
use Rattle.refusal.specs.Table.{because, verdict_on}
use Rattle.refusal.specs.declared.Refusal.{Refusal}
use Rattle.refusal.specs.declared.Reason.TheVariants.{OutputTooShort, WrongLength, WrongSymbol, WrongCheck}
use Rattle.refusal.proofs.Verdicts.{no_pass}
use Rattle.check_characters.specs.Mod37.{passes}
use Rattle.check_characters.specs.Number.{length_of, allowed_in_number, wrong_in_number, checked_as, checked_number}
use Rattle.check_characters.specs.Number.{issue_as, issue_answer, Issues}
use Rattle.check_characters.specs.Answer.{room_for, issued_to}
use Rattle.check_characters.specs.Iban.{iban_number, check_digits, barred}
use Rattle.check_characters.specs.Iban.{sound_of, allowed_in_iban, checked_iban}
use Rattle.check_characters.specs.Iban.{wrong_in_iban}
use Rattle.check_characters.specs.declared.number.Kind.{Kind}
use Rattle.check_characters.specs.declared.number.Kind.TheVariants.{Tracking, Label}
use Rattle.check_characters.proofs.Checking.{checked_length}
use Rattle.slips.proofs.Shaping.{shaped_all, all_shaped}
use Rattle.slips.proofs.Numbers.{checked_kind}
use Rattle.slips.proofs.Issues.{issues_as}
use Rattle.refused.specs.Number.{RefusedNumber, RefusedIban, RefusedIssue}
use Rattle.refused.proofs.Wrong.{wrong_there, there_wrong}
use Rattle.std.specs.Prelude.{Ok, Err, Result, ⊤}

module _ (s : List ℕ) where
  module _ (refusal : Refusal) where
    is : (other : Refusal) → RefusedNumber s other → ◌≡◌ {A = Result Kind Refusal} (Err other) (Err refusal) → RefusedNumber s refusal
    is other g e = let same : other ≡ refusal = cc in subst (RefusedNumber s) same g

    as_refused : (kind : Kind) → length s ≡ length_of kind → checked_as kind s ≡ Err refusal → RefusedNumber s refusal
    unfolding checked_as
    as_refused kind n e =
        let wrong = wrong_in_number kind s in
        choice (ltb wrong (length s)) (Err (because WrongSymbol wrong)) _ (Err refusal)
        (λ t q. is (because WrongSymbol wrong) (RefusedNumber.wrong_symbol kind wrong n (wrong_there (allowed_in_number kind) s (ltb-true wrong (length s) t))) q)
        (λ t. choice (passes s) (Ok kind) (Err (because WrongCheck (length s - 1))) (Err refusal)
        (λ u q. absurd (no_pass verdict_on refl refl (sym q)))
        (λ u q. is (because WrongCheck (length s - 1))
        (RefusedNumber.wrong_check kind n (shaped_all (allowed_in_number kind) s (ltb-false wrong (length s) t)) u) q)) e

    number_refused : checked_number s ≡ Err refusal → RefusedNumber s refusal
    unfolding checked_number
    number_refused e =
        choice (eqb (length s) 15) (checked_as Tracking s) _ (Err refusal) (λ t q. as_refused Tracking (eqb-true (length s) 15 t) q)
        (λ t. choice (eqb (length s) 28) (checked_as Label s) (Err (because WrongLength 0)) (Err refusal)
        (λ u q. as_refused Label (eqb-true (length s) 28 u) q)
        (λ u q. is (because WrongLength 0) (RefusedNumber.wrong_length (neither (eqb-false (length s) 15 t) (eqb-false (length s) 28 u))) q)) e
      where
        neither : (length s ≡ 15 → ⊥) → (length s ≡ 28 → ⊥) → (kind : Kind) → length s ≡ length_of kind → ⊥
        neither a b Tracking h = a h
        neither a b Label h = b h

  refused_number : (refusal : Refusal) → RefusedNumber s refusal → checked_number s ≡ Err refusal
  unfolding checked_as
  refused_number refusal (RefusedNumber.wrong_length n) = checked_length s (n Tracking) (n Label)
  refused_number refusal (RefusedNumber.wrong_symbol kind i n g) =
      checked_kind kind s n ∙ rw (there_wrong (allowed_in_number kind) s i g, lt-ltb i (length s) g.inside)
  refused_number refusal (RefusedNumber.wrong_check kind n g p) =
      checked_kind kind s n ∙ rw (le-ltb (wrong_in_number kind s) (length s) (all_shaped (allowed_in_number kind) s g), p)

pub number_refused_exactly : (s : List ℕ) (refusal : Refusal) → (checked_number s ≡ Err refusal) ↔ RefusedNumber s refusal
number_refused_exactly s refusal = (number_refused s refusal, refused_number s refusal)

-- IBANs
module _ (s : List ℕ) where
  abbrev in_length : Bool
  in_length = leb 15 (length s) && leb (length s) 34

  abbrev one : Bool
  one = eqb (iban_number s % 97) 1

  unsound : sound_of s ≡ false → (barred (check_digits s) ≡ true) ⊎ (iban_number s % 97 ≡ 1 → ⊥)
  unfolding sound_of
  unsound e =
      ⊎_elim inl
      (λ b. inr (λ r. clash (and_both (not (barred (check_digits s))) one (ap not b) (eq-eqb (iban_number s % 97) 1 r)) e))
      (true_or_false (barred (check_digits s)))

  not_sound : (barred (check_digits s) ≡ true) ⊎ (iban_number s % 97 ≡ 1 → ⊥) → sound_of s ≡ false
  unfolding sound_of
  not_sound (inl b) = rw b
  not_sound (inr n) = rw (ne_eqb (iban_number s % 97) 1 n) (and-false (not (barred (check_digits s))))
    where
      and-false : (t : Bool) → (t && false) ≡ false
      and-false true = refl
      and-false false = refl

  long_enough : 15 ≤ length s → length s ≤ 34 → in_length ≡ true
  long_enough l h = and_both (leb 15 (length s)) (leb (length s) 34) (le-leb 15 (length s) l) (le-leb (length s) 34 h)

  least : in_length ≡ true → 15 ≤ length s
  least e = leb-true 15 (length s) (and_left (leb 15 (length s)) (leb (length s) 34) e)

  most : in_length ≡ true → length s ≤ 34
  most e = leb-true (length s) 34 (and_right (leb 15 (length s)) (leb (length s) 34) e)

  iban_refused : (refusal : Refusal) → checked_iban s ≡ Err refusal → RefusedIban s refusal
  unfolding checked_iban
  iban_refused refusal e =
      let wrong = wrong_in_iban s in
      choice (not in_length) (Err (because WrongLength 0)) _ (Err refusal)
      (λ t q. tell (because WrongLength 0) (RefusedIban.wrong_length (λ l h. clash (long_enough l h) (not-true in_length t))) q)
      (λ t. choice (ltb wrong (length s)) (Err (because WrongSymbol wrong)) _ (Err refusal)
      (λ u q. tell (because WrongSymbol wrong) (RefusedIban.wrong_symbol wrong (least (not-false in_length t)) (most (not-false in_length t))
      (wrong_there allowed_in_iban s (ltb-true wrong (length s) u))) q)
      (λ u. choice (sound_of s) (Ok tt) (Err (because WrongCheck 2)) (Err refusal)
      (λ v q. absurd (no_pass verdict_on refl refl (sym q)))
      (λ v q. tell (because WrongCheck 2) (RefusedIban.wrong_check (least (not-false in_length t)) (most (not-false in_length t))
      (shaped_all allowed_in_iban s (ltb-false wrong (length s) u)) (unsound v)) q))) e
    where
      tell : (other : Refusal) → RefusedIban s other → ◌≡◌ {A = Result ⊤ Refusal} (Err other) (Err refusal) → RefusedIban s refusal
      tell other g e = let same : other ≡ refusal = cc in subst (RefusedIban s) same g

  refused_iban : (refusal : Refusal) → RefusedIban s refusal → checked_iban s ≡ Err refusal
  unfolding checked_iban
  refused_iban refusal (RefusedIban.wrong_length n) = ⊎_elim (λ t. absurd (n (least t) (most t))) (λ f. rw f) (true_or_false in_length)
  refused_iban refusal (RefusedIban.wrong_symbol i l h g) =
      rw (long_enough l h, there_wrong allowed_in_iban s i g, lt-ltb i (length s) g.inside)
  refused_iban refusal (RefusedIban.wrong_check l h g n) =
      rw (long_enough l h, le-ltb (wrong_in_iban s) (length s) (all_shaped allowed_in_iban s g), not_sound n)

pub iban_refused_exactly : (s : List ℕ) (refusal : Refusal) → (checked_iban s ≡ Err refusal) ↔ RefusedIban s refusal
iban_refused_exactly s refusal = (iban_refused s refusal, refused_iban s refusal)

-- issuing
module _ (body : List ℕ) (room : ℕ) where
  module _ (refusal : Refusal) where
    hand : (other : Refusal) → RefusedIssue body room other → ◌≡◌ {A = Result ℕ Refusal} (Err other) (Err refusal) → RefusedIssue body room refusal
    hand other g e = let same : other ≡ refusal = cc in subst (RefusedIssue body room) same g

    as_issued : (kind : Kind) → length body + 1 ≡ length_of kind → issue_as kind body room ≡ Err refusal →
        RefusedIssue body room refusal
    unfolding issue_as room_for
    as_issued kind n e =
        let wrong = wrong_in_number kind body in
        choice (ltb wrong (length body)) (Err (because WrongSymbol wrong)) _ (Err refusal)
        (λ t q. hand (because WrongSymbol wrong)
        (RefusedIssue.wrong_symbol kind wrong n (wrong_there (allowed_in_number kind) body (ltb-true wrong (length body) t))) q)
        (λ t. choice (ltb room (length_of kind)) (Err (because OutputTooShort 0)) (Ok (length_of kind)) (Err refusal)
        (λ u q. hand (because OutputTooShort 0)
        (RefusedIssue.too_short kind n (shaped_all (allowed_in_number kind) body (ltb-false wrong (length body) t)) (ltb-true room (length_of kind) u)) q)
        (λ u q. absurd (no_pass verdict_on refl refl (sym q)))) e

    issue_refused : issue_answer body room ≡ Err refusal → RefusedIssue body room refusal
    unfolding issue_answer
    issue_refused e =
        choice (eqb (length body) 14) (issue_as Tracking body room) _ (Err refusal)
        (λ t q. as_issued Tracking (omega (arith, eqb-true (length body) 14 t)) q)
        (λ t. choice (eqb (length body) 27) (issue_as Label body room) (Err (because WrongLength 0)) (Err refusal)
        (λ u q. as_issued Label (omega (arith, eqb-true (length body) 27 u)) q)
        (λ u q. hand (because WrongLength 0) (RefusedIssue.wrong_length (neither (eqb-false (length body) 14 t) (eqb-false (length body) 27 u))) q)) e
      where
        neither : (length body ≡ 14 → ⊥) → (length body ≡ 27 → ⊥) → (kind : Kind) → length body + 1 ≡ length_of kind → ⊥
        neither a b Tracking h = a (omega arith)
        neither a b Label h = b (omega arith)

  refused_issue : (refusal : Refusal) → RefusedIssue body room refusal → issue_answer body room ≡ Err refusal
  unfolding issue_answer issue_as room_for
  refused_issue refusal (RefusedIssue.wrong_length n) =
      rw (ne_eqb (length body) 14 (λ e. n Tracking (omega arith)), ne_eqb (length body) 27 (λ e. n Label (omega arith)))
  refused_issue refusal (RefusedIssue.wrong_symbol kind i n g) =
      issues_as kind body room n ∙ rw (there_wrong (allowed_in_number kind) body i g, lt-ltb i (length body) g.inside)
  refused_issue refusal (RefusedIssue.too_short kind n g p) =
      issues_as kind body room n ∙ rw (le-ltb (wrong_in_number kind body) (length body) (all_shaped (allowed_in_number kind) body g), lt-ltb room (length_of kind) p)

pub issue_refused_exactly : (body output : List ℕ) (refusal : Refusal) (after : List ℕ) →
    Issues body output (Err refusal) after ↔ (RefusedIssue body (length output) refusal × (after ≡ output))
unfolding issued_to
issue_refused_exactly body output refusal after = (
  λ p. (issue_refused body (length output) refusal (sym p.0), p.1),
  λ g. (sym (refused_issue body (length output) refusal g.0), g.1),
)
