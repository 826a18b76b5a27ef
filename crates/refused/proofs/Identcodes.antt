-- An identcode, its parts and a body to issue are refused exactly when their digits say so.
use Prim.Native.Nat.{ℕ, ◌-◌}
use mathlib.Core.Path.{◌≡◌, refl, sym, ap, subst, ◌∙◌}
use mathlib.Core.Bool.{false, not}
use mathlib.Core.List.{List}
use mathlib.Core.Logic.{◌⊎◌, inl, inr, ◌↔◌}
use native.Mathlib.Omega.{arith}
use lib.Dec.{ltb, eqb}
use lib.ListN.{length, get_or}
use borrow.Author.Tests.{ltb-true, ltb-false, lt-ltb, le-ltb, eqb-true, eqb-false, eq-eqb, ne_eqb, not-true, not-false}
use Rattle.text.proofs.Choices.{choice}
use Rattle.refusal.specs.Table.{because, verdict_on}
use Rattle.refusal.specs.declared.Refusal.{Refusal}
use Rattle.refusal.specs.declared.Reason.TheVariants.{OutputTooShort, WrongLength, WrongSymbol, WrongCheck}
use Rattle.refusal.proofs.Verdicts.{no_pass}
use Rattle.check_characters.specs.Answer.{room_for, issued_to}
use Rattle.check_digits.specs.Identcode.{allowed_in_identcode, wrong_in_identcode, check_digit_of, passes}
use Rattle.check_digits.specs.Identcode.{checked_identcode, parts_where, parts_answer}
use Rattle.check_digits.specs.Identcode.{issue_identcode_answer, IssuesIdentcode}
use Rattle.slips.specs.Exactly.{body_of, SoundIdentcode}
use Rattle.slips.proofs.Shaping.{shaped_all, all_shaped}
use Rattle.slips.proofs.Identcodes.{accepted_sound, sound_accepted}
use Rattle.refused.specs.Identcode.{RefusedIdentcode, RefusedIdentcodeIssue}
use Rattle.refused.proofs.Wrong.{wrong_there, there_wrong}
use Rattle.std.specs.Prelude.{⊤, Result, Ok, Err}

module _ (s : List ℕ) where
  last_at : length s ≡ 22 → get_or s (length s - 1) 0 ≡ get_or s 21 0
  last_at n = ap (λ (k : ℕ). get_or s k 0) (omega arith)

  open_check : length s ≡ 22 → passes s ≡ false → get_or s 21 0 ≡ check_digit_of (body_of s) → ⊥
  unfolding passes
  open_check n e q = eqb-false (get_or s (length s - 1) 0) (check_digit_of (body_of s)) e (last_at n ∙ q)

  check_open : length s ≡ 22 → (get_or s 21 0 ≡ check_digit_of (body_of s) → ⊥) → passes s ≡ false
  unfolding passes
  check_open n q = ne_eqb (get_or s (length s - 1) 0) (check_digit_of (body_of s)) (λ e. q (sym (last_at n) ∙ e))

  identcode_refused : (refusal : Refusal) → checked_identcode s ≡ Err refusal → RefusedIdentcode s refusal
  unfolding checked_identcode
  identcode_refused refusal e =
      let wrong = wrong_in_identcode s in
      choice (not (eqb (length s) 22)) (Err (because WrongLength 0)) _ (Err refusal)
      (λ t q. is (because WrongLength 0) (RefusedIdentcode.wrong_length (eqb-false (length s) 22 (not-true (eqb (length s) 22) t))) q)
      (λ t. let n = eqb-true (length s) 22 (not-false (eqb (length s) 22) t) in
      choice (ltb wrong (length s)) (Err (because WrongSymbol wrong)) _ (Err refusal)
      (λ u q. is (because WrongSymbol wrong) (RefusedIdentcode.wrong_symbol wrong n (wrong_there allowed_in_identcode s (ltb-true wrong (length s) u))) q)
      (λ u. choice (passes s) (Ok tt) (Err (because WrongCheck (length s - 1))) (Err refusal)
      (λ v q. absurd (no_pass verdict_on refl refl (sym q)))
      (λ v q. is (because WrongCheck 21)
      (RefusedIdentcode.wrong_check n (shaped_all allowed_in_identcode s (ltb-false wrong (length s) u)) (open_check n v))
      (ap (λ (k : ℕ). Err (because WrongCheck k)) (omega arith) ∙ q)))) e
    where
      is : (other : Refusal) → RefusedIdentcode s other → ◌≡◌ {A = Result ⊤ Refusal} (Err other) (Err refusal) → RefusedIdentcode s refusal
      is other g e = let same : other ≡ refusal = cc in subst (RefusedIdentcode s) same g

  refused_identcode : (refusal : Refusal) → RefusedIdentcode s refusal → checked_identcode s ≡ Err refusal
  unfolding checked_identcode
  refused_identcode refusal (RefusedIdentcode.wrong_length n) = rw (ne_eqb (length s) 22 n)
  refused_identcode refusal (RefusedIdentcode.wrong_symbol i n g) =
      rw (eq-eqb (length s) 22 n, there_wrong allowed_in_identcode s i g, lt-ltb i (length s) g.inside)
  refused_identcode refusal (RefusedIdentcode.wrong_check n g q) =
      rw (eq-eqb (length s) 22 n, le-ltb (wrong_in_identcode s) (length s) (all_shaped allowed_in_identcode s g), check_open n q)
      (ap (λ (k : ℕ). Err (because WrongCheck k)) (omega arith))

  pub identcode_always_one : SoundIdentcode s ⊎ ((refusal : Refusal) × RefusedIdentcode s refusal)
  identcode_always_one = go (checked_identcode s) refl
    where
      go : (a : Result ⊤ Refusal) → checked_identcode s ≡ a → SoundIdentcode s ⊎ ((refusal : Refusal) × RefusedIdentcode s refusal)
      go (Ok _) e = inl (accepted_sound s e)
      go (Err refusal) e = inr (refusal, identcode_refused refusal e)

  pub identcode_never_both : (refusal : Refusal) → SoundIdentcode s → RefusedIdentcode s refusal → ⊥
  identcode_never_both refusal g r = no_pass verdict_on refl refl (sym (refused_identcode refusal r) ∙ sound_accepted s g)

pub identcode_refused_exactly : (s : List ℕ) (refusal : Refusal) → (checked_identcode s ≡ Err refusal) ↔ RefusedIdentcode s refusal
identcode_refused_exactly s refusal = (identcode_refused s refusal, refused_identcode s refusal)

-- the parts are refused as the code is
parts_refused : (a : Result ⊤ Refusal) (refusal : Refusal) → parts_where a ≡ Err refusal → a ≡ Err refusal
parts_refused (Ok _) refusal e = absurd (no_pass verdict_on refl refl (sym e))
parts_refused (Err other) refusal e = let same : other ≡ refusal = cc in ap Err same

pub parts_refused_exactly : (s : List ℕ) (refusal : Refusal) → (parts_answer s ≡ Err refusal) ↔ RefusedIdentcode s refusal
unfolding parts_answer
parts_refused_exactly s refusal = (
  λ e. identcode_refused s refusal (parts_refused (checked_identcode s) refusal e),
  λ g. ap parts_where (refused_identcode s refusal g),
)

-- issuing
module _ (body : List ℕ) (room : ℕ) where
  issue_refused : (refusal : Refusal) → issue_identcode_answer body room ≡ Err refusal → RefusedIdentcodeIssue body room refusal
  unfolding issue_identcode_answer room_for
  issue_refused refusal e =
      let wrong = wrong_in_identcode body in
      choice (not (eqb (length body) 21)) (Err (because WrongLength 0)) _ (Err refusal)
      (λ t q. is (because WrongLength 0) (RefusedIdentcodeIssue.wrong_length (eqb-false (length body) 21 (not-true (eqb (length body) 21) t))) q)
      (λ t. let n = eqb-true (length body) 21 (not-false (eqb (length body) 21) t) in
      choice (ltb wrong (length body)) (Err (because WrongSymbol wrong)) _ (Err refusal)
      (λ u q. is (because WrongSymbol wrong)
      (RefusedIdentcodeIssue.wrong_symbol wrong n (wrong_there allowed_in_identcode body (ltb-true wrong (length body) u))) q)
      (λ u. choice (ltb room 22) (Err (because OutputTooShort 0)) (Ok 22) (Err refusal)
      (λ v q. is (because OutputTooShort 0)
      (RefusedIdentcodeIssue.too_short n (shaped_all allowed_in_identcode body (ltb-false wrong (length body) u)) (ltb-true room 22 v)) q)
      (λ v q. absurd (no_pass verdict_on refl refl (sym q))))) e
    where
      is : (other : Refusal) → RefusedIdentcodeIssue body room other → ◌≡◌ {A = Result ℕ Refusal} (Err other) (Err refusal) → RefusedIdentcodeIssue body room refusal
      is other g e = let same : other ≡ refusal = cc in subst (RefusedIdentcodeIssue body room) same g

  refused_issue : (refusal : Refusal) → RefusedIdentcodeIssue body room refusal → issue_identcode_answer body room ≡ Err refusal
  unfolding issue_identcode_answer room_for
  refused_issue refusal (RefusedIdentcodeIssue.wrong_length n) = rw (ne_eqb (length body) 21 n)
  refused_issue refusal (RefusedIdentcodeIssue.wrong_symbol i n g) =
      rw (eq-eqb (length body) 21 n, there_wrong allowed_in_identcode body i g, lt-ltb i (length body) g.inside)
  refused_issue refusal (RefusedIdentcodeIssue.too_short n g p) =
      rw (eq-eqb (length body) 21 n, le-ltb (wrong_in_identcode body) (length body) (all_shaped allowed_in_identcode body g), lt-ltb room 22 p)

pub identcode_issue_refused_exactly : (body output : List ℕ) (refusal : Refusal) (after : List ℕ) →
    IssuesIdentcode body output (Err refusal) after ↔ (RefusedIdentcodeIssue body (length output) refusal × (after ≡ output))
unfolding issued_to
identcode_issue_refused_exactly body output refusal after = (
  λ p. (issue_refused body (length output) refusal (sym p.0), p.1),
  λ g. (sym (refused_issue body (length output) refusal g.0), g.1),
)
