-- Document 02, request 2: when an identcode is refused. "alone 16, 17, 18 as for DPD numbers, 18 at the last digit; issuing 16, 17, 13".
use Rattle.std.specs.Prelude.{ℕ, ◌<◌, ◌≡◌, List, length}
use Rattle.refusal.specs.Table.{because}
use Rattle.refusal.specs.declared.Refusal.{Refusal}
use Rattle.refusal.specs.declared.Reason.TheVariants.{OutputTooShort, WrongLength, WrongSymbol, WrongCheck}
use Rattle.check_digits.specs.Identcode.{allowed_in_identcode, check_digit_of}
use Rattle.slips.specs.Exactly.{symbol_at, Shaped, body_of}
use Rattle.refused.specs.Number.{FirstWrong}

-- a code that is checked, or read as its parts
pub data RefusedIdentcode (s : List ℕ) : Refusal → Type 0 where
  -- 16: "wrong length of a number"
  wrong_length : (length s ≡ 22 → ⊥) → RefusedIdentcode s (because WrongLength 0)
  -- 17: "symbol not allowed at its place", at "first such symbol"
  wrong_symbol : (i : ℕ) → length s ≡ 22 → FirstWrong allowed_in_identcode s i → RefusedIdentcode s (because WrongSymbol i)
  -- 18: "check wrong", at "the last digit"
  wrong_check :
      length s ≡ 22 → Shaped allowed_in_identcode s → (symbol_at s 21 ≡ check_digit_of (body_of s) → ⊥) → RefusedIdentcode s (because WrongCheck 21)

-- 21 digits whose check would be issued into an output of so many bytes
pub data RefusedIdentcodeIssue (body : List ℕ) (room : ℕ) : Refusal → Type 0 where
  -- 16: "wrong length of a number"
  wrong_length : (length body ≡ 21 → ⊥) → RefusedIdentcodeIssue body room (because WrongLength 0)
  -- 17: "symbol not allowed at its place", at "first such symbol"
  wrong_symbol :
      (i : ℕ) → length body ≡ 21 → FirstWrong allowed_in_identcode body i → RefusedIdentcodeIssue body room (because WrongSymbol i)
  -- 13: "output too short"
  too_short : length body ≡ 21 → Shaped allowed_in_identcode body → room < 22 → RefusedIdentcodeIssue body room (because OutputTooShort 0)
