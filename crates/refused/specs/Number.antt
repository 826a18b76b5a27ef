-- Document 01, 'Check characters': when a number is refused. "Checking a number or an IBAN refuses in the order 16, 17, 18." "Issuing
-- takes 14 or 27 symbols: 16, 17, then 13".
use Rattle.std.specs.Prelude.{ℕ, ◌+◌, ◌-◌, ◌%◌, ◌≤◌, ◌<◌, ◌≡◌, Bool, true, false, List, ◌⊎◌, length}
use Rattle.refusal.specs.Table.{because}
use Rattle.refusal.specs.declared.Refusal.{Refusal}
use Rattle.refusal.specs.declared.Reason.TheVariants.{OutputTooShort, WrongLength, WrongSymbol, WrongCheck}
use Rattle.check_characters.specs.Mod37.{passes}
use Rattle.check_characters.specs.Number.{length_of, allowed_in_number}
use Rattle.check_characters.specs.Iban.{iban_number, check_digits, barred, allowed_in_iban}
use Rattle.check_characters.specs.declared.number.Kind.{Kind}
use Rattle.slips.specs.Exactly.{symbol_at, Shaped}

-- "first such symbol": it is not allowed at its place, and each in front of it is
pub record FirstWrong (ok : ℕ → ℕ → Bool) (s : List ℕ) (i : ℕ) : Type 0 where
  pub inside : i < length s
  pub before : (j : ℕ) → j < i → ok j (symbol_at s j) ≡ true
  pub here : ok i (symbol_at s i) ≡ false

pub data RefusedNumber (s : List ℕ) : Refusal → Type 0 where
  -- 16: "wrong length of a number"
  wrong_length : ((kind : Kind) → length s ≡ length_of kind → ⊥) → RefusedNumber s (because WrongLength 0)
  -- 17: "symbol not allowed at its place", at "first such symbol"
  wrong_symbol :
      (kind : Kind) (i : ℕ) → length s ≡ length_of kind → FirstWrong (allowed_in_number kind) s i → RefusedNumber s (because WrongSymbol i)
  -- 18: "check wrong", at "last symbol"
  wrong_check :
      (kind : Kind) → length s ≡ length_of kind → Shaped (allowed_in_number kind) s → passes s ≡ false →
      RefusedNumber s (because WrongCheck (length s - 1))

pub data RefusedIban (s : List ℕ) : Refusal → Type 0 where
  -- 16: "15 to 34 long"
  wrong_length : (15 ≤ length s → length s ≤ 34 → ⊥) → RefusedIban s (because WrongLength 0)
  -- 17: "symbol not allowed at its place", at "first such symbol"
  wrong_symbol : (i : ℕ) → 15 ≤ length s → length s ≤ 34 → FirstWrong allowed_in_iban s i → RefusedIban s (because WrongSymbol i)
  -- 18, at "for an IBAN 2": "Check digits 00, 01 and 99 are 18", and so is a remainder by 97 that is not 1
  wrong_check :
      15 ≤ length s → length s ≤ 34 → Shaped allowed_in_iban s → (barred (check_digits s) ≡ true) ⊎ (iban_number s % 97 ≡ 1 → ⊥) →
      RefusedIban s (because WrongCheck 2)

-- a body whose check would be issued into an output of so many bytes
pub data RefusedIssue (body : List ℕ) (room : ℕ) : Refusal → Type 0 where
  -- 16: "wrong length of a number"
  wrong_length : ((kind : Kind) → length body + 1 ≡ length_of kind → ⊥) → RefusedIssue body room (because WrongLength 0)
  -- 17: "symbol not allowed at its place", at "first such symbol"
  wrong_symbol :
      (kind : Kind) (i : ℕ) → length body + 1 ≡ length_of kind → FirstWrong (allowed_in_number kind) body i →
      RefusedIssue body room (because WrongSymbol i)
  -- 13: "output too short"
  too_short :
      (kind : Kind) → length body + 1 ≡ length_of kind → Shaped (allowed_in_number kind) body → room < length_of kind →
      RefusedIssue body room (because OutputTooShort 0)
