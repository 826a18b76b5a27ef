-- Document 02, request 6, 'A day's numbers at once': what the answer byte of a number means, when a day is answered, and when it is refused.
use Rattle.std.specs.Prelude.{ℕ, ◌*◌, ◌≤◌, ◌<◌, ◌≡◌, false, List, length, get_or, take}
use Rattle.refusal.specs.Table.{because}
use Rattle.refusal.specs.declared.Refusal.{Refusal}
use Rattle.refusal.specs.declared.Reason.TheVariants.{OutputTooShort, WrongLength}
use Rattle.check_characters.specs.Mod37.{passes}
use Rattle.check_characters.specs.Number.{allowed_in_number}
use Rattle.check_characters.specs.Day.{number_at, zeros}
use Rattle.check_characters.specs.declared.number.Kind.TheVariants.{Tracking}
use Rattle.slips.specs.Exactly.{Shaped, SoundNumber}
use Rattle.refused.specs.Number.{FirstWrong}

-- "an answer byte each: 0, 17 or 18"
pub data AnswerByte (number : List ℕ) : ℕ → Type 0 where
  -- it is a sound tracking number
  sound : SoundNumber Tracking number → AnswerByte number 0
  -- "symbol not allowed at its place"
  wrong_symbol : (i : ℕ) → FirstWrong (allowed_in_number Tracking) number i → AnswerByte number 17
  -- "check wrong"
  wrong_check : Shaped (allowed_in_number Tracking) number → passes number ≡ false → AnswerByte number 18

-- "One call answers for all of them": so many numbers of 15 bytes, each with its answer byte
pub record AnsweredDay (numbers answers : List ℕ) (passed : ℕ) (after : List ℕ) : Type 0 where
  pub many : ℕ
  pub whole : length numbers ≡ 15 * many
  pub room : many ≤ length answers
  pub each : (i : ℕ) → i < many → AnswerByte (number_at numbers i) (get_or after i 0)
  -- "Answer bytes past the last number stay."
  pub rest : (i : ℕ) → many ≤ i → get_or after i 0 ≡ get_or answers i 0
  pub as_long : length after ≡ length answers
  -- "the count of zeros"
  pub counted : passed ≡ zeros (take many after)

-- numbers that have so many answer bytes
pub data RefusedDay (numbers : List ℕ) (room : ℕ) : Refusal → Type 0 where
  -- "16 if the length is not a multiple of 15"
  wrong_length : ((many : ℕ) → length numbers ≡ 15 * many → ⊥) → RefusedDay numbers room (because WrongLength 0)
  -- "then 13 if there are fewer answer bytes than numbers"
  too_short : (many : ℕ) → length numbers ≡ 15 * many → room < many → RefusedDay numbers room (because OutputTooShort 0)
