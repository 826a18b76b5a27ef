-- Document 01, 'Payment purpose': when it is refused, said of the file's own lines. "Order: the file's refusals, 15, 13 (output under 35)."
use Rattle.std.specs.Prelude.{ℕ, ◌≤◌, ◌<◌, List, length}
use Rattle.refusal.specs.Table.{because}
use Rattle.refusal.specs.declared.Refusal.{Refusal}
use Rattle.refusal.specs.declared.Reason.TheVariants.{NotThere, OutputTooShort}
use Rattle.file.specs.Lent.{Lent}
use Rattle.purpose.specs.Purpose.{purpose_long}
use Rattle.allowed.specs.Allowed.{FileLine, AllowedFile}
use Rattle.allowed.specs.Sentence.{LineNo, CashLine}
use Rattle.refused.specs.File.{RefusedFile}

-- the purpose of the line with this number, with what is lent and an output of so many bytes
pub data RefusedPurpose (file : List ℕ) (n : ℕ) (lent : Lent) (room : ℕ) : Refusal → Type 0 where
  file_refused : (refusal : Refusal) → RefusedFile file lent refusal → RefusedPurpose file n lent room refusal
  -- 15: "no such field or line, or not a 006 line"
  not_there :
      (ls : List FileLine) → AllowedFile lent.countries file ls → length ls ≤ lent.words → ((l : FileLine) → LineNo ls n l → CashLine l → ⊥) →
      RefusedPurpose file n lent room (because NotThere 0)
  -- 13: "output under 35"
  too_short :
      (ls : List FileLine) (l : FileLine) → AllowedFile lent.countries file ls → length ls ≤ lent.words → LineNo ls n l → CashLine l → room < purpose_long →
      RefusedPurpose file n lent room (because OutputTooShort 0)
