-- Document 01, 'Payment purpose', over the file's own lines.
use Rattle.std.specs.Prelude.{ℕ, ◌≤◌, ◌≡◌, List, length, Result, Ok}
use Rattle.text.specs.Placed.{written}
use Rattle.file.specs.Lent.{Lent}
use Rattle.file.specs.File.{list_of}
use Rattle.allowed.specs.Allowed.{FileLine, AllowedFile, line_starts}
use Rattle.purpose.specs.Purpose.{purpose_long, cut, Purposes}
use Rattle.allowed.specs.Sentence.{LineNo, CashLine, Belongs, named_text}
use Rattle.refusal.specs.declared.Refusal.{Refusal}

-- Every 006 line of an allowed file belongs to a shipment, the nearest 030 above it, and to that shipment's first parcel.
abbrev pub PurposeHasShipment : Type 0
PurposeHasShipment =
    (countries file : List ℕ) (ls : List FileLine) → AllowedFile countries file ls → (n : ℕ) (l : FileLine) → LineNo ls n l → CashLine l →
    (shipment : FileLine) × (parcel : FileLine) × Belongs ls n shipment parcel

-- Its purpose is the text that the paper's sentence names, cut after joining; the list is the file's, every other output byte stays.
abbrev pub PurposeIsNamed : Type 0
PurposeIsNamed =
    (lent : Lent) (file : List ℕ) (ls : List FileLine) → AllowedFile lent.countries file ls → (n : ℕ) (l : FileLine) → LineNo ls n l →
    CashLine l → length ls ≤ lent.words → (output : List ℕ) → purpose_long ≤ length output →
    (answer : Result ℕ Refusal) (list after : List ℕ) → Purposes file n lent output answer list after →
    (shipment : FileLine) × (parcel : FileLine) × Belongs ls n shipment parcel
    × ((answer ≡ Ok (length (cut (named_text l shipment parcel)))) × (list ≡ list_of lent.words (line_starts 0 ls))
    × (after ≡ written output 0 (cut (named_text l shipment parcel))))
