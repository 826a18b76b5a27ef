-- What a call tells a C caller of each answer: a number for it, and the values behind the pointers. A value that an answer does not
-- have is 0.
use Rattle.std.specs.Prelude.{ℕ, List, [], ◌∷◌, replicate, Result, Ok, Err}
use Rattle.check_characters.specs.declared.number.Kind.{Kind}
use Rattle.check_characters.specs.declared.number.Kind.TheVariants.{Tracking, Label}
use Rattle.check_digits.specs.declared.identcode.Parts.{Parts}
use Rattle.records.specs.declared.record.Record.{Record}
use Rattle.records.specs.declared.record.Record.TheVariants.{Header, Sender, Shipment, Parcel, Product, Feature}
use Rattle.line.specs.declared.read.Line.{Line}
use Rattle.line.specs.declared.find.Span.{Span}
use Rattle.file.specs.declared.whole.Totals.{Totals}
use Rattle.refusal.specs.declared.Refusal.{Refusal}

-- of a whole file: "number of lines, number of 040 lines, and the cash total in cents"
abbrev pub lines_told : Result Totals Refusal → ℕ
lines_told (Ok totals) = totals.lines
lines_told (Err refusal) = 0

abbrev pub parcels_told : Result Totals Refusal → ℕ
parcels_told (Ok totals) = totals.parcels
parcels_told (Err refusal) = 0

abbrev pub cents_told : Result Totals Refusal → ℕ
cents_told (Ok totals) = totals.cents
cents_told (Err refusal) = 0

-- "Record type as a number (10 for 010, up to 60)"
abbrev pub record_number : Record → ℕ
record_number Header = 10
record_number Sender = 20
record_number Shipment = 30
record_number Parcel = 40
record_number Product = 50
record_number Feature = 60

-- of one line: "the record kind, the field count and where the next line starts"
abbrev pub record_told : Result Line Refusal → ℕ
record_told (Ok line) = record_number line.kind
record_told (Err refusal) = 0

abbrev pub count_told : Result Line Refusal → ℕ
count_told (Ok line) = line.count
count_told (Err refusal) = 0

abbrev pub next_told : Result Line Refusal → ℕ
next_told (Ok line) = line.next
next_told (Err refusal) = 0

-- of one field: "start and length"
abbrev pub start_told : Result Span Refusal → ℕ
start_told (Ok span) = span.start
start_told (Err refusal) = 0

abbrev pub length_told : Result Span Refusal → ℕ
length_told (Ok span) = span.long
length_told (Err refusal) = 0

-- of what is written or issued, "how many bytes were written"; of a key, the carry after it; of a day's numbers, "the count of zeros"
abbrev pub value_told : Result ℕ Refusal → ℕ
value_told (Ok n) = n
value_told (Err refusal) = 0

-- of a number: "the length (15 or 28) telling the kind"
abbrev pub kind_number : Kind → ℕ
kind_number Tracking = 1
kind_number Label = 2

abbrev pub kind_told : Result Kind Refusal → ℕ
kind_told (Ok kind) = kind_number kind
kind_told (Err refusal) = 0

-- of an identcode: where each of its six parts starts, and how many digits it has, twelve numbers in the parts' order
abbrev pub as_numbers : Parts → List ℕ
as_numbers parts =
    parts.origin.start ∷ parts.origin.length ∷
    parts.customer.start ∷ parts.customer.length ∷
    parts.sequence.start ∷ parts.sequence.length ∷
    parts.product.start ∷ parts.product.length ∷
    parts.destination.start ∷ parts.destination.length ∷
    parts.check.start ∷ parts.check.length ∷ []

abbrev pub parts_told : Result Parts Refusal → List ℕ
parts_told (Ok parts) = as_numbers parts
parts_told (Err refusal) = replicate 12 0
