-- The line that answers a file.
use Rattle.std.specs.Prelude.{ℕ, List, [], ◌∷◌, ◌++◌, codes, Result, Ok, Err}
use Rattle.streams.specs.Lines.{numbers}
use Rattle.refusal.specs.Table.{number_of}
use Rattle.refusal.specs.declared.Refusal.{Refusal}
use Rattle.file.specs.declared.whole.Totals.{Totals}
use Rattle.file.specs.File.{judged}
use Rattle.file.specs.Lent.{Lent}

-- `ok LINES PARCELS CENTS`
abbrev pub ok_line : Totals → List ℕ
ok_line totals = codes "ok" ++ numbers (totals.lines ∷ totals.parcels ∷ totals.cents ∷ [])

-- `no NUMBER PLACE`
abbrev pub no_line : Refusal → List ℕ
no_line refusal = codes "no" ++ numbers (number_of refusal.why ∷ refusal.place ∷ [])

abbrev pub line_of : Result Totals Refusal → List ℕ
line_of (Ok totals) = ok_line totals
line_of (Err refusal) = no_line refusal

-- what the program lends: 4,096 words, and no country
abbrev pub lent : Lent
lent = record { countries = []; words = 4096 }

-- the answer to a file
abbrev pub answer_to : List ℕ → List ℕ
answer_to file = line_of (judged file lent).answer
