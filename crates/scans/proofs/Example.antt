-- The examples that the scans and their counts open with, worked out, and every answer as it is printed.
use Rattle.std.proofs.Common.{◌≡◌, ℕ, List, [], ◌∷◌, ◌++◌, map, refl}
use Rattle.text.specs.Quoted.{bytes}
use Rattle.check_characters.specs.Symbol.{value_of}
use Rattle.check_characters.specs.Mod37.{step, passes}
use Rattle.check_characters.specs.Number.{shape_of, allowed_in_number, checked_as, checked_number}
use Rattle.scans.specs.Scans.{whole_lines, number_on, line_answer, printed}
use Rattle.scans.specs.Pieces.{rest_of}
use Rattle.scans.specs.Tallying.{with_answer, tallied, no_line}

abbrev example : List ℕ
example = bytes "09980000020041F" ++ (13 ∷ 10 ∷ []) ++ bytes "0998" ++ (10 ∷ []) ++ bytes "0998"

pub example_scans : (map line_answer (whole_lines example) ≡ 0 ∷ 16 ∷ []) × (rest_of example ≡ bytes "0998")
unfolding number_on line_answer value_of step passes shape_of allowed_in_number checked_as checked_number
example_scans = (refl, refl)

pub example_printed : printed (0 ∷ 16 ∷ 17 ∷ 18 ∷ []) ≡ bytes "0" ++ (10 ∷ bytes "16") ++ (10 ∷ bytes "17") ++ (10 ∷ bytes "18") ++ (10 ∷ [])
example_printed = refl

pub example_tally : tallied no_line (0 ∷ 16 ∷ 0 ∷ 18 ∷ []) ≡ record { lines = 4; passed = 2; length = 1; symbol = 0; check = 1 }
unfolding with_answer
example_tally = refl
