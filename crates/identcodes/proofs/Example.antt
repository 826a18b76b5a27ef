-- The example that the crate opens with, worked out.
use Prim.Native.Nat.{ℕ}
use mathlib.Core.Path.{◌≡◌, refl}
use mathlib.Core.List.{List, ◌∷◌}
use lib.ListN.{take, replicate}
use Rattle.identcodes.specs.declared.CodeAnswer.TheVariants.{Known, New, NoRoom}
use Rattle.identcodes.specs.Tree.{example, fork, digit_of, byte_of, pair_of, unlike_at, parted, is_there, grown, has_room, code_answer}
use Rattle.identcodes.specs.Tree.{tree_after}

-- a row of seven words behind each of the three lines
abbrev one : List ℕ
one = tree_after example (replicate 7 0) 0 0

abbrev two : List ℕ
two = tree_after example one 1 30

abbrev three : List ℕ
three = tree_after example two 2 60

pub example_grows : (one ≡ 0 ∷ replicate 6 0) × (two ≡ 338755585 ∷ 0 ∷ 30 ∷ replicate 4 0)
    × (three ≡ 338755585 ∷ 3276803 ∷ 30 ∷ 0 ∷ 60 ∷ replicate 2 0)
unfolding fork digit_of byte_of pair_of unlike_at parted is_there grown has_room tree_after
example_grows = (refl, refl, refl)

-- the third line is new; then the second is known, and in five words there is no room for a fourth
pub example_answers : (code_answer example two 2 60 ≡ New) × (code_answer example three 3 30 ≡ Known)
    × (code_answer example (take 5 three) 3 30 ≡ NoRoom)
unfolding fork digit_of byte_of pair_of unlike_at parted is_there grown has_room code_answer tree_after
example_answers = (refl, refl, refl)
