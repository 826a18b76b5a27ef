-- The ends of the fields: the loop that asks them, and what they tell of the text.
use Prim.Native.Nat.{ℕ, suc, ◌+◌, ◌-◌, ◌≤◌, ◌<◌}
use mathlib.Core.Path.{◌≡◌, refl, sym, ap, ◌∙◌}
use mathlib.Core.Bool.{Bool, true, false, ◌&&◌}
use mathlib.Core.List.{List, [], ◌∷◌}
use native.Mathlib.Numerals.{add-one}
use native.Mathlib.Omega.{arith}
use lib.Dec.{leb, eqb}
use lib.ListN.{length, take, drop, get_or, length-append, length-drop, drop_of_length-le}
use lib.Seq.{drop-cons, length-take-le}
use borrow.Author.Tests.{le-leb, lt-leb, leb-true, eqb-true}
use Rattle.text.proofs.Choices.{and_left, and_right}
use Rattle.line.specs.Render.{joined}
use Rattle.writer.specs.Write.{rises_to, fields_from, between}

-- a loop at the end with the number i, where the field in front ended at start: each premise is a fact that the loop has
module _ (long : ℕ) (ends : List ℕ) (i start : ℕ) (z : Bool) (left : rises_to long start (drop i ends) ≡ z) where
  pub ends_on : i < length ends → start ≤ get_or ends i 0 → rises_to long (get_or ends i 0) (drop (i + 1) ends) ≡ z
  ends_on h l = rw add-one (sym (rw (drop-cons ends i 0, le-leb start (get_or ends i 0))) ∙ left)

  pub ends_fall : i < length ends → get_or ends i 0 < start → false ≡ z
  ends_fall h l = sym (rw (drop-cons ends i 0, lt-leb start (get_or ends i 0))) ∙ left

  pub ends_end : length ends ≤ i → eqb start long ≡ z
  ends_end h = sym (rw (drop_of_length-le ends)) ∙ left

pub rises_le : (long start : ℕ) (ends : List ℕ) → rises_to long start ends ≡ true → start ≤ long
rises_le long start [] e = omega (arith, eqb-true start long e)
rises_le long start (end ∷ ends) e =
    let a = leb-true start end (and_left (leb start end) (rises_to long end ends) e) in
    omega (arith, a, rises_le long end ends (and_right (leb start end) (rises_to long end ends) e))

-- ends that hold from here on
module _ (long : ℕ) (ends : List ℕ) (i start : ℕ) (left : rises_to long start (drop i ends) ≡ true) (h : i < length ends) where
  here : (leb start (get_or ends i 0) && rises_to long (get_or ends i 0) (drop (i + 1) ends)) ≡ true
  here = rw add-one (sym (rw (drop-cons ends i 0)) ∙ left)

  pub end_rises : start ≤ get_or ends i 0
  end_rises = leb-true start (get_or ends i 0) (and_left (leb start (get_or ends i 0)) (rises_to long (get_or ends i 0) (drop (i + 1) ends)) here)

  pub rest_rises : rises_to long (get_or ends i 0) (drop (i + 1) ends) ≡ true
  rest_rises = and_right (leb start (get_or ends i 0)) (rises_to long (get_or ends i 0) (drop (i + 1) ends)) here

  pub end_inside : get_or ends i 0 ≤ long
  end_inside = rises_le long (get_or ends i 0) (drop (i + 1) ends) rest_rises

-- a field is as long as its ends say
pub field_long : (text : List ℕ) (start end : ℕ) → start ≤ end → end ≤ length text →
    length (take (end - start) (drop start text)) ≡ end - start
field_long text start end l h = length-take-le (end - start) (drop start text) (omega (arith, length-drop start text))

fields_count : (start : ℕ) (text ends : List ℕ) → length (fields_from start text ends) ≡ length ends
fields_count start text [] = refl
fields_count start text (end ∷ ends) = ap suc (fields_count end text ends)

pub between_count : (text ends : List ℕ) → length (between text ends) ≡ length ends
unfolding between
between_count text ends = fields_count 0 text ends

-- the fields behind their semicolons
pub joined_long : (start : ℕ) (text ends : List ℕ) → rises_to (length text) start ends ≡ true →
    start + length (joined (fields_from start text ends)) ≡ length text + length ends
joined_long start text [] e = omega (arith, eqb-true start (length text) e)
joined_long start text (end ∷ ends) e =
    let l = leb-true start end (and_left (leb start end) (rises_to (length text) end ends) e) in
    let r = and_right (leb start end) (rises_to (length text) end ends) e in
    let f = take (end - start) (drop start text) in
    let n = field_long text start end l (rises_le (length text) end ends r) in
    omega (arith, l, n, joined_long end text ends r, length-append f (joined (fields_from end text ends)))
