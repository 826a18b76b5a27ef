-- A line's text taken apart at its semicolons and joined again: each is the other's inverse.
use Prim.Native.Nat.{ℕ}
use mathlib.Core.Path.{◌≡◌, refl, sym, ap, ◌∙◌}
use mathlib.Core.Bool.{Bool, true, false}
use mathlib.Core.List.{List, [], ◌∷◌, ◌++◌, append-nil}
use lib.ListN.{drop, get_or}
use borrow.Author.Tests.{eqb-true, not-true}
use Rattle.std.specs.Prelude.{if◌then◌else◌}
use Rattle.text.specs.Scan.{all}
use Rattle.text.proofs.Choices.{and_left, and_right, and_both}
use Rattle.line.specs.Parts.{semicolon, into_first, split, name_of, fields_of, in_field}
use Rattle.line.specs.Render.{joined, all_in}

-- there is always a first part
pub split_some : (line : List ℕ) → split line ≡ name_of line ∷ fields_of line
split_some [] = refl
split_some (b ∷ line) = go (semicolon b) (split_some line)
  where
    go : (t : Bool) → split line ≡ name_of line ∷ fields_of line →
        (if t then [] ∷ split line else into_first b (split line)) ≡ get_or (if t then [] ∷ split line else into_first b (split line)) 0 [] ∷
        drop 1 (if t then [] ∷ split line else into_first b (split line))
    go true h = refl
    go false h = rw h

-- the parts joined again
abbrev whole : List (List ℕ) → List ℕ
whole [] = []
whole (part ∷ parts) = part ++ joined parts

whole_into : (b : ℕ) (parts : List (List ℕ)) → whole (into_first b parts) ≡ b ∷ whole parts
whole_into b [] = refl
whole_into b (part ∷ parts) = refl

whole_split : (line : List ℕ) → whole (split line) ≡ line
whole_split [] = refl
whole_split (b ∷ line) = go (semicolon b) refl (whole_split line) (split_some line)
  where
    go : (t : Bool) → semicolon b ≡ t → whole (split line) ≡ line → split line ≡ name_of line ∷ fields_of line →
        whole (if t then [] ∷ split line else into_first b (split line)) ≡ b ∷ line
    go true e h k = rw (k, eqb-true b 59 e) (ap (λ (l : List ℕ). 59 ∷ l) (ap whole (sym k) ∙ h))
    go false e h k = whole_into b (split line) ∙ ap (λ (l : List ℕ). b ∷ l) h

pub join_split : (line : List ℕ) → name_of line ++ joined (fields_of line) ≡ line
join_split line = ap whole (sym (split_some line)) ∙ whole_split line

-- bytes without a semicolon go into the first part
pub split_front : (f line : List ℕ) → all in_field f ≡ true → split (f ++ line) ≡ (f ++ name_of line) ∷ fields_of line
split_front [] line e = split_some line
split_front (b ∷ f) line e =
    let h : semicolon b ≡ false = not-true (semicolon b) (and_left (in_field b) (all in_field f) e) in
    rw (h, split_front f line (and_right (in_field b) (all in_field f) e))

pub split_joined : (f : List ℕ) (fs : List (List ℕ)) → all in_field f ≡ true → all_in in_field fs ≡ true → split (f ++ joined fs) ≡ f ∷ fs
split_joined f [] e d = split_front f [] e ∙ rw append-nil
split_joined f (g ∷ fs) e d =
    split_front f (joined (g ∷ fs)) e
    ∙ rw (append-nil, split_joined g fs (and_left (all in_field g) (all_in in_field fs) d) (and_right (all in_field g) (all_in in_field fs) d))

-- the parts in front
pub all_in_front : (ok : ℕ → Bool) (xs ys : List (List ℕ)) → all_in ok (xs ++ ys) ≡ true → all_in ok xs ≡ true
all_in_front ok [] ys e = refl
all_in_front ok (x ∷ xs) ys e =
    and_both (all ok x) (all_in ok xs) (and_left (all ok x) (all_in ok (xs ++ ys)) e)
    (all_in_front ok xs ys (and_right (all ok x) (all_in ok (xs ++ ys)) e))
