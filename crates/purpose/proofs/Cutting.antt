-- The first 35 bytes of a text written piece by piece: each piece as far as there is room for it.
use Prim.Native.Nat.{ℕ, zero, suc, ◌+◌, ◌-◌, ◌≤◌}
use mathlib.Core.Path.{◌≡◌, sym, ap, ◌∙◌}
use mathlib.Core.List.{List, [], ◌∷◌, ◌++◌}
use native.Mathlib.Nat.{sub-zero, zero-add}
use native.Mathlib.Omega.{arith}
use lib.ListN.{length, take, drop, length-append, length-take}
use lib.Seq.{take-nil, take-append_seam, drop-append-add, drop-drop}
use borrow.Author.Tests.{le-leb}
use Rattle.text.specs.Placed.{written, placed}
use Rattle.text.specs.Quoted.{bytes}
use Rattle.purpose.specs.At.{field_at}
use Rattle.purpose.specs.Purpose.{purpose_long, cut, source_text}
use Rattle.purpose.specs.declared.source.Source.{Source}
use Rattle.purpose.specs.declared.source.Source.TheVariants.{Field, Joined}

take_both : (n : ℕ) (a b : List ℕ) → take n (a ++ b) ≡ take n a ++ take (n - length a) b
take_both n [] b = rw (take-nil, sub-zero)
take_both zero (x ∷ a) b = let q : 0 - suc (length a) ≡ 0 = omega arith in rw q
take_both (suc n) (x ∷ a) b = let q : suc n - suc (length a) ≡ n - length a = omega arith in rw (q, take_both n a b)

-- what is cut of a text, and as much more of the next as there is room for, is what is cut of both
cut_more : (a b : List ℕ) → cut a ++ take (purpose_long - length (cut a)) b ≡ cut (a ++ b)
cut_more a b =
    let q : purpose_long - length (take purpose_long a) ≡ purpose_long - length a = omega (arith, length-take purpose_long a) in
    ap (λ (n : ℕ). take purpose_long a ++ take n b) q ∙ sym (take_both purpose_long a b)

-- two runs written side by side are one
written_twice : (out a b : List ℕ) → written (written out 0 a) (length a) b ≡ written out 0 (a ++ b)
written_twice out a b =
    let left = drop (0 + length a) out in
    let k : 0 + length a + length b ≡ 0 + length (a ++ b) = omega (arith, length-append a b) in
    let behind : drop (length a + length b) (a ++ left) ≡ drop (0 + length (a ++ b)) out =
    drop-append-add a left (length b) ∙ drop-drop (length b) (0 + length a) out ∙ ap (λ (n : ℕ). drop n out) k
    in
    rw (take-append_seam a left, behind)

-- one piece
module _ (src part : List ℕ) (at : ℕ) (low : at ≤ purpose_long) (e : part ≡ take (purpose_long - at) src) where
  pub piece_long : at + length part ≡ at + length (take (purpose_long - at) src)
  piece_long = rw e

  pub piece_fits : at + length part ≤ purpose_long
  piece_fits = omega (arith, ap length e, length-take (purpose_long - at) src)

  pub piece_there : (out : List ℕ) → purpose_long ≤ length out → (o : List ℕ) → o ≡ placed out at part → o ≡ written out at (take (purpose_long - at) src)
  unfolding placed
  piece_there out room o eo = eo ∙ rw (le-leb (at + length part) (length out) (omega (arith, piece_fits)), e)

-- a piece behind what is cut of the text a
module _ (a : List ℕ) (p : ℕ) (ep : p ≡ length (cut a)) (b : List ℕ) where
  more_long : (q : ℕ) → q ≡ p + length (take (purpose_long - p) b) → q ≡ length (cut (a ++ b))
  more_long q eq = eq ∙ rw ep (sym (length-append (cut a) (take (purpose_long - length (cut a)) b)) ∙ ap length (cut_more a b))

  more_there : (out o : List ℕ) → o ≡ written out 0 (cut a) → (o2 : List ℕ) → o2 ≡ written o p (take (purpose_long - p) b) →
      o2 ≡ written out 0 (cut (a ++ b))
  more_there out o eo o2 eo2 = eo2 ∙ rw (eo, ep) (written_twice out (cut a) (take (purpose_long - length (cut a)) b)
      ∙ ap (written out 0) (cut_more a b))

-- two texts with a slash between them, written in three pieces
module _ (a b : List ℕ) (p : ℕ) (ep : p ≡ 0 + length (take (purpose_long - 0) a)) (q : ℕ) (eq : q ≡ p + length (take (purpose_long - p) (bytes "/"))) where
  first : p ≡ length (cut a)
  first = ep ∙ zero-add (length (cut a))

  front : q ≡ length (cut (a ++ bytes "/"))
  front = more_long a p first (bytes "/") q eq

  pub joined_long : (r : ℕ) → r ≡ q + length (take (purpose_long - q) b) → r ≡ length (cut (a ++ bytes "/" ++ b))
  joined_long r er = more_long (a ++ bytes "/") q front b r er

  pub joined_there :
      (out o : List ℕ) → o ≡ written out 0 (take (purpose_long - 0) a) → (o2 : List ℕ) → o2 ≡ written o p (take (purpose_long - p) (bytes "/")) →
      (o3 : List ℕ) → o3 ≡ written o2 q (take (purpose_long - q) b) →
      o3 ≡ written out 0 (cut (a ++ bytes "/" ++ b))
  joined_there out o eo o2 eo2 o3 eo3 =
      more_there (a ++ bytes "/") q front b out o2 (more_there a p first (bytes "/") out o eo o2 eo2) o3 eo3

-- the text of a source
module _ (s : List ℕ) (source : Source) where
  module _ (at n : ℕ) (es : source ≡ Field at n) (f : List ℕ) (ef : f ≡ field_at s at n) where
    field_text : f ≡ source_text s source
    field_text = rw es ef

    pub field_long : (r : ℕ) → r ≡ 0 + length (take (purpose_long - 0) f) → r ≡ length (cut (source_text s source))
    field_long r er = er ∙ zero-add (length (cut f)) ∙ ap (λ (l : List ℕ). length (cut l)) field_text

    pub field_there : (out o : List ℕ) → o ≡ written out 0 (take (purpose_long - 0) f) → o ≡ written out 0 (cut (source_text s source))
    field_there out o eo = eo ∙ ap (λ (l : List ℕ). written out 0 (cut l)) field_text

  module _ (parcel shipment : ℕ) (es : source ≡ Joined parcel shipment) (a b : List ℕ) (ea : a ≡ field_at s parcel 1)
      (eb : b ≡ field_at s shipment 16) where
    both_text : a ++ bytes "/" ++ b ≡ source_text s source
    both_text = rw (es, ea, eb)

    pub both_long : (r : ℕ) → r ≡ length (cut (a ++ bytes "/" ++ b)) → r ≡ length (cut (source_text s source))
    both_long r er = er ∙ ap (λ (l : List ℕ). length (cut l)) both_text

    pub both_there : (out o : List ℕ) → o ≡ written out 0 (cut (a ++ bytes "/" ++ b)) → o ≡ written out 0 (cut (source_text s source))
    both_there out o eo = eo ∙ ap (λ (l : List ℕ). written out 0 (cut l)) both_text
