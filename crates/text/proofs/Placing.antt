-- A run written into an output: the copying loop, whether there is room, and runs written one behind the other.
use Prim.Native.Nat.{ℕ, ◌+◌, ◌≤◌, ◌<◌}
use mathlib.Core.Path.{◌≡◌, refl, sym, ◌∙◌}
use mathlib.Core.Bool.{Bool, true, false}
use mathlib.Core.List.{List, [], ◌++◌, append_assoc, append-nil}
use native.Mathlib.Nat.{add-zero}
use native.Mathlib.Omega.{arith}
use lib.Dec.{leb}
use native.Mathlib.Numerals.{add-one}
use lib.ListN.{length, set, take, drop, get_or, length-append, length-drop, take-append-drop}
use lib.Seq.{paste, paste-suc, take_all, take_at, drop_at, drop-drop, length-take-le}
use borrow.Author.Tests.{le-leb, leb-true}
use Rattle.std.specs.Prelude.{if◌then◌else◌}
use Rattle.text.specs.Placed.{written, placed}

-- the first i bytes of src are in: each premise is a fact that the loop has
module _ (out₀ : List ℕ) (at : ℕ) (src out : List ℕ) (i : ℕ) where
  pub copy_again : at + length src ≤ length out₀ → i < length src → out ≡ paste out₀ at src i →
      set out (at + i) (get_or src i 0) ≡ paste out₀ at src (i + 1)
  copy_again r l e = rw (add-one, e) (paste-suc out₀ at src i 0 (omega arith) l)

  pub copy_done : i ≤ length src → length src ≤ i → out ≡ paste out₀ at src i → out ≡ written out₀ at src
  copy_done h l e = let n : i ≡ length src = omega arith in e ∙ rw (take_all i src l, n)

-- what was placed, where it fits
module _ (out : List ℕ) (at : ℕ) (a : List ℕ) where
  pub placed_there : at + length a ≤ length out → placed out at a ≡ written out at a
  unfolding placed
  placed_there h = rw (le-leb (at + length a) (length out) h)

  pub placed_none : placed out at [] ≡ out
  unfolding placed
  placed_none = go (leb (at + 0) (length out))
    where
      go : (t : Bool) → (if t then written out at [] else out) ≡ out
      go true = rw (add-zero, append-nil) (take-append-drop at out)
      go false = refl

  pub placed_long : length (placed out at a) ≡ length out
  unfolding placed
  placed_long = go (leb (at + length a) (length out)) refl
    where
      go : (t : Bool) → leb (at + length a) (length out) ≡ t → length (if t then written out at a else out) ≡ length out
      go true e =
          let h = leb-true (at + length a) (length out) e in
          omega (
            arith,
            length-append (take at out ++ a) (drop (at + length a) out),
            length-append (take at out) a,
            length-take-le at out (omega arith),
            length-drop (at + length a) out,
          )
      go false e = refl

-- two pieces placed one behind the other are one
pub placed_on : (out : List ℕ) (at : ℕ) (a b : List ℕ) → at + length a + length b ≤ length out →
    placed (placed out at a) (at + length a) b ≡ placed out at (a ++ b)
placed_on out at a b h =
    let p : length (take at out ++ a) ≡ at + length a = omega (arith, length-append (take at out) a, length-take-le at out (omega arith)) in
    let n : at + length (a ++ b) ≡ at + length a + length b = omega (arith, length-append a b) in
    let t : take (at + length a) (take at out ++ a ++ drop (at + length a) out) ≡ take at out ++ a =
    take_at (take at out ++ a) (drop (at + length a) out) (at + length a) p in
    let d : drop (at + length a + length b) (take at out ++ a ++ drop (at + length a) out) ≡ drop (at + length a + length b) out =
    sym (drop-drop (length b) (at + length a) (take at out ++ a ++ drop (at + length a) out))
    ∙ rw (drop_at (take at out ++ a) (drop (at + length a) out) (at + length a) p) (drop-drop (length b) (at + length a) out)
    in
    placed_there (placed out at a) (at + length a) b (omega (arith, placed_long out at a))
    ∙ rw (placed_there out at a (omega arith), placed_there out at (a ++ b) (omega (arith, length-append a b)), t, d, n) (simp append_assoc)
