-- Tests and choices taken apart, for any answer.
use Prim.Native.Nat.{ℕ}
use mathlib.Core.Path.{◌≡◌, refl, sym, ◌∙◌}
use mathlib.Core.Bool.{Bool, true, false, not, ◌&&◌, ◌||◌, true≢false, false≢true}
use mathlib.Core.Logic.{◌⊎◌, inl, inr}
use lib.Dec.{eqb}
use borrow.Author.Tests.{eq-eqb, ne_eqb, not-true, not-false}
use Rattle.std.specs.Prelude.{if◌then◌else◌}

pub and_left : (a b : Bool) → (a && b) ≡ true → a ≡ true
and_left true b e = refl
and_left false b e = e

pub and_right : (a b : Bool) → (a && b) ≡ true → b ≡ true
and_right true b e = e
and_right false b e = absurd (false≢true e)

pub and_both : (a b : Bool) → a ≡ true → b ≡ true → (a && b) ≡ true
and_both true b p q = q
and_both false b p q = p

pub or_cases : (a b : Bool) → (a || b) ≡ true → (a ≡ true) ⊎ (b ≡ true)
or_cases true b e = inl refl
or_cases false b e = inr e

pub or_neither : (a b : Bool) → (a || b) ≡ false → (a ≡ false) × (b ≡ false)
or_neither true b e = absurd (true≢false e)
or_neither false b e = (refl, e)

pub true_or_false : (t : Bool) → (t ≡ true) ⊎ (t ≡ false)
true_or_false true = inl refl
true_or_false false = inr refl

pub clash : {A : Type 0} {t : Bool} → t ≡ true → t ≡ false → A
clash p q = absurd (true≢false (rw p at q))

-- a choice came out as c, which one of its two arms can not be
module _ {A : Type 0} (t : Bool) (a b c : A) where
  pub came_then : (b ≡ c → ⊥) → (if t then a else b) ≡ c → (t ≡ true) × (a ≡ c)
  came_then n = go t
    where
      go : (t : Bool) → (if t then a else b) ≡ c → (t ≡ true) × (a ≡ c)
      go true e = (refl, e)
      go false e = absurd (n e)

  pub came_else : (a ≡ c → ⊥) → (if t then a else b) ≡ c → (t ≡ false) × (b ≡ c)
  came_else n = go t
    where
      go : (t : Bool) → (if t then a else b) ≡ c → (t ≡ false) × (b ≡ c)
      go true e = absurd (n e)
      go false e = (refl, e)

-- a choice came out as c, by one arm or by the other
pub choice : {A R : Type 0} (t : Bool) (a b c : A) → (t ≡ true → a ≡ c → R) → (t ≡ false → b ≡ c → R) → (if t then a else b) ≡ c → R
choice true a b c then-arm else_arm e = then-arm refl e
choice false a b c then-arm else_arm e = else_arm refl e

-- tests joined, as a row of early returns meets them: the first fails, or it holds and u is the answer of the rest
module _ (c : Bool) where
  pub test_fails : (t a : Bool) → t ≡ a → not t ≡ true → false ≡ (a && c)
  test_fails t a e q = let g : a ≡ false = sym e ∙ not-true t q in simp g

  pub test_holds : (u t a : Bool) → t ≡ a → not t ≡ false → u ≡ c → u ≡ (a && c)
  test_holds u t a e q f = let g : a ≡ true = sym e ∙ not-false t q in simp g f

pub test_held : (t a : Bool) → t ≡ a → not t ≡ false → a ≡ true
test_held t a e q = sym e ∙ not-false t q

-- a choice, as the code that makes it meets it: the test t or the comparison of two numbers, and x the answer of the arm taken
module _ {A : Type 0} (x a b : A) where
  module _ (t c : Bool) (e : t ≡ c) where
    pub takes_then : t ≡ true → x ≡ a → x ≡ (if c then a else b)
    takes_then q f = let g : c ≡ true = sym e ∙ q in rw g f

    pub takes_else : t ≡ false → x ≡ b → x ≡ (if c then a else b)
    takes_else q f = let g : c ≡ false = sym e ∙ q in rw g f

-- tests joined by or, as a row of early returns meets them: the first holds, or it fails and u is the answer of the rest
module _ (c : Bool) where
  pub or_next : (u t a : Bool) → t ≡ a → t ≡ false → u ≡ c → u ≡ (a || c)
  or_next u t a e q f = let g : a ≡ false = sym e ∙ q in simp g f
