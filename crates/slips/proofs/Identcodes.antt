-- Identcodes: accepted exactly when sound; their parts; issuing and checking are each other's inverse; no two differ in one digit, and
-- which neighbours may be swapped.
use Prim.Native.Nat.{ℕ, suc, ◌+◌, ◌-◌, ◌*◌, ◌%◌, ◌≤◌, ◌<◌}
use mathlib.Core.Path.{◌≡◌, refl, sym, ap, ◌∙◌}
use mathlib.Core.Bool.{true}
use mathlib.Core.List.{List, ◌∷◌, ◌++◌}
use mathlib.Core.Logic.{◌↔◌, ◌⊎◌, inl, inr, ⊎_elim}
use native.Mathlib.Omega.{arith}
use native.Mathlib.Nat.{zero-add}
use lib.Dec.{eqb}
use lib.ListN.{length, get_or, take, drop, length-append}
use lib.Seq.{split_at}
use borrow.Author.Tests.{eqb-true, eq-eqb, le-ltb}
use Rattle.text.specs.Byte.{digit}
use Rattle.text.specs.Scan.{all}
use Rattle.text.proofs.Choices.{and_left, and_right, and_both, clash}
use Rattle.text.proofs.Finite.{every_at, told_apart}
use Rattle.text.proofs.Numbers.{eq_or_ne, le_or_lt}
use Rattle.text.proofs.Bytes.{digit_range}
use Rattle.text.proofs.Runs.{all_append, all_apart}
use Rattle.text.proofs.Scans.{all_at, all_of}
use Rattle.check_characters.specs.Symbol.{value_of}
use Rattle.check_digits.specs.Identcode.{allowed_in_identcode, wrong_in_identcode, weight_at, weighed_from, weighed, check_digit_of}
use Rattle.check_digits.specs.Identcode.{passes, checked_identcode}
use Rattle.check_characters.proofs.Symbols.{value_digit}
use Rattle.check_digits.proofs.Identcodes.{weight_three, weight_one, weighed_append, passes_leaves, leaves_passes, accepted_whole}
use Rattle.slips.specs.Slips.{AgreeBut, swapped, FiveApart}
use Rattle.slips.specs.Exactly.{SoundIdentcode, Shaped, body_of}
use Rattle.slips.proofs.Shaping.{shaped_all, all_shaped}
use Rattle.slips.proofs.Places.{in_pieces, agree_there, pair_at}
use Rattle.std.specs.Prelude.{Ok}

pub accepted_sound : (s : List ℕ) → checked_identcode s ≡ Ok tt → SoundIdentcode s
unfolding passes
accepted_sound s e =
    let w = accepted_whole s e in
    let n : length s - 1 ≡ 21 = omega (arith, w.long) in
    record {
      long = w.long;
      shaped = shaped_all allowed_in_identcode s w.fine;
      closed = ap (λ (k : ℕ). get_or s k 0) (sym n) ∙ eqb-true (get_or s (length s - 1) 0) (check_digit_of (body_of s)) w.closed;
    }

module _ (s : List ℕ) (long : length s ≡ 22) (shaped : Shaped allowed_in_identcode s) where
  fine : length s ≤ wrong_in_identcode s
  fine = all_shaped allowed_in_identcode s shaped

  closed_passes : get_or s 21 0 ≡ check_digit_of (body_of s) → passes s ≡ true
  unfolding passes
  closed_passes e =
      let n : length s - 1 ≡ 21 = omega arith in
      eq-eqb (get_or s (length s - 1) 0) (check_digit_of (body_of s)) (ap (λ (k : ℕ). get_or s k 0) n ∙ e)

  passes_closed : passes s ≡ true → get_or s 21 0 ≡ check_digit_of (body_of s)
  unfolding passes
  passes_closed e =
      let n : length s - 1 ≡ 21 = omega arith in
      ap (λ (k : ℕ). get_or s k 0) (sym n) ∙ eqb-true (get_or s (length s - 1) 0) (check_digit_of (body_of s)) e

  -- a code is sound exactly when all its digits, weighed, leave 0
  pub leaves_sound : weighed s % 10 ≡ 0 → SoundIdentcode s
  leaves_sound e = record { long = long; shaped = shaped; closed = passes_closed (passes_leaves s long fine e) }

  pub closed_leaves : get_or s 21 0 ≡ check_digit_of (body_of s) → weighed s % 10 ≡ 0
  closed_leaves e =
      ⊎_elim (λ z. z) (λ n. clash (closed_passes e) (leaves_passes s long fine n)) (eq_or_ne (weighed s % 10) 0)

pub sound_accepted : (s : List ℕ) → SoundIdentcode s → checked_identcode s ≡ Ok tt
unfolding checked_identcode
sound_accepted s g =
    simp (
      eq-eqb (length s) 22 g.long,
      le-ltb (wrong_in_identcode s) (length s) (fine s g.long g.shaped),
      closed_passes s g.long g.shaped g.closed,
    )

pub sound_leaves : (s : List ℕ) → SoundIdentcode s → weighed s % 10 ≡ 0
sound_leaves s g = closed_leaves s g.long g.shaped g.closed

-- a code in pieces
abbrev rest : List ℕ → List ℕ → ℕ
rest p q = weighed_from (suc (length p)) q

weighed_pieces : (p : List ℕ) (a : ℕ) (q : List ℕ) → weighed (p ++ a ∷ q) ≡ weighed p + (weight_at (length p) * value_of a + rest p q)
weighed_pieces p a q = weighed_append 0 p (a ∷ q) ∙ rw zero-add

module _ (p : List ℕ) (a : ℕ) (q : List ℕ) (g : SoundIdentcode (p ++ a ∷ q)) where
  from_here : all digit (a ∷ q) ≡ true
  from_here = (all_apart digit p (a ∷ q) (all_of digit (p ++ a ∷ q) g.shaped)).1

  is_digit : digit a ≡ true
  is_digit = and_left (digit a) (all digit q) from_here

  pub value_of_lem : a ≡ 48 + value_of a
  value_of_lem = omega (arith, digit_range a is_digit, value_digit a (digit a) refl is_digit)

  pub value_small : value_of a < 10
  value_small = omega (arith, digit_range a is_digit, value_digit a (digit a) refl is_digit)

  leaves : (weighed p + rest p q + weight_at (length p) * value_of a) % 10 ≡ 0
  leaves = ap (λ (n : ℕ). n % 10) (omega (arith, weighed_pieces p a q)) ∙ sound_leaves (p ++ a ∷ q) g

-- what a common part adds does not matter
cancel : (c x y : ℕ) → (c + x) % 10 ≡ (c + y) % 10 → x % 10 ≡ y % 10
cancel c x y e = omega arith

-- a weight tells two digits apart
weight_tells : (i c x y : ℕ) → x < 10 → y < 10 → (c + weight_at i * x) % 10 ≡ 0 → (c + weight_at i * y) % 10 ≡ 0 → x ≡ y
weight_tells i c x y l m e f =
    ⊎_elim (λ z. told_apart 10 (λ v w. 3 * v % 10) (λ v w. 3 * w % 10) refl x y l m (rw (← weight_three i z) at same))
    (λ z. told_apart 10 (λ v w. 1 * v % 10) (λ v w. 1 * w % 10) refl x y l m (rw (← weight_one i z) at same)) (eq_or_ne (i % 2) 0)
  where
    same : weight_at i * x % 10 ≡ weight_at i * y % 10
    same = cancel c (weight_at i * x) (weight_at i * y) (e ∙ sym f)

-- two unlike digits that weigh alike in either order are five apart
twice_left : (x : ℕ) → x < 10 → 2 * x % 10 ≡ 2 * (x % 5)
twice_left x l = eqb-true (2 * x % 10) (2 * (x % 5)) (every_at 10 (λ v. eqb (2 * v % 10) (2 * (v % 5))) refl x l)

five_apart_of : (x y : ℕ) → x < 10 → y < 10 → (x ≡ y → ⊥) → x % 5 ≡ y % 5 → FiveApart x y
five_apart_of x y l m n e = ⊎_elim (λ k. inl (omega (arith, n))) (λ k. inr (omega arith)) (le_or_lt x y)

weigh_alike : (x y : ℕ) → x < 10 → y < 10 → (x ≡ y → ⊥) → (3 * x + y) % 10 ≡ (3 * y + x) % 10 → FiveApart x y
weigh_alike x y l m n e =
    let twice = cancel (x + y) (2 * x) (2 * y) (ap (λ (k : ℕ). k % 10) (omega arith) ∙ e ∙ ap (λ (k : ℕ). k % 10) (omega arith)) in
    five_apart_of x y l m n (omega (arith, twice, twice_left x l, twice_left y m))

-- no two sound codes differ in one digit
one_digit : (p : List ℕ) (a b : ℕ) (q : List ℕ) → SoundIdentcode (p ++ a ∷ q) → SoundIdentcode (p ++ b ∷ q) → a ≡ b
one_digit p a b q ga gb =
    let e = weight_tells (length p) (weighed p + rest p q) (value_of a) (value_of b) (value_small p a q ga) (value_small p b q gb)
    (leaves p a q ga) (leaves p b q gb) in
    omega (arith, value_of_lem p a q ga, value_of_lem p b q gb)

pub single_identcode : (s t : List ℕ) (i : ℕ) → SoundIdentcode s → SoundIdentcode t → AgreeBut i s t → s ≡ t
single_identcode s t i gs gt g =
    agree_there i s t g
    (λ l. one_digit (take i s) (get_or s i 0) (get_or t i 0) (drop (suc i) s) (rw (split_at s i 0 l) at gs) (rw (in_pieces i s t g l) at gt))

-- what two neighbours weigh, in either order: one of them thrice
module _ (p : List ℕ) (q : List ℕ) where
  abbrev others : ℕ
  others = weighed p + weighed_from (suc (suc (length p))) q

  pair_weighs : (a b : ℕ) →
      ((weighed (p ++ a ∷ b ∷ q) ≡ others + (3 * value_of a + value_of b)) × (weighed (p ++ b ∷ a ∷ q) ≡ others + (3 * value_of b + value_of a))) ⊎
      ((weighed (p ++ a ∷ b ∷ q) ≡ others + (3 * value_of b + value_of a)) × (weighed (p ++ b ∷ a ∷ q) ≡ others + (3 * value_of a + value_of b)))
  pair_weighs a b = ⊎_elim (λ z. inl (even z a b, even z b a)) (λ z. inr (odd z a b, odd z b a)) (eq_or_ne (length p % 2) 0)
    where
      even : length p % 2 ≡ 0 → (a b : ℕ) → weighed (p ++ a ∷ b ∷ q) ≡ others + (3 * value_of a + value_of b)
      even z a b = weighed_pieces p a (b ∷ q) ∙ rw (← weight_three (length p) z, ← weight_one (suc (length p)) (λ y. omega arith)) (omega arith)

      odd : (length p % 2 ≡ 0 → ⊥) → (a b : ℕ) → weighed (p ++ a ∷ b ∷ q) ≡ others + (3 * value_of b + value_of a)
      odd z a b = weighed_pieces p a (b ∷ q) ∙ rw (← weight_one (length p) z, ← weight_three (suc (length p)) (omega arith)) (omega arith)

-- swapped neighbours of a sound code
module _ (p : List ℕ) (a b : ℕ) (q : List ℕ) (n : a ≡ b → ⊥) (g : SoundIdentcode (p ++ a ∷ b ∷ q)) where
  abbrev x : ℕ
  x = value_of a

  abbrev y : ℕ
  y = value_of b

  pair_digits : (digit a ≡ true) × ((digit b ≡ true) × ((all digit p ≡ true) × (all digit q ≡ true)))
  pair_digits =
      let w = all_apart digit p (a ∷ b ∷ q) (all_of digit (p ++ a ∷ b ∷ q) g.shaped) in
      let r = and_right (digit a) (all digit (b ∷ q)) w.1 in
      (and_left (digit a) (all digit (b ∷ q)) w.1, (and_left (digit b) (all digit q) r, (w.0, and_right (digit b) (all digit q) r)))

  value_is : (c : ℕ) → digit c ≡ true → (c ≡ 48 + value_of c) × (value_of c < 10)
  value_is c d =
      let v = value_digit c (digit c) refl d in
      (omega (arith, digit_range c d), omega (arith, digit_range c d))

  swapped_long : length (p ++ b ∷ a ∷ q) ≡ 22
  swapped_long = simp length-append (simp length-append at g.long)

  swapped_shaped : Shaped allowed_in_identcode (p ++ b ∷ a ∷ q)
  swapped_shaped =
      let d = pair_digits in
      all_at digit (p ++ b ∷ a ∷ q)
      (all_append digit p (b ∷ a ∷ q) d.1.1.0
      (and_both (digit b) (all digit (a ∷ q)) d.1.0 (and_both (digit a) (all digit q) d.0 d.1.1.1)))

  unlike : x ≡ y → ⊥
  unlike e = n (omega (arith, (value_is a pair_digits.0).0, (value_is b pair_digits.1.0).0))

  five_apart : weighed (p ++ b ∷ a ∷ q) % 10 ≡ 0 → FiveApart x y
  five_apart e =
      let here = sound_leaves (p ++ a ∷ b ∷ q) g in
      let l = (value_is a pair_digits.0).1 in
      let m = (value_is b pair_digits.1.0).1 in
      ⊎_elim
      (λ w. weigh_alike x y l m unlike (cancel (others p q) (3 * x + y) (3 * y + x) (again here w.0 ∙ sym (again e w.1))))
      (λ w. weigh_alike x y l m unlike (sym (cancel (others p q) (3 * y + x) (3 * x + y) (again here w.0 ∙ sym (again e w.1)))))
      (pair_weighs p q a b)
    where
      again : {n k : ℕ} → n % 10 ≡ 0 → n ≡ k → k % 10 ≡ 0
      again e f = ap (λ (n : ℕ). n % 10) (sym f) ∙ e

  apart_leaves : FiveApart x y → weighed (p ++ b ∷ a ∷ q) % 10 ≡ 0
  apart_leaves f =
      let here = sound_leaves (p ++ a ∷ b ∷ q) g in
      ⊎_elim
      (λ w. ⊎_elim (λ k. omega arith) (λ k. omega arith) f)
      (λ w. ⊎_elim (λ k. omega arith) (λ k. omega arith) f)
      (pair_weighs p q a b)

pub swap_identcode : (s : List ℕ) (i : ℕ) → i + 1 < length s → (get_or s i 0 ≡ get_or s (i + 1) 0 → ⊥) → SoundIdentcode s →
    SoundIdentcode (swapped i s) ↔ FiveApart (value_of (get_or s i 0)) (value_of (get_or s (i + 1) 0))
swap_identcode s i h n g =
    let p = take i s in
    let a = get_or s i 0 in
    let b = get_or s (i + 1) 0 in
    let q = drop (i + 2) s in
    let gs = rw (pair_at i s h) at g in (
      λ gt. five_apart p a b q n gs (sound_leaves (p ++ b ∷ a ∷ q) gt),
      λ f. leaves_sound (p ++ b ∷ a ∷ q) (swapped_long p a b q n gs) (swapped_shaped p a b q n gs) (apart_leaves p a b q n gs f),
    )
