-- The loops over the input: the steps of a number's digits, and where a number ends.
use Prim.Native.Nat.{ℕ, ◌+◌, ◌-◌, ◌*◌, ◌%◌, ◌≤◌, ◌<◌}
use mathlib.Core.Path.{◌≡◌, sym, ◌∙◌}
use mathlib.Core.Bool.{Bool, true, false, not}
use mathlib.Core.List.{List}
use native.Mathlib.Numerals.{add-one}
use native.Mathlib.Omega.{arith}
use lib.ListN.{length, drop, get_or, drop_of_length-le}
use lib.Seq.{drop-cons}
use borrow.Author.Tests.{not-true, not-false}
use Rattle.text.specs.Byte.{digit}
use Rattle.text.specs.Scan.{first_failing}
use Rattle.text.proofs.Scans.{walk_stops, walk_ends}
use Rattle.test_input.specs.Input.{value_from, behind, given}

-- v is written in front of the byte at the place i
module _ (s : List ℕ) (i v z : ℕ) where
  pub value_on :
      (t : Bool) (d : ℕ) → i < length s → t ≡ digit (get_or s i 0) → not t ≡ false → d ≡ get_or s i 0 - 48 →
      value_from v (drop i s) ≡ z → value_from ((10 * v + d) % 1000000) (drop (i + 1) s) ≡ z
  value_on t d h e q ed f =
      let g : digit (get_or s i 0) ≡ true = sym e ∙ not-false t q in
      rw (add-one, ed) (sym (rw (drop-cons s i 0 h, g)) ∙ f)

  value_stops : (t : Bool) → i < length s → t ≡ digit (get_or s i 0) → not t ≡ true → value_from v (drop i s) ≡ z → v ≡ z
  value_stops t h e q f = let g : digit (get_or s i 0) ≡ false = sym e ∙ not-true t q in sym (rw (drop-cons s i 0 h, g)) ∙ f

  value_ends : length s ≤ i → value_from v (drop i s) ≡ z → v ≡ z
  value_ends h f = sym (rw (drop_of_length-le s h)) ∙ f

-- a loop from start on that is at the place i
module _ (s : List ℕ) (start i : ℕ) where
  module _ (v : ℕ) (ev : value_from v (drop i s) ≡ value_from 0 (drop start s))
      (f : first_failing (λ _ b. digit b) i (drop i s) ≡ first_failing (λ _ b. digit b) start (drop start s)) where
    pub given_stops :
        (t : Bool) → i < length s → t ≡ digit (get_or s i 0) → not t ≡ true → record { value = v; next = i + 1 } ≡ given s start
    unfolding given
    given_stops t h e q =
        let w = walk_stops (λ _ b. digit b) s i (first_failing (λ _ b. digit b) start (drop start s)) t h e q f in
        let n : i + 1 ≡ behind s start = omega (arith, w) in
        let x = value_stops s i v (value_from 0 (drop start s)) t h e q ev in
        rw (← x, ← n)

    pub given_ends : length s ≤ i → record { value = v; next = length s } ≡ given s start
    unfolding given
    given_ends h =
        let w = walk_ends (λ _ b. digit b) s i (first_failing (λ _ b. digit b) start (drop start s)) h f in
        let n : length s ≡ behind s start = omega (arith, w) in
        let x = value_ends s i v (value_from 0 (drop start s)) h ev in
        rw (← x, ← n)
