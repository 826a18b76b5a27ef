-- A walk over symbols that stops at the first that may not stand at its place, and what it tells.
use Prim.Native.Nat.{ℕ, ◌+◌, ◌≤◌, ◌<◌}
use mathlib.Core.Path.{◌≡◌, refl, sym}
use mathlib.Core.Bool.{Bool, true, false}
use mathlib.Core.List.{List}
use lib.Dec.{ltb}
use lib.ListN.{length, get_or, drop}
use borrow.Author.Tests.{lt-ltb, le-ltb, ltb-false}
use Rattle.refusal.specs.declared.Reason.TheVariants.{WrongSymbol}
use Rattle.refusal.specs.declared.Refusal.{Refusal}
use Rattle.refusal.specs.Table.{because}
use Rattle.text.specs.Scan.{first_failing}
use Rattle.text.proofs.Choices.{came_then, came_else}
use Rattle.text.proofs.Scans.{walk_on, walk_stops, walk_ends}
use Rattle.check_characters.specs.Answer.{walked}
use Rattle.std.specs.Prelude.{Ok, Err}

module _ (allowed : ℕ → ℕ → Bool) (s : List ℕ) where
  -- a walk at the place i that has walked over what lies in front of it
  module _ (i : ℕ) (e : first_failing allowed i (drop i s) ≡ first_failing allowed 0 s) where
    pub walk_more : i < length s → allowed i (get_or s i 0) ≡ true → first_failing allowed (i + 1) (drop (i + 1) s) ≡ first_failing allowed 0 s
    walk_more h t = walk_on allowed s i (first_failing allowed 0 s) true h (sym t) refl e

    pub walk_refuses : {A : Type 0} (x : A) → i < length s → allowed i (get_or s i 0) ≡ false → walked allowed s x ≡ Err (because WrongSymbol i)
    unfolding walked
    walk_refuses x h f =
        let w : i ≡ first_failing allowed 0 s = walk_stops allowed s i (first_failing allowed 0 s) false h (sym f) refl e in
        simp (← w, lt-ltb i (length s))

    pub walk_passes : {A : Type 0} (x : A) → length s ≤ i → walked allowed s x ≡ Ok x
    unfolding walked
    walk_passes x h =
        let w : i ≡ first_failing allowed 0 s = walk_ends allowed s i (first_failing allowed 0 s) h e in
        simp (← w, le-ltb i (length s))

  -- what it told
  module _ {A : Type 0} (x : A) where
    pub walked_refused : (r : Refusal) → walked allowed s x ≡ Err r →
        (ltb (first_failing allowed 0 s) (length s) ≡ true) × (because WrongSymbol (first_failing allowed 0 s) ≡ r)
    unfolding walked
    walked_refused r e =
        let a = came_then (ltb (first_failing allowed 0 s) (length s)) (Err (because WrongSymbol (first_failing allowed 0 s))) (Ok x) (Err r) (λ f. cc) e in
        (a.0, cc)

    pub walked_whole : (y : A) → walked allowed s x ≡ Ok y → (length s ≤ first_failing allowed 0 s) × (y ≡ x)
    unfolding walked
    walked_whole y e =
        let a = came_else (ltb (first_failing allowed 0 s) (length s)) (Err (because WrongSymbol (first_failing allowed 0 s))) (Ok x) (Ok y) (λ f. cc) e in
        (ltb-false (first_failing allowed 0 s) (length s) a.0, cc)

pub ruleset walks = (walk_more, walk_refuses, walk_passes)
