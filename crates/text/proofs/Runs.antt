-- The first byte that fails a test, for any test: where it lies, that it fails, and the run of bytes in front of it that pass.
use Prim.Native.Nat.{ℕ, zero, suc, ◌+◌, ◌-◌, ◌≤◌, ◌<◌}
use mathlib.Core.Path.{◌≡◌, refl, sym, ap, ◌∙◌}
use mathlib.Core.Bool.{Bool, true, false}
use mathlib.Core.List.{List, [], ◌∷◌, ◌++◌, append-nil}
use native.Mathlib.Omega.{arith}
use native.Mathlib.Nat.{add-zero, add-suc, suc-add}
use lib.ListN.{length, take, drop, get_or}
use lib.Seq.{take-append_seam, drop-append_seam}
use Rattle.std.specs.Prelude.{if◌then◌else◌}
use Rattle.text.specs.Scan.{first_failing, all}
use Rattle.text.proofs.Choices.{and_left, and_right, and_both}

-- a test of a byte and its place
module _ (ok : ℕ → ℕ → Bool) where
  pub first_least : (i : ℕ) (s : List ℕ) → i ≤ first_failing ok i s
  first_least i [] = omega arith
  first_least i (b ∷ s) = go (ok i b) (first_least (suc i) s)
    where
      go : (t : Bool) → suc i ≤ first_failing ok (suc i) s → i ≤ (if t then first_failing ok (suc i) s else i)
      go true h = omega arith
      go false h = omega arith

  pub first_most : (i : ℕ) (s : List ℕ) → first_failing ok i s ≤ i + length s
  first_most i [] = omega arith
  first_most i (b ∷ s) = go (ok i b) (first_most (suc i) s)
    where
      go : (t : Bool) → first_failing ok (suc i) s ≤ suc i + length s → (if t then first_failing ok (suc i) s else i) ≤ i + suc (length s)
      go true h = omega arith
      go false h = omega arith

  pub first_fails : (i : ℕ) (s : List ℕ) → first_failing ok i s < i + length s →
      ok (first_failing ok i s) (get_or s (first_failing ok i s - i) 0) ≡ false
  first_fails i [] h = absurd (omega arith)
  first_fails i (b ∷ s) h = go (ok i b) refl h (λ l. first_fails (suc i) s l)
    where
      go : (t : Bool) → ok i b ≡ t → (if t then first_failing ok (suc i) s else i) < i + suc (length s) →
          (first_failing ok (suc i) s < suc i + length s →
          ok (first_failing ok (suc i) s) (get_or s (first_failing ok (suc i) s - suc i) 0) ≡ false) →
          ok (if t then first_failing ok (suc i) s else i) (get_or (b ∷ s) ((if t then first_failing ok (suc i) s else i) - i) 0) ≡ false
      go true e l on =
          let f = first_failing ok (suc i) s in
          let k : f - i ≡ suc (f - suc i) = omega (arith, first_least (suc i) s) in
          rw k (on (omega arith))
      go false e l on = let k : i - i ≡ 0 = omega arith in rw k e

  -- what stands in front of the first that fails passes
  pub first_before : (i : ℕ) (s : List ℕ) (j : ℕ) → i + j < first_failing ok i s → ok (i + j) (get_or s j 0) ≡ true
  first_before i [] j h = absurd (omega arith)
  first_before i (b ∷ s) j h = go (ok i b) refl j h (λ k l. first_before (suc i) s k l)
    where
      go : (t : Bool) → ok i b ≡ t → (j : ℕ) → i + j < (if t then first_failing ok (suc i) s else i) →
          ((k : ℕ) → suc i + k < first_failing ok (suc i) s → ok (suc i + k) (get_or s k 0) ≡ true) → ok (i + j) (get_or (b ∷ s) j 0) ≡ true
      go false e j h on = absurd (omega arith)
      go true e zero h on = rw add-zero e
      go true e (suc j) h on = rw (add-suc i j, ← suc-add i j) (on j (omega arith))

-- a test that does not ask for the place
module _ (ok : ℕ → Bool) where
  pub first_shift : (i : ℕ) (s : List ℕ) → first_failing (λ _ b. ok b) i s ≡ i + first_failing (λ _ b. ok b) 0 s
  first_shift i [] = sym (add-zero i)
  first_shift i (b ∷ s) = go (ok b) (first_shift (suc i) s) (first_shift 1 s)
    where
      go :
          (t : Bool) → first_failing (λ _ b. ok b) (suc i) s ≡ suc i + first_failing (λ _ b. ok b) 0 s →
          first_failing (λ _ b. ok b) 1 s ≡ 1 + first_failing (λ _ b. ok b) 0 s →
          (if t then first_failing (λ _ b. ok b) (suc i) s else i) ≡ i + (if t then first_failing (λ _ b. ok b) 1 s else 0)
      go true e f = omega arith
      go false e f = sym (add-zero i)

  pub all_append : (f g : List ℕ) → all ok f ≡ true → all ok g ≡ true → all ok (f ++ g) ≡ true
  all_append [] g e d = d
  all_append (b ∷ f) g e d =
      and_both (ok b) (all ok (f ++ g)) (and_left (ok b) (all ok f) e) (all_append f g (and_right (ok b) (all ok f) e) d)

  pub all_apart : (f g : List ℕ) → all ok (f ++ g) ≡ true → (all ok f ≡ true) × (all ok g ≡ true)
  all_apart [] g e = (refl, e)
  all_apart (b ∷ f) g e =
      let r = all_apart f g (and_right (ok b) (all ok (f ++ g)) e) in
      (and_both (ok b) (all ok f) (and_left (ok b) (all ok (f ++ g)) e) r.0, r.1)

  pub run_past : (i : ℕ) (f : List ℕ) (x : ℕ) (rest : List ℕ) → all ok f ≡ true → ok x ≡ false →
      first_failing (λ _ b. ok b) i (f ++ x ∷ rest) ≡ i + length f
  run_past i [] x rest e d = rw d (sym (add-zero i))
  run_past i (b ∷ f) x rest e d =
      let h : ok b ≡ true = and_left (ok b) (all ok f) e in
      rw h (omega (arith, run_past (suc i) f x rest (and_right (ok b) (all ok f) e) d))

  -- two runs, each in front of a byte that fails the test, are one
  pub run_once : (f g : List ℕ) (x y : ℕ) (r q : List ℕ) → all ok f ≡ true → all ok g ≡ true → ok x ≡ false → ok y ≡ false →
      f ++ x ∷ r ≡ g ++ y ∷ q → (f ≡ g) × (x ∷ r ≡ y ∷ q)
  run_once f g x y r q e d c b h =
      let n : length f ≡ length g =
      omega (arith, sym (run_past 0 f x r e c) ∙ ap (λ (l : List ℕ). first_failing (λ _ b. ok b) 0 l) h ∙ run_past 0 g y q d b)
      in (
        sym (take-append_seam f (x ∷ r)) ∙ ap (λ (l : List ℕ). take (length f) l) h
            ∙ rw n (take-append_seam g (y ∷ q)),
        sym (drop-append_seam f (x ∷ r)) ∙ ap (λ (l : List ℕ). drop (length f) l) h
            ∙ rw n (drop-append_seam g (y ∷ q)),
      )

-- the run of bytes that pass a test, in front of the first that fails it
pub record Run (ok : ℕ → Bool) (i : ℕ) (s : List ℕ) : Type 0 where
  pub long : ℕ
  pub ends : first_failing (λ _ b. ok b) i s ≡ i + long
  pub passes : all ok (take long s) ≡ true

pub run : (ok : ℕ → Bool) (i : ℕ) (s : List ℕ) → Run ok i s
run ok i [] = record { long = 0; ends = sym (add-zero i); passes = refl }
run ok i (b ∷ s) = go (ok b) refl (run ok (suc i) s)
  where
    go : (t : Bool) → ok b ≡ t → Run ok (suc i) s → Run ok i (b ∷ s)
    go true e r = record { long = suc r.long; ends = rw e (omega (arith, r.ends)); passes = rw e r.passes }
    go false e r = record { long = 0; ends = rw e (sym (add-zero i)); passes = refl }

-- the run of bytes that pass a test, and what stands behind it: nothing, or a byte that fails
abbrev pub Fails : (ℕ → Bool) → List ℕ → Type 0
Fails ok [] = Unit {0}
Fails ok (b ∷ s) = ok b ≡ false

pub record Front (ok : ℕ → Bool) (i : ℕ) (s : List ℕ) : Type 0 where
  pub run : List ℕ
  pub behind : List ℕ
  pub whole : s ≡ run ++ behind
  pub passes : all ok run ≡ true
  pub fails : Fails ok behind
  pub ends : first_failing (λ _ b. ok b) i s ≡ i + length run

pub front : (ok : ℕ → Bool) (i : ℕ) (s : List ℕ) → Front ok i s
front ok i [] = record { run = []; behind = []; whole = refl; passes = refl; fails = tt; ends = sym (add-zero i) }
front ok i (b ∷ s) = go (ok b) refl (front ok (suc i) s)
  where
    go : (t : Bool) → ok b ≡ t → Front ok (suc i) s → Front ok i (b ∷ s)
    go true e r =
        record {
          run = b ∷ r.run;
          behind = r.behind;
          whole = ap (λ (l : List ℕ). b ∷ l) r.whole;
          passes = and_both (ok b) (all ok r.run) e r.passes;
          fails = r.fails;
          ends = rw e (omega (arith, r.ends));
        }
    go false e r = record { run = []; behind = b ∷ s; whole = refl; passes = refl; fails = e; ends = rw e (sym (add-zero i)) }

run_all : (ok : ℕ → Bool) (i : ℕ) (f : List ℕ) → all ok f ≡ true → first_failing (λ _ b. ok b) i f ≡ i + length f
run_all ok i [] e = sym (add-zero i)
run_all ok i (b ∷ f) e =
    let h : ok b ≡ true = and_left (ok b) (all ok f) e in
    rw h (omega (arith, run_all ok (suc i) f (and_right (ok b) (all ok f) e)))

pub run_to : (ok : ℕ → Bool) (i : ℕ) (f behind : List ℕ) → all ok f ≡ true → Fails ok behind →
    first_failing (λ _ b. ok b) i (f ++ behind) ≡ i + length f
run_to ok i f [] e d = ap (λ (l : List ℕ). first_failing (λ _ b. ok b) i l) (append-nil f) ∙ run_all ok i f e
run_to ok i f (b ∷ behind) e d = run_past ok i f b behind e d
