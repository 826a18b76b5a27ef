-- A loop over a run that asks a test of each byte, for any test: the steps of the loop, and what the whole tells of each byte.
use Prim.Native.Nat.{ℕ, zero, suc, ◌+◌, ◌≤◌, ◌<◌}
use mathlib.Core.Path.{◌≡◌, refl, sym, ap, ◌∙◌}
use mathlib.Core.Bool.{Bool, true, false, not, ◌&&◌, false≢true}
use mathlib.Core.Logic.{⊎_elim}
use mathlib.Core.List.{List, [], ◌∷◌}
use native.Mathlib.Nat.{add-zero, add-suc, suc-add, not-suc-le-zero, le_of_suc-le-suc}
use native.Mathlib.Numerals.{add-one}
use native.Mathlib.Omega.{arith}
use lib.ListN.{length, drop, get_or, drop_of_length-le}
use lib.Seq.{drop-cons}
use lib.Dec.{eqb}
use borrow.Author.Tests.{not-true, not-false, eq-eqb, eqb-true}
use Rattle.std.specs.Prelude.{cond, count_by, zip, if◌then◌else◌}
use Rattle.std.specs.List.{list_all}
use Rattle.std.proofs.lemmas.List.Sums.{sum_by-cons}
use Rattle.text.specs.Scan.{first_failing, all, count, paired, same}
use Rattle.text.proofs.Choices.{and_left, and_right, and_both, true_or_false}

-- a loop at the place i that has walked over what lies in front of it: each premise is a fact that the loop has
module _ (ok : ℕ → ℕ → Bool) (s : List ℕ) (i z : ℕ) where
  pub walk_on : (t : Bool) → i < length s → t ≡ ok i (get_or s i 0) → not t ≡ false → first_failing ok i (drop i s) ≡ z →
      first_failing ok (i + 1) (drop (i + 1) s) ≡ z
  walk_on t h e q f = let g : ok i (get_or s i 0) ≡ true = sym e ∙ not-false t q in rw add-one (sym (rw (drop-cons s i 0, g)) ∙ f)

  pub walk_stops : (t : Bool) → i < length s → t ≡ ok i (get_or s i 0) → not t ≡ true → first_failing ok i (drop i s) ≡ z → i ≡ z
  walk_stops t h e q f = let g : ok i (get_or s i 0) ≡ false = sym e ∙ not-true t q in sym (rw (drop-cons s i 0, g)) ∙ f

  pub walk_ends : length s ≤ i → first_failing ok i (drop i s) ≡ z → i ≡ z
  walk_ends h f = sym (rw (drop_of_length-le s)) ∙ f

-- where the walk passes over every byte, each passes the test, and the other way round
module _ (ok : ℕ → ℕ → Bool) where
  pub none_fails : (i : ℕ) (s : List ℕ) → i + length s ≤ first_failing ok i s → (j : ℕ) → j < length s → ok (i + j) (get_or s j 0) ≡ true
  none_fails i [] h j l = absurd (not-suc-le-zero l)
  none_fails i (b ∷ s) h zero l = rw add-zero (go (ok i b) refl h)
    where
      go : (t : Bool) → ok i b ≡ t → i + suc (length s) ≤ (if t then first_failing ok (suc i) s else i) → ok i b ≡ true
      go true e h = e
      go false e h = absurd (omega arith)
  none_fails i (b ∷ s) h (suc j) l = rw (add-suc i j, ← suc-add i j) (none_fails (suc i) s (go (ok i b) h) j (le_of_suc-le-suc l))
    where
      go : (t : Bool) → i + suc (length s) ≤ (if t then first_failing ok (suc i) s else i) → suc i + length s ≤ first_failing ok (suc i) s
      go true h = omega arith
      go false h = absurd (omega arith)

  pub all_pass : (i : ℕ) (s : List ℕ) → ((j : ℕ) → j < length s → ok (i + j) (get_or s j 0) ≡ true) → i + length s ≤ first_failing ok i s
  all_pass i [] p = omega arith
  all_pass i (b ∷ s) p =
      let here : ok i b ≡ true = rw add-zero at (p 0 (omega arith)) in
      rw here (omega (arith, all_pass (suc i) s (λ j l. rw (suc-add i j, ← add-suc i j) (p (suc j) (omega arith)))))

-- whether all pass
module _ (ok : ℕ → Bool) (s : List ℕ) (i : ℕ) (z : Bool) where
  pub all_on : (t : Bool) → i < length s → t ≡ ok (get_or s i 0) → not t ≡ false → all ok (drop i s) ≡ z → all ok (drop (i + 1) s) ≡ z
  all_on t h e q f = let g : ok (get_or s i 0) ≡ true = sym e ∙ not-false t q in rw add-one (sym (rw (drop-cons s i 0, g)) ∙ f)

  pub all_stops : (t : Bool) → i < length s → t ≡ ok (get_or s i 0) → not t ≡ true → all ok (drop i s) ≡ z → false ≡ z
  all_stops t h e q f = let g : ok (get_or s i 0) ≡ false = sym e ∙ not-true t q in sym (rw (drop-cons s i 0, g)) ∙ f

  pub all_ends : length s ≤ i → all ok (drop i s) ≡ z → true ≡ z
  all_ends h f = sym (rw (drop_of_length-le s)) ∙ f

module _ (ok : ℕ → Bool) where
  pub all_at : (s : List ℕ) → all ok s ≡ true → (j : ℕ) → j < length s → ok (get_or s j 0) ≡ true
  all_at [] e j l = absurd (not-suc-le-zero l)
  all_at (b ∷ s) e zero l = and_left (ok b) (all ok s) e
  all_at (b ∷ s) e (suc j) l = all_at s (and_right (ok b) (all ok s) e) j (le_of_suc-le-suc l)

  pub all_of : (s : List ℕ) → ((j : ℕ) → j < length s → ok (get_or s j 0) ≡ true) → all ok s ≡ true
  all_of [] p = refl
  all_of (b ∷ s) p = and_both (ok b) (all ok s) (p 0 (omega arith)) (all_of s (λ j l. p (suc j) (omega arith)))

-- how many pass: n of those in front, and d of the byte here
module _ (ok : ℕ → Bool) (s : List ℕ) (i n z : ℕ) where
  pub count_on :
      (d : ℕ) → i < length s → d ≡ (if ok (get_or s i 0) then 1 else 0) → n + count ok (drop i s) ≡ z → n + d + count ok (drop (i + 1) s) ≡ z
  count_on d h e f =
      let g : count ok (drop i s) ≡ d + count ok (drop (i + 1) s) = rw (add-one, e, drop-cons s i 0) in
      omega (arith, f, g)

  pub count_ends : length s ≤ i → n + count ok (drop i s) ≡ z → n ≡ z
  count_ends h f = sym (rw (drop_of_length-le s h, add-zero)) ∙ f

-- how many pass, as the library counts them
pub count_as : (ok : ℕ → Bool) (s : List ℕ) → count_by ok s ≡ count ok s
count_as ok [] = refl
count_as ok (b ∷ s) = sum_by-cons (λ x. cond (ok x) 1 0) b s ∙ ap (λ n. cond (ok b) 1 0 + n) (count_as ok s)

-- two runs of one length side by side, as the library walks over both
pub pairs_as : (ok : ℕ → ℕ → Bool) (a b : List ℕ) → length a ≡ length b → list_all (λ (p : ℕ × ℕ). ok p.0 p.1) (zip a b) ≡ paired ok a b
pairs_as ok [] [] l = refl
pairs_as ok [] (y ∷ b) l = absurd (omega arith)
pairs_as ok (x ∷ a) [] l = absurd (omega arith)
pairs_as ok (x ∷ a) (y ∷ b) l = ap (λ t. ok x y && t) (pairs_as ok a b (omega arith))

pub pair_lengths : (ok : ℕ → ℕ → Bool) (a b : List ℕ) → paired ok a b ≡ true → length a ≡ length b
pair_lengths ok [] [] e = refl
pair_lengths ok [] (y ∷ b) e = absurd (false≢true e)
pair_lengths ok (x ∷ a) [] e = absurd (false≢true e)
pair_lengths ok (x ∷ a) (y ∷ b) e = ap suc (pair_lengths ok a b (and_right (ok x y) (paired ok a b) e))

pub pair_unlike : (ok : ℕ → ℕ → Bool) (a b : List ℕ) → (length a ≡ length b → ⊥) → false ≡ paired ok a b
pair_unlike ok a b n = ⊎_elim (λ e. absurd (n (pair_lengths ok a b e))) (λ e. sym e) (true_or_false (paired ok a b))

pub same_eq : (a b : List ℕ) → same a b ≡ true → a ≡ b
same_eq [] [] e = refl
same_eq [] (y ∷ b) e = absurd (false≢true e)
same_eq (x ∷ a) [] e = absurd (false≢true e)
same_eq (x ∷ a) (y ∷ b) e =
    let p : x ≡ y = eqb-true x y (and_left (eqb x y) (same a b) e) in
    let q : a ≡ b = same_eq a b (and_right (eqb x y) (same a b) e) in
    rw (p, q)

pub same_refl : (a : List ℕ) → same a a ≡ true
same_refl [] = refl
same_refl (x ∷ a) = and_both (eqb x x) (same a a) (eq-eqb x x refl) (same_refl a)

-- a run compared is the run that it is known to be
pub unlike : (a b : List ℕ) → (a ≡ b → ⊥) → same a b ≡ false
unlike a b n = ⊎_elim (λ t. absurd (n (same_eq a b t))) (λ f. f) (true_or_false (same a b))

pub same_as : (a b name : List ℕ) (t : Bool) → a ≡ b → t ≡ same a name → t ≡ same b name
same_as a b name t e q = q ∙ ap (λ (x : List ℕ). same x name) e

-- a run without bytes
pub no_bytes : (s : List ℕ) → length s ≡ 0 → s ≡ []
no_bytes [] e = refl
no_bytes (b ∷ s) e = absurd (omega arith)

-- past the end of a run
pub read_past : (s : List ℕ) (i : ℕ) → length s ≤ i → 0 ≡ get_or s i 0
read_past [] i h = refl
read_past (b ∷ s) zero h = absurd (omega arith)
read_past (b ∷ s) (suc i) h = read_past s i (omega arith)
