-- A list of countries read pair by pair.
use Prim.Native.Nat.{ℕ}
use mathlib.Core.Path.{◌≡◌, refl, sym, ap, ◌∙◌}
use mathlib.Core.Bool.{◌||◌}
use mathlib.Core.List.{List, [], ◌∷◌, ◌++◌}
use native.Mathlib.Omega.{arith}
use lib.ListN.{length, length-append}
use Rattle.std.proofs.lemmas.Iterator.{YieldsList}
use Rattle.std.specs.Iterator.{AlwaysYields}
use Rattle.std.specs.List.{list_any}
use Rattle.std.specs.Slice.Iter.{chunks_exact_rest, chunks_exact_size, chunks_exact_steps}
use Rattle.std.specs.declared.slice.ChunksExact.{ChunksExact}
use Rattle.text.specs.Scan.{same}
use Rattle.countries.specs.List.{is_listed}

abbrev pub pairs_of : List ℕ → List (List ℕ)
pairs_of [] = []
pairs_of (a ∷ []) = []
pairs_of (a ∷ b ∷ more) = (a ∷ b ∷ []) ∷ pairs_of more

pub any_pair : (s country : List ℕ) → list_any (λ pair. same pair country) (pairs_of s) ≡ is_listed s country
any_pair [] country = refl
any_pair (a ∷ []) country = refl
any_pair (a ∷ b ∷ more) country = ap (λ t. same (a ∷ b ∷ []) country || t) (any_pair more country)

front_two : (a b : ℕ) (more front rest : List ℕ) → a ∷ b ∷ more ≡ front ++ rest → length front ≡ 2 → (front ≡ a ∷ b ∷ []) × (rest ≡ more)
front_two a b more [] rest e two = absurd (omega arith)
front_two a b more (c ∷ []) rest e two = absurd (omega arith)
front_two a b more (c ∷ d ∷ []) rest e two = (cc, cc)
front_two a b more (c ∷ d ∷ f ∷ t) rest e two = absurd (omega arith)

-- the library's chunks of two are the pairs
given : (l : List ℕ) (s : ChunksExact ℕ) → chunks_exact_size s ≡ 2 → chunks_exact_rest s ≡ l →
    AlwaysYields chunks_exact_steps (λ x. x.now) s (pairs_of l)
given [] s two e = λ x j p. omega (arith, ap length (sym e ∙ p.1.0), length-append x.now (chunks_exact_rest j), p.1.1, two)
given (a ∷ []) s two e = λ x j p. omega (arith, ap length (sym e ∙ p.1.0), length-append x.now (chunks_exact_rest j), p.1.1, two)
given (a ∷ b ∷ more) s two e = (
  λ j p. omega (arith, p.1.0, ap length e, two),
  λ x j p. let f = front_two a b more x.now (chunks_exact_rest j) (sym e ∙ p.1.0) (p.1.1 ∙ two) in
      (f.0, given more j (p.0 ∙ two) f.1),
)

pub pairs_given : {s : ChunksExact ℕ} (l : List ℕ) → chunks_exact_size s ≡ 2 → chunks_exact_rest s ≡ l →
    YieldsList chunks_exact_steps (λ x. x.now) s (pairs_of l)
pairs_given {s} l two e = record { runs = given l s two e }
