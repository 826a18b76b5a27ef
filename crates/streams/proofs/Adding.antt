-- What a line has, behind a run that was added; two outcomes are equal, of many runs too.
use Rattle.std.proofs.Common.{◌≡◌, ℕ, ◌+◌, ◌<◌, ◌≤◌, min, List, [], ◌∷◌, ◌++◌, length, take, drop, refl, ap, sym, ◌∙◌, subst, ⊎_elim, arith, length-append, length-take-le}
use Rattle.std.proofs.lemmas.List.{take_at}
use borrow.Author.Tests.{lt-leb}
use Rattle.text.specs.Placed.{placed}
use Rattle.text.proofs.Placing.{placed_there}
use Rattle.text.proofs.Numbers.{le_or_lt}
use Rattle.streams.specs.Lines.{Adds, AddsAll}

module _ (line : List ℕ) (fill : ℕ) (run : List ℕ) where
  front : fill + length run ≤ length line → take (fill + length run) (placed line fill run) ≡ take fill line ++ run
  front h =
      let long : fill ≤ length line = omega arith in
      let both : length (take fill line ++ run) ≡ fill + length run =
      omega (arith, length-append (take fill line) run, length-take-le fill line long) in
      rw (placed_there line fill run h) (take_at (take fill line ++ run) (drop (fill + length run) line) (fill + length run) both)

  full : length line < fill + length run → placed line fill run ≡ line
  unfolding placed
  full h = simp (lt-leb (fill + length run) (length line) h)

  pub adds_whole : (after : List ℕ) → after ≡ placed line fill run → fill + length run ≤ length line → Adds line fill run (fill + length run) after
  adds_whole after there fits = record {
    there = there;
    whole = λ h. (refl, ap (λ l. take (fill + length run) l) there ∙ front h);
    none = λ h. absurd (omega arith);
  }

  pub adds_none : (count : ℕ) (after : List ℕ) → after ≡ placed line fill run → length line < fill + length run → count ≡ min fill (length line)
      → Adds line fill run count after
  adds_none count after there over least = record {
    there = there;
    whole = λ h. absurd (omega arith);
    none = λ h. (least, there ∙ full h);
  }

  pub adds_unique : (m n : ℕ) (after other : List ℕ) → Adds line fill run m after → Adds line fill run n other → (m ≡ n) × (after ≡ other)
  adds_unique m n after other a b = (⊎_elim fits full_up (le_or_lt (fill + length run) (length line)), a.there ∙ sym b.there)
    where
      fits : fill + length run ≤ length line → m ≡ n
      fits h = (a.whole h).0 ∙ sym (b.whole h).0

      full_up : length line < fill + length run → m ≡ n
      full_up h = (a.none h).0 ∙ sym (b.none h).0

pub adds_all_unique : (runs : List (List ℕ)) (line : List ℕ) (fill m n : ℕ) (after other : List ℕ) → AddsAll line fill runs m after
    → AddsAll line fill runs n other → (m ≡ n) × (after ≡ other)
adds_all_unique [] line fill m n after other a b = (a.0 ∙ sym b.0, a.1 ∙ sym b.1)
adds_all_unique (run ∷ rest) line fill m n after other a b =
    let same : (a.0 ≡ b.0) × (a.1 ≡ b.1) = adds_unique line fill run a.0 b.0 a.1 b.1 a.2 b.2 in
    let moved : AddsAll b.1 b.0 rest m after =
    subst (λ l. AddsAll l b.0 rest m after) same.1 (subst (λ k. AddsAll a.1 k rest m after) same.0 a.3) in
    adds_all_unique rest b.1 b.0 m n after other moved b.3
