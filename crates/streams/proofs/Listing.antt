-- A word and numbers, put into a line one by one.
use Rattle.std.proofs.Common.{◌≡◌, ℕ, ◌+◌, ◌*◌, ◌<◌, ◌≤◌, List, [], ◌∷◌, ◌++◌, length, get_or, take, drop, refl, sym, ap, ◌∙◌, subst, arith}
use Rattle.std.proofs.Common.{append_assoc, append-nil, take_all, take-suc, add-one}
use Rattle.std.proofs.lemmas.List.{drop_all, drop_more}
use Rattle.std.specs.Prelude.{codes}
use Rattle.std.specs.Fmt.{decimal}
use Rattle.streams.specs.Lines.{Adds, AddsAll, numbers, runs}

-- numbers, each behind a space
abbrev pub spaced : List ℕ → List ℕ
spaced [] = []
spaced (n ∷ rest) = codes " " ++ decimal n ++ spaced rest

spaced_both : (a b : List ℕ) → spaced (a ++ b) ≡ spaced a ++ spaced b
spaced_both [] b = refl
spaced_both (n ∷ a) b =
    ap (λ l. codes " " ++ decimal n ++ l) (spaced_both a b) ∙ sym (append_assoc (codes " " ++ decimal n) (spaced a) (spaced b))

numbers_spaced : (a : List ℕ) → numbers a ≡ spaced a ++ (10 ∷ [])
numbers_spaced [] = refl
numbers_spaced (n ∷ a) =
    ap (λ l. codes " " ++ decimal n ++ l) (numbers_spaced a) ∙ sym (append_assoc (codes " " ++ decimal n) (spaced a) (10 ∷ []))

-- where a line has room for them, the word and the first i numbers stand at its front
pub record Listing (word values line : List ℕ) (fill i : ℕ) : Type 0 where
  pub inside : fill ≤ length line
  pub few : fill ≤ length word + 21 * i
  pub is : take fill line ≡ word ++ spaced (take i values)

module _ (word values : List ℕ) (line : List ℕ) (room : length word + 21 * length values < length line) where
  pub listing_none : (fill : ℕ) (after : List ℕ) → length after ≡ length line → Adds line 0 word fill after → Listing word values after fill 0
  listing_none fill after long added =
      let whole = added.whole (omega arith) in
      record { inside = omega (arith, whole.0); few = omega (arith, whole.0); is = whole.1 ∙ sym (append-nil word) }

  pub listing_on : (before between after : List ℕ) (fill space next i : ℕ) → length before ≡ length line → length between ≡ length line
      → length after ≡ length line → i < length values → Listing word values before fill i
      → Adds before fill (codes " ") space between → length (decimal (get_or values i 0)) ≤ 20
      → Adds between space (decimal (get_or values i 0)) next after → Listing word values after next (i + 1)
  listing_on before between after fill space next i lb lm la h s gap short digits =
      let one = decimal (get_or values i 0) in
      let first = gap.whole (omega (arith, s.few)) in
      let second = digits.whole (omega (arith, s.few, first.0)) in
      let more : spaced (take (i + 1) values) ≡ spaced (take i values) ++ (codes " " ++ one) =
      ap (λ n. spaced (take n values)) (add-one i) ∙ ap spaced (take-suc values i 0 h) ∙ spaced_both (take i values) (get_or values i 0 ∷ [])
      ∙ ap (λ l. spaced (take i values) ++ (codes " " ++ l)) (append-nil one) in
      record {
        inside = omega (arith, s.few, first.0, second.0);
        few = omega (arith, s.few, first.0, second.0);
        is =
            second.1 ∙ ap (λ l. l ++ one) (first.1 ∙ ap (λ l. l ++ codes " ") s.is)
            ∙ append_assoc (word ++ spaced (take i values)) (codes " ") one
            ∙ append_assoc word (spaced (take i values)) (codes " " ++ one)
            ∙ ap (λ l. word ++ l) (sym more);
      }

  pub listed : (before after : List ℕ) (fill end i : ℕ) → length before ≡ length line → length values ≤ i → i ≤ length values
      → Listing word values before fill i → Adds before fill (10 ∷ []) end after → take end after ≡ word ++ numbers values
  listed before after fill end i lb h l s added =
      let all : take i values ≡ values = take_all i values h in
      (added.whole (omega (arith, s.few))).1 ∙ ap (λ m. m ++ (10 ∷ [])) (s.is ∙ ap (λ v. word ++ spaced v) all)
      ∙ append_assoc word (spaced values) (10 ∷ []) ∙ ap (λ m. word ++ m) (sym (numbers_spaced values))

-- what the numbers from the i-th on add to a line
pub runs_on : (values line between after last : List ℕ) (fill space next count i : ℕ) → i < length values → Adds line fill (codes " ") space between
    → Adds between space (decimal (get_or values i 0)) next after → AddsAll after next (runs (drop (i + 1) values)) count last
    → AddsAll line fill (runs (drop i values)) count last
runs_on values line between after last fill space next count i h gap digits rest =
    subst (λ left. AddsAll line fill (runs left) count last) (sym (drop_more values i 0 h)) (space, between, gap, (next, after, digits, rest))

pub runs_end : (values line after : List ℕ) (fill count i : ℕ) → length values ≤ i → Adds line fill (10 ∷ []) count after
    → AddsAll line fill (runs (drop i values)) count after
runs_end values line after fill count i h added =
    subst (λ left. AddsAll line fill (runs left) count after) (sym (drop_all i values h)) (count, after, added, (refl, refl))
