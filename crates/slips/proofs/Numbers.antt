-- DPD numbers: accepted exactly when sound; no two differ in one symbol; when neighbours may be swapped.
use Prim.Native.Nat.{ℕ, suc, ◌+◌, ◌-◌, ◌≤◌, ◌<◌}
use mathlib.Core.Path.{◌≡◌, refl, sym, ap, ◌∙◌}
use mathlib.Core.Bool.{true, false}
use mathlib.Core.List.{List, [], ◌∷◌, ◌++◌}
use mathlib.Core.Logic.{◌↔◌, ◌⊎◌, inl, inr, ⊎_elim}
use native.Mathlib.Omega.{arith}
use lib.Dec.{eqb, ltb}
use lib.ListN.{length, get_or, take, drop, length-append}
use lib.Seq.{split_at, get_or_at}
use borrow.Author.Tests.{eqb-true, ltb-false, le-ltb}
use Rattle.refusal.specs.declared.Reason.TheVariants.{WrongLength, WrongSymbol, WrongCheck}
use Rattle.refusal.specs.Table.{because, verdict_on}
use Rattle.refusal.proofs.Verdicts.{no_pass}
use Rattle.text.specs.Byte.{digit, capital, symbol}
use Rattle.std.specs.Prelude.{if◌then◌else◌, Ok, Err}
use Rattle.text.proofs.Choices.{came_then, came_else, or_cases, clash, true_or_false}
use Rattle.text.proofs.Numbers.{le_or_lt}
use Rattle.text.proofs.Bytes.{digit_range, capital_range}
use Rattle.check_characters.specs.Symbol.{value_of}
use Rattle.check_characters.specs.Mod37.{step, carry_from, carry, passes}
use Rattle.check_characters.specs.Number.{length_of, allowed_in_number, wrong_in_number, checked_as, checked_number}
use Rattle.check_characters.specs.declared.number.Kind.{Kind}
use Rattle.check_characters.specs.declared.number.Kind.TheVariants.{Tracking, Label}
use Rattle.check_characters.proofs.Symbols.{value_le, value_digit, value_capital}
use Rattle.check_characters.proofs.Carries.{Carry, step_carry, carry_of, carry_append, passes_two, two_passes}
use Rattle.check_characters.proofs.Shapes.{has_last, tracking_digit, tracking_check, label_symbol, label_digit, label_check}
use Rattle.check_characters.proofs.Checking.{checked_tracking, checked_label}
use Rattle.slips.specs.Slips.{AgreeBut, swapped, OneFollows}
use Rattle.slips.specs.Exactly.{Shaped, SoundNumber}
use Rattle.slips.proofs.Shaping.{shaped_all, all_shaped}
use Rattle.slips.proofs.Places.{in_pieces, agree_there, pair_at}
use Rattle.slips.proofs.Steps.{step_value, step_back, swap_follows, follows_swap}

sound_as : (j k : Kind) (s : List ℕ) → length s ≡ length_of j → checked_as j s ≡ Ok k → SoundNumber k s
unfolding checked_as
sound_as j k s n e =
    let w = came_else (ltb (wrong_in_number j s) (length s)) (Err (because WrongSymbol (wrong_in_number j s)))
    (if passes s then Ok j else Err (because WrongCheck (length s - 1))) (Ok k) (no_pass verdict_on refl refl) e in
    let p = came_then (passes s) (Ok j) (Err (because WrongCheck (length s - 1))) (Ok k) (no_pass verdict_on refl refl) w.1 in
    let q : j ≡ k = cc in
    let g : SoundNumber j s = record { long = n; shaped = shaped_all (allowed_in_number j) s (ltb-false (wrong_in_number j s) (length s) w.0); closed = p.0 } in
    rw q at g

pub accepted_sound : (k : Kind) (s : List ℕ) → checked_number s ≡ Ok k → SoundNumber k s
unfolding checked_number
accepted_sound k s e =
    ⊎_elim (λ (t : eqb (length s) 15 ≡ true). sound_as Tracking k s (eqb-true (length s) 15 t) (simp t at e))
    (λ (n : eqb (length s) 15 ≡ false).
    let w = came_then (eqb (length s) 28) (checked_as Label s) (Err (because WrongLength 0)) (Ok k) (no_pass verdict_on refl refl) (simp n at e) in
    sound_as Label k s (eqb-true (length s) 28 w.0) w.1)
    (true_or_false (eqb (length s) 15))

accepted_as : (k : Kind) (s : List ℕ) → SoundNumber k s → checked_as k s ≡ Ok k
unfolding checked_as
accepted_as k s g = simp (le-ltb (wrong_in_number k s) (length s) (all_shaped (allowed_in_number k) s g.shaped), g.closed)

pub checked_kind : (k : Kind) (s : List ℕ) → length s ≡ length_of k → checked_number s ≡ checked_as k s
checked_kind Tracking s n = checked_tracking s n
checked_kind Label s n = checked_label s (λ e. omega arith) n

pub sound_accepted : (k : Kind) (s : List ℕ) → SoundNumber k s → checked_number s ≡ Ok k
sound_accepted k s g = checked_kind k s g.long ∙ accepted_as k s g

carry_back : (c d : ℕ) (s : List ℕ) → Carry c → Carry d → carry_from c s ≡ carry_from d s → c ≡ d
carry_back c d [] h k e = e
carry_back c d (b ∷ s) h k e = step_back c d (value_of b) h k (carry_back (step c (value_of b)) (step d (value_of b)) s (step_carry c (value_of b)) (step_carry d (value_of b)) e)

-- a byte that is allowed anywhere is a symbol, and two symbols of one value are one
digit_symbol : (b : ℕ) → digit b ≡ true → symbol b ≡ true
digit_symbol b e = rw e

pub symbol_of_lem : (k : Kind) (i b : ℕ) → i < length_of k → allowed_in_number k i b ≡ true → symbol b ≡ true
symbol_of_lem Tracking i b h e =
    ⊎_elim (λ l. sym (tracking_check i b (omega arith)) ∙ e) (λ l. digit_symbol b (sym (tracking_digit i b l) ∙ e)) (le_or_lt 14 i)
symbol_of_lem Label i b h e =
    ⊎_elim
    (λ m. ⊎_elim (λ l. sym (label_check i b (omega arith)) ∙ e) (λ l. digit_symbol b (sym (label_digit i b m l) ∙ e)) (le_or_lt 27 i))
    (λ l. sym (label_symbol i b l) ∙ e)
    (le_or_lt 7 i)

-- the value of a symbol, with the range that its class gives it
valued : (b : ℕ) → symbol b ≡ true → ((value_of b + 48 ≡ b) × (value_of b < 10)) ⊎ ((value_of b + 55 ≡ b) × (10 ≤ value_of b))
valued b s =
    ⊎_elim (λ d. digits d)
    (λ (n : digit b ≡ false). letters n (⊎_elim (λ (d : digit b ≡ true). clash d n) (λ c. c) (or_cases (digit b) (capital b) s)))
    (true_or_false (digit b))
  where
    digits : digit b ≡ true → ((value_of b + 48 ≡ b) × (value_of b < 10)) ⊎ ((value_of b + 55 ≡ b) × (10 ≤ value_of b))
    digits d = let r = digit_range b d in let v = value_digit b (digit b) refl d in inl (omega arith, omega arith)

    letters : digit b ≡ false → capital b ≡ true → ((value_of b + 48 ≡ b) × (value_of b < 10)) ⊎ ((value_of b + 55 ≡ b) × (10 ≤ value_of b))
    letters n c = let r = capital_range b c in let v = value_capital b (digit b) refl (capital b) refl n c in inr (omega arith, omega arith)

pub value_one : (a b : ℕ) → symbol a ≡ true → symbol b ≡ true → value_of a ≡ value_of b → a ≡ b
value_one a b sa sb e =
    ⊎_elim (λ x. ⊎_elim (λ y. omega arith) (λ y. omega arith) (valued b sb))
    (λ x. ⊎_elim (λ y. omega arith) (λ y. omega arith) (valued b sb)) (valued a sa)

pub below : (b : ℕ) → value_of b < 36
below b = omega (arith, value_le b)

-- a number in pieces: what stands in a shape is a symbol, and a sound number's carry ends at 2
symbol_in : (k : Kind) (p : List ℕ) (a : ℕ) (q : List ℕ) → length (p ++ a ∷ q) ≡ length_of k → Shaped (allowed_in_number k) (p ++ a ∷ q) →
    symbol a ≡ true
symbol_in k p a q long shaped =
    let l : length p < length (p ++ a ∷ q) = simp length-append (omega arith) in
    symbol_of_lem k (length p) a (rw long at l) (rw (get_or_at p a q 0 (length p) refl) at (shaped (length p) l))

module _ (k : Kind) (p : List ℕ) (a : ℕ) (q : List ℕ) (g : SoundNumber k (p ++ a ∷ q)) where
  is_symbol : symbol a ≡ true
  is_symbol = symbol_in k p a q g.long g.shaped

  ends_at_two : carry_from (step (carry p) (value_of a)) q ≡ 2
  ends_at_two = sym (carry_append 36 p (a ∷ q)) ∙ passes_two (p ++ a ∷ q) (has_last k (length (p ++ a ∷ q)) g.long) g.closed

-- no two sound numbers differ in one symbol
pub one_symbol : (k : Kind) (p : List ℕ) (a b : ℕ) (q : List ℕ) → SoundNumber k (p ++ a ∷ q) → SoundNumber k (p ++ b ∷ q) → a ≡ b
one_symbol k p a b q ga gb =
    value_one a b (is_symbol k p a q ga) (is_symbol k p b q gb)
    (step_value (carry p) (value_of a) (value_of b) (below a) (below b)
    (carry_back _ _ q (step_carry (carry p) (value_of a)) (step_carry (carry p) (value_of b)) (ends_at_two k p a q ga
    ∙ sym (ends_at_two k p b q gb))))

pub single_number : (k : Kind) (s t : List ℕ) (i : ℕ) → SoundNumber k s → SoundNumber k t → AgreeBut i s t → s ≡ t
single_number k s t i gs gt g =
    agree_there i s t g
    (λ l. one_symbol k (take i s) (get_or s i 0) (get_or t i 0) (drop (suc i) s) (rw (split_at s i 0 l) at gs) (rw (in_pieces i s t g l) at gt))

-- swapped neighbours of a sound number
module _ (k : Kind) (p : List ℕ) (a b : ℕ) (q : List ℕ) (n : a ≡ b → ⊥) (g : SoundNumber k (p ++ a ∷ b ∷ q)) where
  swapped_long : length (p ++ b ∷ a ∷ q) ≡ length_of k
  swapped_long = simp length-append (simp length-append at g.long)

  module _ (shaped : Shaped (allowed_in_number k) (p ++ b ∷ a ∷ q)) where
    unlike : value_of a ≡ value_of b → ⊥
    unlike e = n (value_one a b (is_symbol k p a (b ∷ q) g) (symbol_in k p b (a ∷ q) swapped_long shaped) e)

    swap_seen : SoundNumber k (p ++ b ∷ a ∷ q) → OneFollows (carry p) (value_of a) (value_of b)
    swap_seen gt =
        swap_follows (carry p) (value_of a) (value_of b) (carry_of p) (below a) (below b) unlike
        (carry_back _ _ q (step_carry (step (carry p) (value_of a)) (value_of b)) (step_carry (step (carry p) (value_of b)) (value_of a))
        (ends_at_two k p a (b ∷ q) g ∙ sym (ends_at_two k p b (a ∷ q) gt)))

    swap_unseen : OneFollows (carry p) (value_of a) (value_of b) → SoundNumber k (p ++ b ∷ a ∷ q)
    swap_unseen f =
        record {
          long = swapped_long;
          shaped = shaped;
          closed =
              two_passes (p ++ b ∷ a ∷ q) (has_last k (length (p ++ b ∷ a ∷ q)) swapped_long)
              (carry_append 36 p (b ∷ a ∷ q)
              ∙ ap (λ (c : ℕ). carry_from c q) (sym (follows_swap (carry p) (value_of a) (value_of b) (carry_of p) (below a)
              (below b) unlike f))
              ∙ ends_at_two k p a (b ∷ q) g);
        }

pub swap_number : (k : Kind) (s : List ℕ) (i : ℕ) → i + 1 < length s → (get_or s i 0 ≡ get_or s (i + 1) 0 → ⊥) → SoundNumber k s →
    Shaped (allowed_in_number k) (swapped i s)
    → SoundNumber k (swapped i s) ↔ OneFollows (carry (take i s)) (value_of (get_or s i 0)) (value_of (get_or s (i + 1) 0))
swap_number k s i h n g shaped =
    let a = get_or s i 0 in
    let b = get_or s (i + 1) 0 in
    let gs = rw (pair_at i s h) at g in
    (swap_seen k (take i s) a b (drop (i + 2) s) n gs shaped, swap_unseen k (take i s) a b (drop (i + 2) s) n gs shaped)
