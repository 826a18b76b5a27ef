-- IBANs: accepted exactly when sound; no two differ in one symbol of a class, or by two swapped neighbours of a class.
use Prim.Native.Nat.{ℕ, suc, ◌+◌, ◌*◌, ◌/◌, ◌%◌, ◌^◌, ◌≤◌, ◌<◌}
use mathlib.Core.Path.{◌≡◌, refl, sym, ap, ◌∙◌}
use mathlib.Core.Bool.{Bool, true, false, not, ◌&&◌, ◌||◌}
use mathlib.Core.List.{List, [], ◌∷◌, ◌++◌, append_assoc}
use mathlib.Core.Logic.{inl, ⊎_elim}
use native.Mathlib.Omega.{arith}
use native.Mathlib.Nat.{pow-succ'}
use native.Mathlib.Numerals.{add-one}
use lib.Dec.{eqb, ltb, leb}
use lib.ListN.{length, get_or, take, drop, length-append}
use lib.Seq.{split_at}
use borrow.Author.Tests.{eqb-true, eq-eqb, ltb-false, leb-true, le-leb, le-ltb, lt-leb, not-true, not-false}
use Rattle.refusal.specs.declared.Reason.TheVariants.{WrongLength, WrongSymbol, WrongCheck}
use Rattle.refusal.specs.Table.{because, verdict_on}
use Rattle.refusal.proofs.Verdicts.{no_pass}
use Rattle.std.specs.Prelude.{if◌then◌else◌, Ok, Err}
use Rattle.text.specs.Byte.{digit, capital}
use Rattle.text.proofs.Choices.{and_left, and_right, or_cases, came_then, came_else, clash}
use Rattle.text.proofs.Bytes.{digit_range, capital_range, capital_low}
use Rattle.text.proofs.Finite.{every_at, tells, told_apart}
use Rattle.check_characters.specs.Symbol.{value_of}
use Rattle.check_characters.specs.Iban.{allowed_in_iban, wrong_in_iban, digits_of, spread, decimal_from, moved, iban_number}
use Rattle.check_characters.specs.Iban.{check_digits, barred, sound_of, checked_iban}
use Rattle.check_characters.proofs.Symbols.{value_le, value_digit, value_capital}
use Rattle.check_characters.proofs.Digits.{decimal_append, spread_append, weight, weighed, mod_scale}
use Rattle.slips.specs.Slips.{AgreeBut, OneClass, swapped}
use Rattle.slips.specs.Exactly.{SoundIban}
use Rattle.slips.proofs.Shaping.{shaped_all, all_shaped}
use Rattle.slips.proofs.Places.{in_pieces, agree_there, pair_at, swap_alike}
use Rattle.slips.proofs.Remainders.{after, remainder_from, remainder_spread, remainder_append, weight_tells}
use Rattle.slips.proofs.Remainders.{cancel, tell_remainders, tell_order, tell_value}

pub accepted_sound : (s : List ℕ) → checked_iban s ≡ Ok tt → SoundIban s
unfolding checked_iban sound_of
accepted_sound s e =
    let inside = leb 15 (length s) && leb (length s) 34 in
    let wrong = ltb (wrong_in_iban s) (length s) in
    let tail = if sound_of s then Ok tt else Err (because WrongCheck 2) in
    let a = came_else (not inside) (Err (because WrongLength 0)) (if wrong then Err (because WrongSymbol (wrong_in_iban s)) else tail)
    (Ok tt) (no_pass verdict_on refl refl) e in
    let b = came_else wrong (Err (because WrongSymbol (wrong_in_iban s))) tail (Ok tt) (no_pass verdict_on refl refl) a.1 in
    let c = came_then (sound_of s) (Ok tt) (Err (because WrongCheck 2)) (Ok tt) (no_pass verdict_on refl refl) b.1 in
    let long = not-false inside a.0 in
    record {
      long = leb-true 15 (length s) (and_left (leb 15 (length s)) (leb (length s) 34) long);
      short = leb-true (length s) 34 (and_right (leb 15 (length s)) (leb (length s) 34) long);
      shaped = shaped_all allowed_in_iban s (ltb-false (wrong_in_iban s) (length s) b.0);
      unbarred = not-true (barred (check_digits s)) (and_left (not (barred (check_digits s))) (eqb (iban_number s % 97) 1) c.0);
      one = eqb-true (iban_number s % 97) 1 (and_right (not (barred (check_digits s))) (eqb (iban_number s % 97) 1) c.0);
    }

pub sound_accepted : (s : List ℕ) → SoundIban s → checked_iban s ≡ Ok tt
unfolding checked_iban sound_of
sound_accepted s g =
    simp (
      le-leb 15 (length s) g.long,
      le-leb (length s) 34 g.short,
      le-ltb (wrong_in_iban s) (length s) (all_shaped allowed_in_iban s g.shaped),
      g.unbarred,
      eq-eqb (iban_number s % 97) 1 g.one,
    )

-- two symbols of one class have one weight, and their values tell them apart
record Alike (a b : ℕ) : Type 0 where
  weights : weight a ≡ weight b
  one : value_of a ≡ value_of b → a ≡ b

light : (a : ℕ) → digit a ≡ true → weight a ≡ 10
light a d = rw (capital_low a (omega (arith, digit_range a d)))

no_digit : (a : ℕ) → capital a ≡ true → digit a ≡ false
no_digit a c = let r = capital_range a c in simp (le-leb 48 a (omega arith), lt-leb a 57 (omega arith))

alike : (a b : ℕ) → OneClass a b → Alike a b
alike a b = ⊎_elim digits letters
  where
    digits : (digit a ≡ true) × (digit b ≡ true) → Alike a b
    digits d =
        record {
          weights = light a d.0 ∙ sym (light b d.1);
          one = λ e. omega (
            arith,
            digit_range a d.0,
            digit_range b d.1,
            value_digit a (digit a) refl d.0,
            value_digit b
                (digit b) refl d.1,
          );
        }

    letters : (capital a ≡ true) × (capital b ≡ true) → Alike a b
    letters c =
        record {
          weights = rw (c.0, c.1);
          one = λ e. omega (
            arith,
            capital_range a c.0,
            capital_range b c.1,
            value_capital a (digit a) refl (capital a) refl
                (no_digit a c.0) c.0,
            value_capital b (digit b) refl (capital b) refl (no_digit b c.1) c.1,
          );
        }

below : (b : ℕ) → value_of b < 36
below b = omega (arith, value_le b)

digit_below : (b : ℕ) → digit b ≡ true → value_of b < 10
digit_below b d = omega (arith, digit_range b d, value_digit b (digit b) refl d)

-- the walk goes back one to one
remainder_back : (s : List ℕ) (r q : ℕ) → r < 97 → q < 97 → remainder_from r s ≡ remainder_from q s → r ≡ q
remainder_back [] r q l m e = e
remainder_back (b ∷ s) r q l m e = tell_remainders (weight b) (weight_tells b) (value_of b) r q l m
    (remainder_back s (after r b) (after q b) (omega arith) (omega arith) e)

-- one symbol more, and two in either order
after_one : (r a b : ℕ) → Alike a b → after r a ≡ after r b → a ≡ b
after_one r a b k e = k.one (tell_value (weight a * r) (value_of a) (value_of b) (below a) (below b) (e
    ∙ sym (ap (λ (m : ℕ). (m * r + value_of b) % 97) k.weights)))

after_two : (r a b : ℕ) → Alike a b → after (after r a) b ≡ after (after r b) a → a ≡ b
after_two r a b k e =
    let m = weight a in
    k.one
    (tell_order m (weight_tells a) r (value_of a) (value_of b) (below a) (below b)
    (ap (λ (x : ℕ). (x * ((m * r + value_of a) % 97) + value_of b) % 97) k.weights ∙ e
    ∙ sym (ap (λ (x : ℕ). (m * ((x * r + value_of b) % 97) + value_of a) % 97) k.weights)))

-- the remainder of a sound IBAN, walked over its symbols once the first four are moved
walked : (s t : List ℕ) → SoundIban s → moved s ≡ t → remainder_from 0 t ≡ 1
walked s t g e = ap (remainder_from 0) (sym e) ∙ sym (remainder_spread 0 (moved s)) ∙ g.one

-- where a symbol stands once the first four are moved
record Stands (p q : List ℕ) : Type 0 where
  front : List ℕ
  back : List ℕ
  there : (a : ℕ) → moved (p ++ a ∷ q) ≡ front ++ a ∷ back

stands : (p q : List ℕ) → Stands p q
stands [] q = record { front = drop 3 q; back = take 3 q; there = λ a. refl }
stands (x ∷ []) q = record {
  front = drop 2 q ++ (x ∷ []);
  back = take 2 q;
  there =
      λ a. sym (append_assoc (drop 2 q) (x ∷ []) (a ∷ take 2 q));
}
stands (x ∷ y ∷ []) q = record {
  front = drop 1 q ++ (x ∷ y ∷ []);
  back = take 1 q;
  there =
      λ a. sym (append_assoc (drop 1 q) (x ∷ y ∷ []) (a ∷ take 1 q));
}
stands (x ∷ y ∷ z ∷ []) q = record { front = q ++ (x ∷ y ∷ z ∷ []); back = []; there = λ a. sym (append_assoc q (x ∷ y ∷ z ∷ []) (a ∷ [])) }
stands (x ∷ y ∷ z ∷ w ∷ p) q = record {
  front = p;
  back = q ++ (x ∷ y ∷ z ∷ w ∷ []);
  there =
      λ a. append_assoc p (a ∷ q) (x ∷ y ∷ z ∷ w ∷ []);
}

-- no two sound IBANs differ in one symbol of a class
one_symbol : (p : List ℕ) (a b : ℕ) (q : List ℕ) → OneClass a b → SoundIban (p ++ a ∷ q) → SoundIban (p ++ b ∷ q) → a ≡ b
one_symbol p a b q k ga gb =
    let at = stands p q in
    let x = at.front in
    let y = at.back in
    after_one (remainder_from 0 x) a b (alike a b k)
    (remainder_back y (after (remainder_from 0 x) a) (after (remainder_from 0 x) b) (omega arith) (omega arith)
    (sym (remainder_append 0 x (a ∷ y)) ∙ walked _ _ ga (at.there a) ∙ sym (walked _ _ gb (at.there b)) ∙ remainder_append 0 x (b ∷ y)))

pub single_iban : (s t : List ℕ) (i : ℕ) → SoundIban s → SoundIban t → AgreeBut i s t → OneClass (get_or s i 0) (get_or t i 0) → s ≡ t
single_iban s t i gs gt g k =
    agree_there i s t g
    (λ l. one_symbol (take i s) (get_or s i 0) (get_or t i 0) (drop (suc i) s) k (rw (split_at s i 0 l) at gs) (rw (in_pieces i s t g l) at gt))

-- two neighbours that stay neighbours once the first four are moved
neighbours : (x : List ℕ) (a b : ℕ) (y : List ℕ) → OneClass a b → remainder_from 0 (x ++ a ∷ b ∷ y) ≡ 1 →
    remainder_from 0 (x ++ b ∷ a ∷ y) ≡ 1 → a ≡ b
neighbours x a b y k ha hb =
    let r = remainder_from 0 x in
    after_two r a b (alike a b k)
    (remainder_back y (after (after r a) b) (after (after r b) a) (omega arith) (omega arith)
    (sym (remainder_append 0 x (a ∷ b ∷ y)) ∙ ha ∙ sym hb ∙ remainder_append 0 x (b ∷ a ∷ y)))

-- the fourth and the fifth symbol, two digits, stand at the two ends of the number once the first four are moved
decimal_linear : (r : ℕ) (s : List ℕ) → decimal_from r s ≡ r * 10 ^ length s + decimal_from 0 s
decimal_linear r [] = omega arith
decimal_linear r (d ∷ s) =
    omega (arith, decimal_linear (10 * r + d) s, decimal_linear (10 * 0 + d) s, ap (λ (x : ℕ). r * x) (pow-succ' 10 (length s)))

digits_long : (b : ℕ) → length (digits_of b) ≤ 2
unfolding digits_of
digits_long b = go (capital b)
  where
    go : (t : Bool) → length (if t then value_of b / 10 ∷ value_of b % 10 ∷ [] else value_of b ∷ []) ≤ 2
    go true = omega arith
    go false = omega arith

spread_long : (s : List ℕ) → length (spread s) ≤ 2 * length s
spread_long [] = omega arith
spread_long (b ∷ s) = omega (arith, length-append (digits_of b) (spread s), digits_long b, spread_long s)

-- ten has no power from 1 to 95 that leaves 1
power : (n : ℕ) → n < 95 → 10 ^ (n + 1) % 97 ≡ 1 → ⊥
power n l e = clash (every_at 95 (λ k. not (eqb (10 ^ (k + 1) % 97) 1)) refl n l) (ap not (eq-eqb (10 ^ (n + 1) % 97) 1 e))

-- where a power leaves e, which is not 1, two digits at the ends tell their order
ends_tell : (e v w : ℕ) → e < 97 → (e ≡ 1 → ⊥) → v < 10 → w < 10 → (v * e + w) % 97 ≡ (w * e + v) % 97 → v ≡ w
ends_tell e v w l n lv lw h =
    ⊎_elim (λ t. absurd (n (eqb-true e 1 t))) (λ t. told_apart 10 (λ v w. (v * e + w) % 97) (λ v w. (w * e + v) % 97) t v w lv lw h)
    (or_cases (eqb e 1) (tells 10 (λ v w. (v * e + w) % 97) (λ v w. (w * e + v) % 97))
    (every_at 97 (λ e. eqb e 1 || tells 10 (λ v w. (v * e + w) % 97) (λ v w. (w * e + v) % 97)) refl e l))

power_tells : (n z v w : ℕ) → n < 95 → v < 10 → w < 10 → (10 * (v * 10 ^ n + z) + w) % 97 ≡ (10 * (w * 10 ^ n + z) + v) % 97 → v ≡ w
power_tells n z v w l lv lw h =
    ends_tell (10 ^ (n + 1) % 97) v w (omega arith) (power n l) lv lw
    (sym (mod_scale v (10 ^ (n + 1)) w) ∙ cancel (10 * z) _ _ (even v w ∙ h ∙ sym (even w v)) ∙ mod_scale w (10 ^ (n + 1)) v)
  where
    even : (v w : ℕ) → (v * 10 ^ (n + 1) + w + 10 * z) % 97 ≡ (10 * (v * 10 ^ n + z) + w) % 97
    even v w =
        let h : v * 10 ^ (n + 1) + w + 10 * z ≡ 10 * (v * 10 ^ n + z) + w =
        rw add-one (omega (arith, ap (λ (x : ℕ). v * x) (pow-succ' 10 n))) in
        ap (λ (n : ℕ). n % 97) h

-- the number whose first digit is b and whose last is a
ends_number : (a b : ℕ) (m : List ℕ) → digit a ≡ true → digit b ≡ true →
    decimal_from 0 (spread ((b ∷ m) ++ (a ∷ []))) ≡ 10 * (value_of b * 10 ^ length (spread m) + decimal_from 0 (spread m)) + value_of a
ends_number a b m da db =
    ap (decimal_from 0) (spread_append (b ∷ m) (a ∷ []))
    ∙ decimal_append 0 (spread (b ∷ m)) (spread (a ∷ []))
    ∙ ap (λ (r : ℕ). decimal_from r (spread (a ∷ []))) (decimal_append 0 (digits_of b) (spread m)
    ∙ ap (λ (r : ℕ). decimal_from r (spread m)) (ten 0 b db) ∙ decimal_linear (10 * 0 + value_of b) (spread m))
    ∙ decimal_append _ (digits_of a) []
    ∙ ten _ a da
    ∙ omega arith
  where
    ten : (r b : ℕ) → digit b ≡ true → decimal_from r (digits_of b) ≡ 10 * r + value_of b
    ten r b d = weighed r b ∙ ap (λ (m : ℕ). m * r + value_of b) (light b d)

fourth_and_fifth : (x y z a b : ℕ) (q : List ℕ) → OneClass a b → SoundIban (x ∷ y ∷ z ∷ a ∷ b ∷ q) → SoundIban (x ∷ y ∷ z ∷ b ∷ a ∷ q) →
    a ≡ b
unfolding allowed_in_iban
fourth_and_fifth x y z a b q k ga gb = ⊎_elim (λ d. digits d.0 d.1) (λ c. clash (ga.shaped 3 (omega arith)) (no_digit a c.0)) k
  where
    m : List ℕ
    m = q ++ (x ∷ y ∷ z ∷ [])

    digits : digit a ≡ true → digit b ≡ true → a ≡ b
    digits da db =
        let ea = ap (λ (l : List ℕ). decimal_from 0 (spread l)) (sym (append_assoc (b ∷ q) (x ∷ y ∷ z ∷ []) (a ∷ []))) ∙ ends_number a b m da db in
        let eb = ap (λ (l : List ℕ). decimal_from 0 (spread l)) (sym (append_assoc (a ∷ q) (x ∷ y ∷ z ∷ []) (b ∷ []))) ∙ ends_number b a m db da in
        (alike a b (inl (da, db))).one
        (sym
        (power_tells (length (spread m)) (decimal_from 0 (spread m)) (value_of b) (value_of a)
        (omega (arith, spread_long m, length-append q (x ∷ y ∷ z ∷ []), ga.short)) (digit_below b db) (digit_below a da)
        (ap (λ (n : ℕ). n % 97) (sym ea) ∙ ga.one ∙ sym gb.one ∙ ap (λ (n : ℕ). n % 97) eb)))

-- no two sound IBANs differ by two swapped neighbours of a class
two_swapped : (p : List ℕ) (a b : ℕ) (q : List ℕ) → OneClass a b → SoundIban (p ++ a ∷ b ∷ q) → SoundIban (p ++ b ∷ a ∷ q) → a ≡ b
two_swapped [] a b q k ga gb = neighbours (drop 2 q) a b (take 2 q) k (walked _ _ ga refl) (walked _ _ gb refl)
two_swapped (x ∷ []) a b q k ga gb =
    neighbours (drop 1 q ++ (x ∷ [])) a b (take 1 q) k (walked _ _ ga (sym (append_assoc (drop 1 q) (x ∷ []) (a ∷ b ∷ take 1 q))))
    (walked _ _ gb (sym (append_assoc (drop 1 q) (x ∷ []) (b ∷ a ∷ take 1 q))))
two_swapped (x ∷ y ∷ []) a b q k ga gb =
    neighbours (q ++ (x ∷ y ∷ [])) a b [] k (walked _ _ ga (sym (append_assoc q (x ∷ y ∷ []) (a ∷ b ∷ []))))
    (walked _ _ gb (sym (append_assoc q (x ∷ y ∷ []) (b ∷ a ∷ []))))
two_swapped (x ∷ y ∷ z ∷ []) a b q k ga gb = fourth_and_fifth x y z a b q k ga gb
two_swapped (x ∷ y ∷ z ∷ w ∷ p) a b q k ga gb =
    neighbours p a b (q ++ (x ∷ y ∷ z ∷ w ∷ [])) k (walked _ _ ga (append_assoc p (a ∷ b ∷ q) (x ∷ y ∷ z ∷ w ∷ [])))
    (walked _ _ gb (append_assoc p (b ∷ a ∷ q) (x ∷ y ∷ z ∷ w ∷ [])))

pub swap_iban : (s : List ℕ) (i : ℕ) → i + 1 < length s → OneClass (get_or s i 0) (get_or s (i + 1) 0) → SoundIban s →
    SoundIban (swapped i s) → swapped i s ≡ s
swap_iban s i h k g gt = swap_alike i s h (two_swapped (take i s) (get_or s i 0) (get_or s (i + 1) 0) (drop (i + 2) s) k
    (rw (pair_at i s h) at g) gt)
