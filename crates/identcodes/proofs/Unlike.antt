-- Two codes and the first digit at which they are unlike.
use Prim.Native.Nat.{ℕ, zero, suc, ◌+◌, ◌-◌, ◌<◌, ◌≤◌}
use mathlib.Core.Path.{◌≡◌, refl, sym, ap, ◌∙◌}
use mathlib.Core.Bool.{Bool, true, false}
use mathlib.Core.Logic.{◌⊎◌, inl, inr, ⊎_elim}
use mathlib.Core.List.{List}
use native.Mathlib.Omega.{arith}
use lib.Dec.{leb, eqb}
use lib.ListN.{length, get_or}
use lib.Seq.{ext_get_or}
use borrow.Author.Tests.{le-leb, lt-leb, eq-eqb, ne_eqb, eqb-true, eqb-false}
use Rattle.std.specs.Prelude.{if◌then◌else◌}
use Rattle.text.specs.Scan.{same}
use Rattle.text.proofs.Choices.{true_or_false}
use Rattle.text.proofs.Numbers.{eq_or_ne}
use Rattle.text.proofs.Scans.{same_eq, same_refl}
use Rattle.identcodes.specs.Tree.{unlike_from, unlike_at}

-- one turn of the loop, where the digits are alike
pub unlike_on : (a b : List ℕ) (i : ℕ) → i < 22 → get_or a i 0 ≡ get_or b i 0 →
    unlike_from (22 - (i + 1)) a b (i + 1) ≡ unlike_from (22 - i) a b i
unlike_on a b i h e =
    let left = 22 - (i + 1) in
    let turn : 22 - i ≡ suc left = omega arith in
    let next : i + 1 ≡ suc i = omega arith in
    ap (unlike_from left a b) next
    ∙ sym (ap (λ (n : ℕ). unlike_from n a b i) turn ∙ rw (eq-eqb (get_or a i 0) (get_or b i 0) e))

-- and where they are unlike, and behind the last
pub unlike_stops : (a b : List ℕ) (i : ℕ) → i < 22 → (get_or a i 0 ≡ get_or b i 0 → ⊥) → unlike_from (22 - i) a b i ≡ i
unlike_stops a b i h n =
    let turn : 22 - i ≡ suc (22 - (i + 1)) = omega arith in
    ap (λ (n : ℕ). unlike_from n a b i) turn ∙ rw (ne_eqb (get_or a i 0) (get_or b i 0) n)

pub unlike_none : (a b : List ℕ) (i : ℕ) → 22 ≤ i → unlike_from (22 - i) a b i ≡ i
unlike_none a b i h = let none : 22 - i ≡ 0 = omega arith in ap (λ (n : ℕ). unlike_from n a b i) none

pub ruleset unlike_steps = (unlike_on, unlike_stops, unlike_none)

-- the codes are alike at all digits, or unlike at the one that was found
abbrev Told : ℕ → List ℕ → List ℕ → ℕ → ℕ → Type 0
Told left a b digit found =
    ((found ≡ digit + left) × ((i : ℕ) → digit ≤ i → i < digit + left → get_or a i 0 ≡ get_or b i 0))
    ⊎ ((found < digit + left) × (get_or a found 0 ≡ get_or b found 0 → ⊥))

told : (left : ℕ) (a b : List ℕ) (digit : ℕ) → Told left a b digit (unlike_from left a b digit)
told zero a b digit = inl (omega arith, λ i l h. absurd (omega arith))
told (suc left) a b digit = go (eqb (get_or a digit 0) (get_or b digit 0)) refl (told left a b (suc digit))
  where
    go : (t : Bool) → eqb (get_or a digit 0) (get_or b digit 0) ≡ t → Told left a b (suc digit) (unlike_from left a b (suc digit)) →
        Told (suc left) a b digit (if t then unlike_from left a b (suc digit) else digit)
    go false e more = inr (omega arith, eqb-false (get_or a digit 0) (get_or b digit 0) e)
    go true e (inr found) = inr (omega (arith, found.0), found.1)
    go true e (inl alike) = inl (
      omega (arith, alike.0),
      λ i l h. ⊎_elim
          (λ q. ap (λ (k : ℕ). get_or a k 0) q ∙ eqb-true (get_or a digit 0) (get_or b digit 0) e ∙ sym (ap (λ (k : ℕ). get_or b k 0) q))
          (λ n. alike.1 i (omega arith) (omega arith))
          (eq_or_ne i digit),
    )

-- where codes are unlike they are not the same
pub unlike_not : (a b : List ℕ) (digit : ℕ) → (get_or a digit 0 ≡ get_or b digit 0 → ⊥) → same a b ≡ false
unlike_not a b digit n =
    ⊎_elim (λ e. absurd (n (ap (λ (x : List ℕ). get_or x digit 0) (same_eq a b e)))) (λ e. e) (true_or_false (same a b))

-- codes of 22 bytes are the same where they are unlike at none
pub unlike_same : (a b : List ℕ) → length a ≡ 22 → length b ≡ 22 → leb 22 (unlike_at a b) ≡ same a b
unfolding unlike_at
unlike_same a b la lb = go (unlike_from 22 a b 0) (told 22 a b 0)
  where
    go : (found : ℕ) → Told 22 a b 0 found → leb 22 found ≡ same a b
    go found (inl alike) =
        let eq = ext_get_or 0 a b (la ∙ sym lb) (λ i l. alike.1 i (omega arith) (omega arith)) in
        le-leb 22 found (omega (arith, alike.0)) ∙ sym (ap (same a) (sym eq) ∙ same_refl a)
    go found (inr apart) = lt-leb 22 found (omega (arith, apart.0)) ∙ sym (unlike_not a b found apart.1)

pub unlike_there : (a b : List ℕ) → unlike_at a b < 22 → get_or a (unlike_at a b) 0 ≡ get_or b (unlike_at a b) 0 → ⊥
unfolding unlike_at
unlike_there a b h e = go (unlike_from 22 a b 0) (told 22 a b 0) h e
  where
    go : (found : ℕ) → Told 22 a b 0 found → found < 22 → get_or a found 0 ≡ get_or b found 0 → ⊥
    go found (inl alike) h e = omega (arith, alike.0)
    go found (inr apart) h e = apart.1 e
