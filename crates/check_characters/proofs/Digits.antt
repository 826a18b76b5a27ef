-- The number that an IBAN's symbols stand for, walked over symbol by symbol, and its remainder by 97.
use Prim.Native.Nat.{ℕ, ◌+◌, ◌-◌, ◌*◌, ◌/◌, ◌%◌, ◌≤◌, ◌<◌}
use mathlib.Core.Path.{◌≡◌, refl, sym, ap, ◌∙◌}
use mathlib.Core.Bool.{Bool, true, false}
use mathlib.Core.List.{List, [], ◌∷◌, ◌++◌, append_assoc}
use native.Mathlib.Omega.{arith}
use native.Mathlib.Nat.{mod-eq_of_lt, div-add-mod, add-mul-mod_self_left}
use native.Mathlib.Numerals.{add-one}
use lib.ListN.{length, take, drop, get_or, drop_of_length-le, length-drop}
use lib.Seq.{drop-cons, take_all}
use Rattle.std.specs.Prelude.{if◌then◌else◌}
use Rattle.text.specs.Byte.{capital}
use Rattle.check_characters.specs.Symbol.{value_of}
use Rattle.check_characters.specs.Iban.{digits_of, spread, decimal_from, iban_number}

pub decimal_append : (a : ℕ) (p q : List ℕ) → decimal_from a (p ++ q) ≡ decimal_from (decimal_from a p) q
decimal_append a [] q = refl
decimal_append a (d ∷ p) q = decimal_append (10 * a + d) p q

pub spread_append : (p q : List ℕ) → spread (p ++ q) ≡ spread p ++ spread q
spread_append [] q = refl
spread_append (b ∷ p) q = ap (λ (w : List ℕ). digits_of b ++ w) (spread_append p q) ∙ sym (append_assoc (digits_of b) (spread p) (spread q))

-- a run of symbols, and then another
run_append : (n : ℕ) (p q : List ℕ) → decimal_from n (spread (p ++ q)) ≡ decimal_from (decimal_from n (spread p)) (spread q)
run_append n p q = ap (decimal_from n) (spread_append p q) ∙ decimal_append n (spread p) (spread q)

-- a symbol takes the number ten or a hundred times, and adds its value
abbrev pub weight : ℕ → ℕ
weight b = if capital b then 100 else 10

pub weighed : (r b : ℕ) → decimal_from r (digits_of b) ≡ weight b * r + value_of b
unfolding digits_of
weighed r b = go (capital b)
  where
    go : (t : Bool) → decimal_from r (if t then value_of b / 10 ∷ value_of b % 10 ∷ [] else value_of b ∷
        []) ≡ (if t then 100 else 10) * r + value_of b
    go true = omega arith
    go false = refl

-- one symbol more
module _ (n b : ℕ) where
  alone : decimal_from n (spread (b ∷ [])) ≡ weight b * n + value_of b
  alone = decimal_append n (digits_of b) [] ∙ weighed n b

  pub behind_letter : capital b ≡ true → decimal_from n (spread (b ∷ [])) ≡ 100 * n + value_of b
  behind_letter e = alone ∙ rw e

  pub behind_digit : capital b ≡ false → decimal_from n (spread (b ∷ [])) ≡ 10 * n + value_of b
  behind_digit e = alone ∙ rw e

-- four symbols, one after the other
pub behind_each : (n a b c d k l m r : ℕ) → k ≡ decimal_from n (spread (a ∷ [])) → l ≡ decimal_from k (spread (b ∷ [])) →
    m ≡ decimal_from l (spread (c ∷ [])) → r ≡ decimal_from m (spread (d ∷ [])) → r ≡ decimal_from n (spread (a ∷ b ∷ c ∷ d ∷ []))
behind_each n a b c d k l m r ek el em er =
    er ∙ next l m c (d ∷ []) em ∙ next k l b (c ∷ d ∷ []) el ∙ next n k a (b ∷ c ∷ d ∷ []) ek
  where
    next : (n m b : ℕ) (s : List ℕ) → m ≡ decimal_from n (spread (b ∷ [])) → decimal_from m (spread s) ≡ decimal_from n (spread (b ∷ s))
    next n m b s e = ap (λ (x : ℕ). decimal_from x (spread s)) e ∙ sym (run_append n (b ∷ []) s)

-- a remainder by 97 goes by remainders
pub mod_scale : (k a d : ℕ) → (k * a + d) % 97 ≡ (k * (a % 97) + d) % 97
mod_scale k a d =
    let e : k * a + d ≡ (k * (a % 97) + d) + 97 * (k * (a / 97)) = omega (arith, ap (λ (x : ℕ). k * x) (div-add-mod a 97)) in
    ap (λ (x : ℕ). x % 97) e ∙ add-mul-mod_self_left (k * (a % 97) + d) 97 (k * (a / 97))

decimal_mod : (a b : ℕ) (s : List ℕ) → a % 97 ≡ b % 97 → decimal_from a s % 97 ≡ decimal_from b s % 97
decimal_mod a b [] e = e
decimal_mod a b (d ∷ s) e =
    decimal_mod (10 * a + d) (10 * b + d) s (mod_scale 10 a d ∙ ap (λ (x : ℕ). (10 * x + d) % 97) e ∙ sym (mod_scale 10 b d))

-- where the remainder goes on in a number's place, the remainder in the end is the same
lessened : (a : ℕ) (s : List ℕ) → decimal_from (a % 97) s % 97 ≡ decimal_from a s % 97
lessened a s = decimal_mod (a % 97) a s (omega arith)

-- and so behind a run of which the number a was taken
run_on : (n a : ℕ) (p q : List ℕ) → a ≡ decimal_from n (spread p) → decimal_from (a % 97) (spread q) % 97 ≡ decimal_from n (spread (p ++ q)) % 97
run_on n a p q e = lessened a (spread q) ∙ ap (λ (x : ℕ). decimal_from x (spread q) % 97) e ∙ ap (λ (x : ℕ). x % 97) (sym (run_append n p q))

four_first : (s : List ℕ) → 4 ≤ length s → s ≡ get_or s 0 0 ∷ get_or s 1 0 ∷ get_or s 2 0 ∷ get_or s 3 0 ∷ drop 4 s
four_first (a ∷ b ∷ c ∷ d ∷ s) h = refl
four_first (a ∷ b ∷ c ∷ []) h = absurd (omega arith)
four_first (a ∷ b ∷ []) h = absurd (omega arith)
four_first (a ∷ []) h = absurd (omega arith)
four_first [] h = absurd (omega arith)

-- a walk over the symbols s
module _ (s : List ℕ) (n : ℕ) where
  pub one_on : (i a : ℕ) → i < length s → a ≡ decimal_from n (spread (get_or s i 0 ∷ [])) →
      decimal_from (a % 97) (spread (drop (i + 1) s)) % 97 ≡ decimal_from n (spread (drop i s)) % 97
  one_on i a h ea = run_on n a (get_or s i 0 ∷ []) (drop (i + 1) s) ea ∙ rw (add-one, drop-cons s i 0)

  pub four_on : (m : ℕ) → 4 ≤ length s → m ≡ decimal_from n (spread (get_or s 0 0 ∷ get_or s 1 0 ∷ get_or s 2 0 ∷ get_or s 3 0 ∷ [])) →
      decimal_from (m % 97) (spread (take (length s - 4) (drop 4 s))) % 97 ≡ decimal_from n (spread s) % 97
  four_on m h e =
      let all : take (length s - 4) (drop 4 s) ≡ drop 4 s = take_all (length s - 4) (drop 4 s) (simp length-drop (omega arith)) in
      rw all (run_on n m (get_or s 0 0 ∷ get_or s 1 0 ∷ get_or s 2 0 ∷ get_or s 3 0 ∷ []) (drop 4 s) e
      ∙ ap (λ (w : List ℕ). decimal_from n (spread w) % 97) (sym (four_first s h)))

  pub walk_ends : (i : ℕ) → n < 97 → length s ≤ i → decimal_from n (spread (drop i s)) % 97 ≡ n
  walk_ends i l h = rw (drop_of_length-le s) (mod-eq_of_lt l)

-- the account part, and from there the first four
pub of_whole : (s : List ℕ) (account r : ℕ) → account ≡ decimal_from 0 (spread (drop 4 s)) % 97 →
    r ≡ decimal_from account (spread (take 4 s)) % 97 → r ≡ iban_number s % 97
of_whole s account r ea er = er ∙ rw ea (run_on 0 (decimal_from 0 (spread (drop 4 s))) (drop 4 s) (take 4 s) refl)
