-- A table that is written at the front of an output, entry by entry.
use Rattle.std.proofs.Common.{◌≡◌, ℕ, zero, suc, ◌+◌, ◌<◌, ◌≤◌, List, [], ◌∷◌, ◌++◌, length, get_or, drop, set, sym, refl, ap, ◌∙◌}
use Rattle.std.proofs.Common.{add-zero, add-suc, suc-add, zero-add, add-one, arith, length-append, drop-cons, drop_at}
use lib.Seq.{set_at, get_or_at, append_snoc}
use Rattle.text.specs.Placed.{written}
use Rattle.text.specs.Tabled.{tabled}
use Rattle.text.proofs.Tables.{tabled_long}

pub tabled_more : {A : Type 0} (f : ℕ → A) (i n : ℕ) → tabled f i (suc n) ≡ tabled f i n ++ (f (i + n) ∷ [])
tabled_more f i zero = rw add-zero
tabled_more f i (suc n) = rw (add-suc i n, ← suc-add i n) (ap (λ l. f i ∷ l) (tabled_more f (suc i) n))

-- two rules that agree on the entries
pub tabled_alike : {A : Type 0} (f g : ℕ → A) (i n : ℕ) → ((k : ℕ) → k < n → f (i + k) ≡ g (i + k)) → tabled f i n ≡ tabled g i n
tabled_alike f g i zero e = refl
tabled_alike f g i (suc n) e =
    let here : f i ≡ g i = rw add-zero at (e 0 (omega arith)) in
    rw (here, tabled_alike f g (suc i) n (λ k l. rw (suc-add i k, ← add-suc i k) (e (suc k) (omega arith))))

-- one entry more: each premise is a fact that the loop has
module _ (f : ℕ → ℕ) (before out : List ℕ) (i : ℕ) (is : out ≡ written before 0 (tabled f 0 i)) (l : i < length before) where
  pub table_rest : get_or out i 0 ≡ get_or before i 0
  table_rest =
      let n : 0 + length (tabled f 0 i) ≡ i = omega (arith, tabled_long f 0 i) in
      rw (is, n, drop-cons before i 0 l) (get_or_at (tabled f 0 i) (get_or before i 0) (drop (suc i) before) 0 i (tabled_long f 0 i))

  pub table_on : (v : ℕ) → v ≡ f i → set out i v ≡ written before 0 (tabled f 0 (i + 1))
  table_on v e =
      let n : 0 + length (tabled f 0 i) ≡ i = omega (arith, tabled_long f 0 i) in
      let m : 0 + length (tabled f 0 i ++ (f i ∷ [])) ≡ suc i = omega (arith, tabled_long f 0 i, length-append (tabled f 0 i) (f i ∷ [])) in
      let more : tabled f 0 (suc i) ≡ tabled f 0 i ++ (f i ∷ []) = tabled_more f 0 i ∙ rw zero-add in
      let on : set out i v ≡ written before 0 (tabled f 0 i ++ (f i ∷ [])) =
      rw (m, is, n, drop-cons before i 0 l, e)
      (set_at (tabled f 0 i) (get_or before i 0) (drop (suc i) before) (f i) i (tabled_long f 0 i)
      ∙ sym (append_snoc (tabled f 0 i) (f i) (drop (suc i) before)))
      in
      rw add-one (on ∙ ap (λ t. written before 0 t) (sym more))

-- the whole front written anew
pub written_again : (out a b : List ℕ) → length a ≡ length b → length a ≤ length out → written (written out 0 a) 0 b ≡ written out 0 b
written_again out a b e l =
    let n : 0 + length b ≡ length a = omega arith in
    let m : 0 + length a ≡ length a = omega arith in
    rw (n, m, drop_at a (drop (length a) out) (length a) refl)
