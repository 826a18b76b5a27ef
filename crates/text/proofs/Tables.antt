-- What stands at each place of a table whose entries a rule gives.
use Prim.Native.Nat.{ℕ, zero, suc, ◌+◌, ◌<◌}
use mathlib.Core.Path.{◌≡◌, refl, sym, ap, ◌∙◌}
use native.Mathlib.Nat.{add-zero, add-suc, suc-add, zero-add, not-suc-le-zero, le_of_suc-le-suc}
use lib.ListN.{length, get_or}
use Rattle.text.specs.Tabled.{tabled}

tabled_from : {A : Type 0} (f : ℕ → A) (i n k : ℕ) (d : A) → k < n → get_or (tabled f i n) k d ≡ f (i + k)
tabled_from f i zero k d h = absurd (not-suc-le-zero h)
tabled_from f i (suc n) zero d h = ap f (sym (add-zero i))
tabled_from f i (suc n) (suc k) d h = tabled_from f (suc i) n k d (le_of_suc-le-suc h) ∙ ap f (suc-add i k ∙ sym (add-suc i k))

pub tabled_at : {A : Type 0} (f : ℕ → A) (n k : ℕ) (d : A) → k < n → get_or (tabled f 0 n) k d ≡ f k
tabled_at f n k d h = tabled_from f 0 n k d h ∙ ap f (zero-add k)

-- how many there are
pub tabled_long : {A : Type 0} (f : ℕ → A) (i n : ℕ) → length (tabled f i n) ≡ n
tabled_long f i zero = refl
tabled_long f i (suc n) = ap suc (tabled_long f (suc i) n)
