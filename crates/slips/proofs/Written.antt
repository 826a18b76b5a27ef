-- A number that was written with its check, whatever rule the check follows.
use Prim.Native.Nat.{ℕ, suc, ◌+◌, ◌-◌, ◌≤◌}
use mathlib.Core.Path.{◌≡◌, sym, ap, ◌∙◌}
use mathlib.Core.Bool.{Bool}
use mathlib.Core.List.{List, [], ◌∷◌, ◌++◌}
use native.Mathlib.Omega.{arith}
use lib.ListN.{length, get_or, take, drop, length-append, length-take}
use lib.Seq.{take_at, take_all, take-suc, get_or-take, append_snoc}
use Rattle.check_characters.specs.Answer.{issued_to}
use Rattle.slips.specs.Exactly.{Shaped, body_of}
use Rattle.std.specs.Prelude.{Ok}

-- the output begins with body and check
pub written_start : (body out after : List ℕ) (check n : ℕ) → length body + 1 ≡ n → after ≡ issued_to (Ok n) body check out →
    take n after ≡ body ++ (check ∷ [])
unfolding issued_to
written_start body out after check n long e =
    ap (take n) (e ∙ sym (append_snoc body check (drop n out)))
    ∙ take_at (body ++ (check ∷ [])) (drop n out) n (length-append body (check ∷ []) ∙ long)

-- what stands in front of a place still has its shape
pub front_shaped : (ok : ℕ → ℕ → Bool) (s : List ℕ) (m : ℕ) → Shaped ok s → Shaped ok (take m s)
front_shaped ok s m shaped i l = let r = length-take m s in rw (get_or-take m s i 0 (omega arith)) (shaped i (omega arith))

module _ (s : List ℕ) (some : 1 ≤ length s) where
  pub all_and_last : s ≡ body_of s ++ (get_or s (length s - 1) 0 ∷ [])
  all_and_last =
      let e : suc (length s - 1) ≡ length s = omega arith in
      sym (take_all (suc (length s - 1)) s (omega arith)) ∙ take-suc s (length s - 1) 0 (omega arith)

  -- a number's body with its own last symbol is the number
  pub written_again : (out : List ℕ) (check : ℕ) → check ≡ get_or s (length s - 1) 0 →
      issued_to (Ok (length s)) (body_of s) check out ≡ s ++ drop (length s) out
  unfolding issued_to
  written_again out check last =
      ap (λ (x : ℕ). body_of s ++ x ∷ drop (length s) out) last
      ∙ sym (append_snoc (body_of s) (get_or s (length s - 1) 0) (drop (length s) out))
      ∙ ap (λ (x : List ℕ). x ++ drop (length s) out) (sym all_and_last)
