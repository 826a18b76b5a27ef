-- Two numbers that agree but at one place, and neighbours swapped, as lists in pieces.
use Prim.Native.Nat.{ℕ, suc, ◌+◌, ◌<◌}
use mathlib.Core.Path.{◌≡◌, sym, ap, ◌∙◌}
use mathlib.Core.List.{List, ◌∷◌, ◌++◌}
use mathlib.Core.Logic.{⊎_elim}
use native.Mathlib.Omega.{arith}
use native.Mathlib.Numerals.{add-one, add-two}
use lib.ListN.{length, get_or, take, drop, set, length-set}
use lib.Seq.{ext_get_or, get_or-set_same, get_or-set_other, set_split, split_at, drop-cons}
use Rattle.text.proofs.Numbers.{eq_or_ne}
use Rattle.slips.specs.Slips.{AgreeBut, swapped}

module _ (i : ℕ) (s t : List ℕ) (g : AgreeBut i s t) where
  pub in_pieces : i < length s → t ≡ take i s ++ get_or t i 0 ∷ drop (suc i) s
  in_pieces l =
      ext_get_or 0 t (set s i (get_or t i 0)) (simp length-set (sym g.long))
      (λ j m. ⊎_elim (λ e. rw e (sym (get_or-set_same s i (get_or t i 0) 0 l))) (λ e. sym (g.away j e)
      ∙ sym (get_or-set_other s i j (get_or t i 0) 0 e)) (eq_or_ne j i))
      ∙ set_split s i (get_or t i 0) l

  pub agree_there : (i < length s → get_or s i 0 ≡ get_or t i 0) → s ≡ t
  agree_there here = ext_get_or 0 s t g.long (λ j m. ⊎_elim (λ e. rw e (here (rw e at m))) (λ e. g.away j e) (eq_or_ne j i))

module _ (i : ℕ) (s : List ℕ) (h : i + 1 < length s) where
  pub pair_at : s ≡ take i s ++ get_or s i 0 ∷ get_or s (i + 1) 0 ∷ drop (i + 2) s
  pair_at =
      split_at s i 0 (omega arith)
      ∙ ap (λ (l : List ℕ). take i s ++ get_or s i 0 ∷ l) (rw (add-two, add-one) (drop-cons s (suc i) 0 (rw add-one at h)))

  pub swap_alike : get_or s i 0 ≡ get_or s (i + 1) 0 → swapped i s ≡ s
  swap_alike e = sym (pair_at ∙ ap (λ (x : ℕ). take i s ++ x ∷ get_or s (i + 1) 0 ∷ drop (i + 2) s) e
      ∙ sym (ap (λ (x : ℕ). take i s ++ get_or s (i + 1) 0 ∷ x ∷ drop (i + 2) s) e))
