-- A file is refused, by a number and at a place, exactly when its own lines say so.
use Prim.Native.Nat.{ℕ, ◌-◌}
use mathlib.Core.Path.{◌≡◌, sym, ap, ◌∙◌}
use mathlib.Core.List.{List, []}
use mathlib.Core.Logic.{◌↔◌}
use native.Mathlib.Omega.{arith}
use lib.ListN.{replicate}
use Rattle.refusal.specs.declared.Refusal.{Refusal}
use Rattle.file.specs.Lent.{Lent}
use Rattle.file.specs.File.{list_of, Judges}
use Rattle.file.proofs.Listing.{none_listed}
use Rattle.refused.specs.File.{RefusedFile}
use Rattle.refused.proofs.Refusing.{judged_refused}
use Rattle.refused.proofs.Reaching.{refused_judged}
use Rattle.std.specs.Prelude.{Err}

-- a file is refused, by this number and at this place, exactly when its own lines say so; the list then holds only zeros
pub refused_exactly : (s : List ℕ) (lent : Lent) (refusal : Refusal) (list : List ℕ) →
    Judges s lent (Err refusal) list ↔ (RefusedFile s lent refusal × (list ≡ replicate lent.words 0))
refused_exactly s lent refusal list = (forth, back)
  where
    zeros : list_of lent.words [] ≡ replicate lent.words 0
    zeros = let n : lent.words - 0 ≡ lent.words = omega arith in ap (λ (k : ℕ). replicate k 0) n

    forth : Judges s lent (Err refusal) list → RefusedFile s lent refusal × (list ≡ replicate lent.words 0)
    forth j = (judged_refused s lent refusal (sym j.0), j.1 ∙ ap (list_of lent.words) (none_listed s lent (sym j.0)) ∙ zeros)

    back : RefusedFile s lent refusal × (list ≡ replicate lent.words 0) → Judges s lent (Err refusal) list
    back g =
        let e = refused_judged s lent refusal g.0 in
        (sym e, g.1 ∙ sym zeros ∙ ap (list_of lent.words) (sym (none_listed s lent e)))
