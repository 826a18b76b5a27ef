-- What a part of a buffer that was filled adds to what lies in front of it.
use Rattle.std.proofs.Common.{◌≡◌, ℕ, ◌+◌, ◌≤◌, List, ◌++◌, length, take, sym, ap, ◌∙◌, subst, length-take-le}
use Rattle.std.proofs.Math.Seq.{take-append-add}
use Rattle.std.proofs.lemmas.List.{take-append-le}
use Rattle.std.specs.Prelude.{Option}
use Rattle.std.specs.Io.KnownBytes.{Consumes}
use Rattle.std.proofs.KnownBytes.{Consumes-trans}
use borrow.Rule.Slice.PartMut.{put_mid, post_of}

-- n bytes of the part stand behind the front
pub filled_on : (there k n : ℕ) (buffer part : List ℕ) → there ≤ length buffer → n ≤ length part
    → take there buffer ++ take n part ≡ take (there + n) (put_mid there k buffer part)
filled_on there k n buffer part within fits =
    let front = take there buffer in
    ap (λ l. front ++ l) (sym (take-append-le n part (post_of there k buffer) fits))
    ∙ sym (take-append-add front (part ++ post_of there k buffer) n)
    ∙ ap (λ m. take (m + n) (put_mid there k buffer part)) (length-take-le there buffer within)

-- a reader loses n bytes to the part, behind those that it lost to the front
pub consumes_on : (before between after : Option (List ℕ)) (there k n : ℕ) (buffer part : List ℕ) → there ≤ length buffer → n ≤ length part
    → Consumes before between (take there buffer) → Consumes between after (take n part)
    → Consumes before after (take (there + n) (put_mid there k buffer part))
consumes_on before between after there k n buffer part within fits front more =
    subst (Consumes before after) (filled_on there k n buffer part within fits)
    (Consumes-trans before between after (take there buffer) (take n part) front more)
