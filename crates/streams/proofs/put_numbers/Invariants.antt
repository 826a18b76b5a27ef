-- The word and the numbers so far stand at the line's front, where it has room for all. What the runs to come make of the line is what
-- all runs make of it as it was.
use Rattle.std.proofs.Common.{◌≡◌, ℕ, ◌+◌, ◌*◌, ◌<◌, List, ◌∷◌, length, drop}
use Rattle.streams.specs.Lines.{AddsAll, runs}
use Rattle.streams.proofs.Listing.{Listing}
use Rattle.streams.proofs.put_numbers.Given as goal

abbrev pub invariant-loop-value : goal.invariant-loop-value
invariant-loop-value l =
    (length l.line ≡ length l.fn.line)
    × (length l.word + 21 * length l.values < length l.fn.line → Listing l.word l.values l.line l.fill l.value-index)
    × ((count : ℕ) (after : List ℕ) → AddsAll l.line l.fill (runs (drop l.value-index l.values)) count after
    → AddsAll l.fn.line 0 (l.word ∷ runs l.values) count after)
