-- A date-time is as long as its pattern.
use Prim.Native.Nat.{ℕ}
use mathlib.Core.Path.{◌≡◌, sym}
use mathlib.Core.Bool.{true}
use mathlib.Core.List.{List}
use lib.ListN.{length}
use Rattle.text.specs.Quoted.{bytes}
use Rattle.text.proofs.Scans.{pair_lengths}
use Rattle.forms.specs.Date.{stands_for, like}

pub nineteen : (s : List ℕ) → like (bytes "0000-00-00T00:00:00") s ≡ true → length s ≡ 19
unfolding like
nineteen s e = sym (pair_lengths stands_for (bytes "0000-00-00T00:00:00") s e)
