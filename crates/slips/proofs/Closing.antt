-- The check behind a walk over all of a run, whatever walked it (docs/landings/06-days-numbers.md names the law).
use Prim.Native.Nat.{ℕ, ◌≤◌}
use mathlib.Core.Path.{◌≡◌, ap, ◌∙◌}
use mathlib.Core.List.{List}
use lib.ListN.{length, take}
use Rattle.check_characters.specs.Symbol.{symbol_of}
use Rattle.check_characters.specs.Mod37.{closes, first_value, carry, check_of}
use Rattle.check_characters.proofs.Carries.{carry_ends}

pub check_behind : (r c i : ℕ) (s : List ℕ) → c ≡ carry (take i s) → length s ≤ i → r ≡ symbol_of (first_value (closes c) 0 36) → r ≡ check_of s
unfolding check_of
check_behind r c i s ec h er = er ∙ ap (λ x. symbol_of (first_value (closes x) 0 36)) (carry_ends s i c ec h)
