-- The words of forks: what one is put together from is read out of it again, and where it leads a code.
use Prim.Native.Nat.{ℕ, ◌+◌, ◌<◌, ◌≤◌}
use mathlib.Core.Path.{◌≡◌}
use mathlib.Core.Bool.{Bool, true, false}
use mathlib.Core.List.{List}
use native.Mathlib.Omega.{arith}
use lib.Dec.{ltb}
use lib.ListN.{get_or}
use Rattle.std.specs.Prelude.{if◌then◌else◌}
use Rattle.identcodes.specs.Tree.{fork, digit_of, byte_of, pair_of, leads_to}

module _ (digit byte pair : ℕ) (hb : byte < 256) (hp : pair < 65536) where
  pub fork_pair : pair_of (fork digit byte pair) ≡ pair
  unfolding pair_of fork
  fork_pair = omega arith

  pub fork_byte : byte_of (fork digit byte pair) ≡ byte
  unfolding byte_of fork
  fork_byte = omega arith

  pub fork_digit : digit_of (fork digit byte pair) ≡ digit
  unfolding digit_of fork
  fork_digit = omega arith

  pub fork_is : 1 ≤ byte → 65536 ≤ fork digit byte pair
  unfolding fork
  fork_is h = omega arith

-- a fork leads to one of its pair
pub lead_pair : (word : ℕ) (code : List ℕ) → (pair_of word ≤ leads_to word code) × (leads_to word code ≤ pair_of word + 1)
lead_pair word code = go (ltb (get_or code (digit_of word) 0) (byte_of word))
  where
    go : (t : Bool) → (pair_of word ≤ (if t then pair_of word else pair_of word + 1)) × ((if t then pair_of word else pair_of word + 1) ≤
        pair_of word + 1)
    go true = (omega arith, omega arith)
    go false = (omega arith, omega arith)
