-- What a caller lends beside the file. Of the list for the lines only its length counts: what it held before does not.
use Rattle.std.specs.Prelude.{ℕ, List}

pub record Lent : Type 0 where
  -- "a list the caller lends (pairs of capitals)"
  pub countries : List ℕ
  -- the words of the list for the lines
  pub words : ℕ
