-- The step of the carry as a table (document 02, request 4).
--
-- For the carry 36 and the value 0 the entry is number (36 - 1) * 36 + 0, that is 1260, counted from 0: 36 + 0 leaves 0, read as 36; twice
-- that is 72, which leaves 35 modulo 37 (`example_entry`).
use Rattle.std.specs.Prelude.{ℕ, ◌+◌, ◌-◌, ◌*◌, ◌/◌, ◌%◌, List}
use Rattle.text.specs.Tabled.{tabled}
use Rattle.check_characters.specs.Mod37.{step}

-- "Hold the step for carries 1 to 36 and values 0 to 35 as a table of 1,296 numbers, carry by carry": 36 entries have one carry in common
unfoldable pub steps : List ℕ
steps = tabled (λ entry. step (entry / 36 + 1) (entry % 36)) 0 1296

-- which of them is for a carry and a value
abbrev pub entry_for : ℕ → ℕ → ℕ
entry_for carry value = (carry - 1) * 36 + value
