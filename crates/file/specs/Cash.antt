-- Document 01, 'Whole file': "the cash total in cents, which is the sum of 060.3 over lines with code 006 or 022 and currency `EUR`".
use Rattle.std.specs.Prelude.{ℕ, List, [], get_or, if◌then◌else◌}
use Rattle.text.specs.Quoted.{bytes}
use Rattle.text.specs.Scan.{same}
use Rattle.forms.specs.Amount.{cents, amount}
use Rattle.fields.specs.Form.{is_cash}
use Rattle.records.specs.Record.{◌is_a◌}
use Rattle.records.specs.declared.record.Record.{Record}
use Rattle.records.specs.declared.record.Record.TheVariants.{Feature}

-- an amount in cents
abbrev pub cents_of : List ℕ → ℕ
cents_of f = if amount f then cents f else 0

-- what the parts of a 060 line add
unfoldable pub cash_in : List (List ℕ) → ℕ
cash_in parts =
    if is_cash (get_or parts 1 []) then (if same (get_or parts 4 []) (bytes "EUR") then cents_of (get_or parts 3 []) else 0)
    else 0

unfoldable pub cash_of : Record → List (List ℕ) → ℕ
cash_of kind parts = if kind is_a Feature then cash_in parts else 0
