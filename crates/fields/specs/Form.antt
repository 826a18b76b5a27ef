-- Document 01, 'The file': the form of each filled field. "Forms apply to filled fields."
use Rattle.std.specs.Prelude.{ℕ, Bool, true, false, ◌||◌, List, if◌then◌else◌, ⊤, Result, Ok, Err}
use Rattle.text.specs.Quoted.{bytes}
use Rattle.text.specs.Scan.{same}
use Rattle.forms.specs.Shape.{digits, purpose_text}
use Rattle.check_characters.specs.Iban.{checked_iban}
use Rattle.check_digits.specs.Identcode.{checked_identcode}
use Rattle.refusal.specs.declared.Refusal.{Refusal}

-- a form is a test of a field and of the field in front of it, which is "the country or feature code beside it where the rule
-- names one"
abbrev pub Form : Type 0
Form = List ℕ → List ℕ → Bool

-- a form that asks for nothing beside it
abbrev pub alone : (List ℕ → Bool) → Form
alone test beside f = test f

-- "Where one is `AT`, the filled post code of that address (020.6, 030.8, 030.21) is four digits."
abbrev pub post_code : Form
post_code country f = if same country (bytes "AT") then digits 4 f else true

-- "under 006 and 022"
unfoldable pub is_cash : List ℕ → Bool
is_cash code = same code (bytes "006") || same code (bytes "022")

-- "Field 8, and 2 under 006 and 022, hold only a-z A-Z 0-9 . , : ' + - / ( ) ? and space."
abbrev pub reference : Form
reference code f = if is_cash code then purpose_text f else true

-- "In a file all these are 8."
abbrev pub accepted : Result ⊤ Refusal → Bool
accepted (Ok _) = true
accepted (Err refusal) = false

abbrev pub is_iban : List ℕ → Bool
is_iban f = accepted (checked_iban f)

-- document 02, request 2: "040.1 must pass from now on"; "a failing code in a file is 8"
abbrev pub is_identcode : List ℕ → Bool
is_identcode f = accepted (checked_identcode f)

-- "Field 39 is the carrier's own and must be empty"
abbrev pub nothing : List ℕ → Bool
nothing f = false
