-- Document 01, 'The file': the bytes that a line has.
use Rattle.std.specs.Prelude.{ℕ, Bool, true, ◌&&◌, List, [], ◌∷◌, ◌++◌}
use Rattle.text.specs.Byte.{text_byte}
use Rattle.text.specs.Quoted.{bytes}
use Rattle.text.specs.Scan.{all}
use Rattle.records.specs.Record.{type_of}
use Rattle.records.specs.declared.record.Record.{Record}
use Rattle.line.specs.Parts.{in_field}

-- "Semicolons divide fields": each field stands after a semicolon
abbrev pub joined : List (List ℕ) → List ℕ
joined [] = []
joined (f ∷ fs) = bytes ";" ++ f ++ joined fs

-- "The first field is the record type. Fields are numbered from 1 after it."
abbrev pub text_of : Record → List (List ℕ) → List ℕ
text_of kind fs = type_of kind ++ joined fs

-- "A line runs to its first other byte, which must be CR followed by LF."
abbrev pub render : Record → List (List ℕ) → List ℕ
render kind fs = text_of kind fs ++ bytes "\r\n"

-- a byte that may stand in a field: a text byte, and no semicolon, since "nothing quotes them"
abbrev pub plain : ℕ → Bool
plain b = text_byte b && in_field b

-- every byte of every part passes the test
abbrev pub all_in : (ℕ → Bool) → List (List ℕ) → Bool
all_in ok [] = true
all_in ok (f ∷ fs) = all ok f && all_in ok fs
