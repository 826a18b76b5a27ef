-- Document 02, request 5: what it means that a file names version 7, said of its bytes.
use Rattle.std.specs.Prelude.{ℕ, ◌≡◌, true, false, List, [], ◌∷◌, ◌++◌}
use Rattle.text.specs.Byte.{text_byte}
use Rattle.text.specs.Quoted.{bytes}
use Rattle.records.specs.Record.{type_of}
use Rattle.records.specs.declared.record.Record.TheVariants.{Header}
use Rattle.line.specs.Parts.{field_no}
use Rattle.line.specs.Render.{text_of, plain, all_in}

-- "A line runs to its first other byte": no text byte stands there, or the file ends
abbrev pub EndsText : List ℕ → Type 0
EndsText [] = Unit {0}
EndsText (b ∷ behind) = text_byte b ≡ false

-- the first line is a 010 line whose field 6 is the one byte `7`, whether it ends well or not
pub record SaysSeven (file : List ℕ) : Type 0 where
  pub fields : List (List ℕ)
  pub behind : List ℕ
  pub there : file ≡ text_of Header fields ++ behind
  pub clean : all_in plain (type_of Header ∷ fields) ≡ true
  pub ends : EndsText behind
  pub says : field_no fields 6 ≡ bytes "7"
