-- The text of a line: that of an allowed line is accepted, and what is accepted is the text of an allowed line.
use Prim.Native.Nat.{ℕ, ◌+◌}
use mathlib.Core.Path.{◌≡◌, sym, ap, ◌∙◌}
use mathlib.Core.Bool.{true}
use mathlib.Core.List.{List, ◌∷◌}
use lib.ListN.{length}
use Rattle.text.specs.Byte.{text_byte}
use Rattle.text.specs.Scan.{all}
use Rattle.text.proofs.Choices.{and_right}
use Rattle.fields.specs.Profile.{Rules}
use Rattle.records.specs.Record.{type_of, may_come}
use Rattle.fields.specs.Field.{tested}
use Rattle.records.specs.declared.record.Record.{Record}
use Rattle.records.specs.declared.record.Due.{Due}
use Rattle.records.proofs.Types.{type_named, named_type}
use Rattle.line.specs.Parts.{split, name_of, fields_of}
use Rattle.line.specs.Render.{text_of, plain, all_in}
use Rattle.line.specs.Told.{Told}
use Rattle.line.specs.Walk.{behind}
use Rattle.line.specs.Need.{lacks}
use Rattle.line.specs.Line.{after_walk, of_kind, of_named, of_text}
use Rattle.line.specs.declared.read.Line.{Line}
use Rattle.line.proofs.Splits.{split_some}
use Rattle.line.proofs.Plain.{split_plain, plain_split, plain_bytes}
use Rattle.line.proofs.Passing.{fine_each, each_fine}
use Rattle.line.proofs.Accepting.{TextOk}
use Rattle.grammar.specs.Grammar.{LineOk}
use Rattle.grammar.proofs.Needs.{lacks_not}
use Rattle.grammar.proofs.Fields.{each_fields, fields_each, fields_plain}
use Rattle.std.specs.Prelude.{Ok}

-- the text of an allowed line
module _ {rules : Rules} (kind : Record) (fs : List (List ℕ)) (g : LineOk rules kind fs) where
  clean : all_in plain fs ≡ true
  clean = fields_plain (rules kind) 1 (type_of kind) fs g.fields

  pub text_split : split (text_of kind fs) ≡ type_of kind ∷ fs
  text_split = plain_split kind fs clean

  pub text_bytes : all text_byte (text_of kind fs) ≡ true
  text_bytes = plain_bytes kind fs clean

  pub text_accepted : (due : Due) (at : ℕ) → may_come due kind ≡ true →
      of_text (record { rules = rules; due = due }) at (text_of kind fs) ≡
      Ok (record { kind = kind; count = length fs; next = at + length (text_of kind fs) + 2 })
  unfolding of_text of_named of_kind after_walk
  text_accepted due at m =
      simp (
        text_split,
        type_named kind,
        m,
        g.counted,
        each_fine (tested (rules kind)) behind 1 (at + length (type_of kind) + 1) (type_of kind) fs
            (fields_each (rules kind) 1 (type_of kind) fs g.fields),
        (lacks_not kind fs).1 g.served,
      )

-- an accepted text is that of an allowed line
module _ (told : Told) (at : ℕ) (text : List ℕ) (line : Line) (bytes : all text_byte text ≡ true) (g : TextOk told at text line) where
  name : name_of text ≡ type_of line.kind
  name = named_type (name_of text) line.kind g.known

  pub text_allowed : LineOk told.rules line.kind (fields_of text)
  text_allowed =
      let clean : all_in plain (name_of text ∷ fields_of text) ≡ true = ap (all_in plain) (sym (split_some text)) ∙ split_plain text bytes in
      let each = fine_each (tested (told.rules line.kind)) behind 1 (at + length (name_of text) + 1) (name_of text) (fields_of text) g.walks in
      let fields = each_fields (told.rules line.kind) 1 (name_of text) (fields_of text)
      (and_right (all plain (name_of text)) (all_in plain (fields_of text)) clean) each in
      record {
        counted = g.fits;
        fields = rw name at fields;
        served =
            (lacks_not line.kind (fields_of text)).0
            (ap (lacks line.kind) (ap (λ (n : List ℕ). n ∷ fields_of text) (sym name) ∙ sym (split_some text)) ∙ g.served);
      }
