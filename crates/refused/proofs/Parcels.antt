-- The identcode of a 040 line: on an allowed line it passes, and one that fails is refused by 8 where it stands.
use Prim.Native.Nat.{ℕ, ◌+◌, ◌≤◌}
use mathlib.Core.Path.{◌≡◌, refl, sym, ap, ◌∙◌}
use mathlib.Core.List.{List, [], ◌∷◌, ◌++◌}
use native.Mathlib.Omega.{arith}
use lib.ListN.{length, drop, length-append}
use Rattle.refusal.specs.Table.{because}
use Rattle.refusal.specs.declared.Reason.TheVariants.{FieldForm}
use Rattle.check_digits.specs.Identcode.{checked_identcode}
use Rattle.records.specs.Record.{type_of}
use Rattle.fields.specs.Form.{is_identcode}
use Rattle.fields.specs.Profile.{profile, width_in_table, width_of, has_form}
use Rattle.records.specs.declared.version.Version.{Version}
use Rattle.records.specs.declared.version.Version.TheVariants.{Five, Seven}
use Rattle.records.specs.declared.record.Due.{Due}
use Rattle.records.specs.declared.record.Due.TheVariants.{First}
use Rattle.records.specs.declared.record.Record.TheVariants.{Parcel}
use Rattle.fields.proofs.Forms.{accepted_is, not_accepted}
use Rattle.fields.proofs.Rules.{sound}
use Rattle.text.specs.Quoted.{bytes}
use Rattle.line.specs.Parts.{field_no}
use Rattle.line.specs.Render.{joined}
use Rattle.line.specs.Told.{Told}
use Rattle.line.specs.Line.{line_answer, file_limit}
use Rattle.grammar.specs.Grammar.{Filled, LineOk}
use Rattle.file.specs.Lent.{Lent}
use Rattle.file.specs.Version.{version_of}
use Rattle.allowed.specs.Allowed.{FileLine, file_bytes}
use Rattle.refused.specs.File.{due_behind, told_behind, Begins, RefusedFile}
use Rattle.refused.specs.Line.{Counted, RefusedField, RefusedLine, RefusedAt}
use Rattle.refused.proofs.Lines.{line_refused_exactly}
use Rattle.std.specs.Prelude.{Ok, Err}

-- the row of 040.1: its form is the check, it must be filled, and nothing beside it makes it narrower
parcel_form : (version : Version) (beside f : List ℕ) → has_form (profile version Parcel) 1 beside f ≡ is_identcode f
unfolding profile has_form
parcel_form version beside f = refl

parcel_width : (version : Version) (beside : List ℕ) → width_of (profile version Parcel) 1 beside ≡ width_in_table (profile version Parcel) 1
unfolding profile width_of
parcel_width Five beside = refl
parcel_width Seven beside = refl

pub parcel_passes : (version : Version) (fs : List (List ℕ)) → LineOk (profile version) Parcel fs → checked_identcode (field_no fs 1) ≡ Ok tt
parcel_passes version [] g = let z : ◌≡◌ {A = ℕ} 0 1 = cc in absurd (omega arith)
parcel_passes version (f ∷ fs) g =
    accepted_is (checked_identcode f)
    (sym (parcel_form version (type_of Parcel) f) ∙ g.fields.0.formed (g.fields.0.filled (sound version).coded))

-- the line whose record and count are right, and whose code fails
module _ (version : Version) (due : Due) (at : ℕ) (left : List ℕ) (code : List ℕ) (more : List (List ℕ)) where
  abbrev told : Told
  told = record { rules = profile version; due = due }

  module _ (counted : Counted told left Parcel (code ∷ more)) (filled : Filled code) (narrow : length code ≤ width_in_table (profile version Parcel) 1)
      (fails : checked_identcode code ≡ Ok tt → ⊥) where
    code_refused : RefusedLine told at left (because FieldForm (at + 4))
    code_refused =
        RefusedLine.bad_field Parcel [] code more FieldForm counted
        (record {
          before = tt;
          here = RefusedField.formless (rw (parcel_width version (type_of Parcel)) narrow) filled
              (parcel_form version (type_of Parcel) code ∙ not_accepted (checked_identcode code) fails);
        })

    something_left : left ≡ [] → ⊥
    something_left e =
        let line = joined (code ∷ more) ++ bytes "\r\n" ++ counted.stands.behind in
        omega (arith, ap length (sym e ∙ counted.stands.there), length-append (type_of Parcel) line)

pub failing_code : (version : Version) (due : Due) (s : List ℕ) (at : ℕ) (code : List ℕ) (more : List (List ℕ)) → length s ≤ file_limit →
    at ≤ length s → Counted (told version due at (drop at s) code more) (drop at s) Parcel (code ∷ more) → Filled code →
    length code ≤ width_in_table (profile version Parcel) 1 → (checked_identcode code ≡ Ok tt → ⊥) →
    line_answer (told version due at (drop at s) code more) s at ≡ Err (because FieldForm (at + 4))
failing_code version due s at code more short inside counted filled narrow fails =
    (line_refused_exactly (told version due at (drop at s) code more) s at (because FieldForm (at + 4))).1
    (RefusedAt.line_refused (because FieldForm (at + 4)) short inside
    (code_refused version due at (drop at s) code more counted filled narrow fails))

pub failing_file : (s : List ℕ) (lent : Lent) (ls : List FileLine) (left code : List ℕ) (more : List (List ℕ)) →
    Begins lent.countries s ls left → length ls ≤ lent.words → Counted (told_behind s ls) left Parcel (code ∷ more) → Filled code →
    length code ≤ width_in_table (profile (version_of s) Parcel) 1 → (checked_identcode code ≡ Ok tt → ⊥) →
    RefusedFile s lent (because FieldForm (length (file_bytes ls) + 4))
failing_file s lent ls left code more begins room counted filled narrow fails =
    let at = length (file_bytes ls) in
    let due = due_behind First ls in
    RefusedFile.line_refused ls left (because FieldForm (at + 4)) begins room
    (something_left (version_of s) due at left code more counted filled narrow fails)
    (code_refused (version_of s) due at left code more counted filled narrow fails)
