-- One line: it is accepted exactly when an allowed line stands at the offset, and the bytes can be read in one way only.
use Prim.Native.Nat.{ℕ, suc, ◌+◌, ◌-◌, ◌≤◌}
use mathlib.Core.Path.{◌≡◌, refl, sym, ap, ◌∙◌}
use mathlib.Core.Bool.{true}
use mathlib.Core.List.{List, [], ◌∷◌, ◌++◌, append_assoc}
use mathlib.Core.Logic.{◌↔◌}
use native.Mathlib.Omega.{arith}
use lib.ListN.{length, drop, get_or, length-append, length-drop}
use lib.Seq.{drop-drop, drop-append_seam}
use borrow.Author.Tests.{le-ltb}
use Rattle.text.specs.Byte.{text_byte}
use Rattle.text.specs.Quoted.{bytes}
use Rattle.text.specs.Scan.{all}
use Rattle.text.proofs.Runs.{run_once}
use Rattle.forms.specs.Shape.{digits}
use Rattle.records.specs.Record.{type_of, may_come}
use Rattle.fields.specs.Profile.{Rules}
use Rattle.records.specs.declared.record.Record.{Record}
use Rattle.records.specs.declared.record.Record.TheVariants.{Parcel}
use Rattle.records.proofs.Types.{type_long, type_tells}
use Rattle.fields.proofs.Rules.{Sound}
use Rattle.line.specs.Parts.{split, part_at, fields_of, field_no}
use Rattle.line.specs.Render.{joined, text_of, render}
use Rattle.line.specs.Line.{text_at, text_answer, line_answer, alone, file_limit}
use Rattle.line.specs.Told.{Told}
use Rattle.line.specs.declared.read.Line.{Line}
use Rattle.line.proofs.Plain.{render_long}
use Rattle.line.proofs.Ends.{ended, ends_well_lem, text_there}
use Rattle.line.proofs.Accepting.{line_ok, text_written, line_stands}
use Rattle.grammar.specs.Grammar.{LineOk, Reads}
use Rattle.grammar.proofs.Texts.{text_split, text_bytes, text_accepted, text_allowed}
use Rattle.std.specs.Prelude.{Ok}

-- an accepted line stands there
pub accepted_reads : (told : Told) (s : List ℕ) (at : ℕ) (line : Line) → line_answer told s at ≡ Ok line →
    Reads told s at line (fields_of (text_at s at))
accepted_reads told s at line e =
    let text = text_at s at in
    let g = line_ok told s at line e in
    let d = ended s at g.well in
    record {
      in_limit = g.short;
      comes = g.text.comes;
      allowed = text_allowed told at text line d.text g.text;
      rest = d.rest;
      stands = line_stands told s at line g;
      count = g.text.counted;
      next =
          omega (arith, g.text.ends, ap length (text_written told at text line g.text), render_long line.kind (fields_of text));
    }

-- what a line that stands there tells
module _ {told : Told} {s : List ℕ} {at : ℕ} {line : Line} {fs : List (List ℕ)} (g : Reads told s at line fs) where
  long : length s - at ≡ length (text_of line.kind fs) + 2 + length g.rest
  long = sym (length-drop at s) ∙ ap length g.stands ∙ length-append (render line.kind fs) g.rest ∙ rw
      (render_long line.kind fs)

  text_long : 3 ≤ length (text_of line.kind fs)
  text_long = omega (arith, length-append (type_of line.kind) (joined fs), type_long line.kind)

  pub read_inside : at ≤ length s
  read_inside = omega (arith, long)

  pub next_inside : line.next ≤ length s
  next_inside = omega (arith, long, g.next, render_long line.kind fs)

  pub next_far : at + 5 ≤ line.next
  next_far = omega (arith, text_long, g.next, render_long line.kind fs)

  pub rest_is : g.rest ≡ drop line.next s
  rest_is = sym (rw (
    g.next,
    ← drop-drop (length (render line.kind fs)) at s,
    g.stands,
  ) (drop-append_seam (render line.kind fs) g.rest))

  bytes_of : all text_byte (text_of line.kind fs) ≡ true
  bytes_of = text_bytes line.kind fs g.allowed

  pub read_text : text_at s at ≡ text_of line.kind fs
  read_text = text_there s at (text_of line.kind fs) g.rest bytes_of g.stands

  pub read_parts : split (text_at s at) ≡ type_of line.kind ∷ fs
  read_parts = ap split read_text ∙ text_split line.kind fs g.allowed

  pub read_field : (n : ℕ) → 1 ≤ n → part_at (text_at s at) n ≡ field_no fs n
  read_field n h = go (n - 1) (omega arith)
    where
      go : (m : ℕ) → n ≡ suc m → part_at (text_at s at) n ≡ get_or fs m []
      go m e = rw (e, read_parts)

  pub reads_accepted : line_answer told s at ≡ Ok line
  unfolding line_answer text_answer
  reads_accepted =
      let n : at + length (text_of line.kind fs) + 2 ≡ line.next = omega (arith, g.next, render_long line.kind fs) in
      rw (
        le-ltb file_limit (length s) g.in_limit,
        le-ltb (length s) at read_inside,
        ends_well_lem s at (text_of line.kind fs) g.rest bytes_of g.stands,
        read_text,
      )
      (text_accepted line.kind fs g.allowed told.due at g.comes ∙ rw (n, ← g.count))

-- a line is accepted exactly when an allowed line stands at the offset
pub line_exactly : (told : Told) (s : List ℕ) (at : ℕ) (line : Line) → (line_answer told s at ≡ Ok line) ↔
    ((fs : List (List ℕ)) × Reads told s at line fs)
line_exactly told s at line = (λ e. (fields_of (text_at s at), accepted_reads told s at line e), λ g. reads_accepted g.1)

-- the same bytes are no other line, and no other fields
pub one_line : {rules late : Rules} (kind other : Record) (fs gs : List (List ℕ)) (rest more : List ℕ) → LineOk rules kind fs → LineOk late other gs →
    render kind fs ++ rest ≡ render other gs ++ more → (kind ≡ other) × ((fs ≡ gs) × (rest ≡ more))
one_line kind other fs gs rest more g h e =
    let cut : text_of kind fs ++ 13 ∷ 10 ∷ rest ≡ text_of other gs ++ 13 ∷ 10 ∷ more =
    sym (append_assoc (text_of kind fs) (bytes "\r\n") rest) ∙ e ∙ append_assoc (text_of other gs) (bytes "\r\n") more
    in
    let a = run_once text_byte (text_of kind fs) (text_of other gs) 13 13 (10 ∷ rest) (10 ∷
    more) (text_bytes kind fs g) (text_bytes other gs h) refl refl cut in
    let parts : type_of kind ∷ fs ≡ type_of other ∷ gs = sym (text_split kind fs g) ∙ ap split a.0 ∙ text_split other gs h in
    (type_tells kind other (ap (λ (l : List (List ℕ)). get_or l 0 []) parts), (ap (drop 1) parts, ap (drop 2) a.1))

-- a line that stands where a record is due stands there alone too
pub reads_alone : {told : Told} {s : List ℕ} {at : ℕ} {line : Line} {fs : List (List ℕ)} → Reads told s at line fs → Reads (alone told.rules) s at line fs
unfolding may_come
reads_alone g = record {
  in_limit = g.in_limit;
  comes = refl;
  allowed = g.allowed;
  rest = g.rest;
  stands = g.stands;
  count =
      g.count;
  next = g.next;
}

-- at one offset stands one line with one list of fields, whatever is due
abbrev made : Record → ℕ → ℕ → Line
made kind count next = record { kind = kind; count = count; next = next }

pub one_reading : {told other-told : Told} {s : List ℕ} {at : ℕ} {line other : Line} {fs gs : List (List ℕ)} → Reads told s at line fs →
    Reads other-told s at other gs → (line ≡ other) × (fs ≡ gs)
one_reading {at = at} {line = line} {other = other} {fs = fs} {gs = gs} g h =
    let o = one_line line.kind other.kind fs gs g.rest h.rest g.allowed h.allowed (sym g.stands ∙ h.stands) in
    let bytes : render line.kind fs ≡ render other.kind gs = rw (o.0, o.1.0) in
    (same o.0 (g.count ∙ ap length o.1.0 ∙ sym h.count) (g.next ∙ ap (λ (b : List ℕ). at + length b) bytes ∙ sym h.next), o.1.0)
  where
    same : line.kind ≡ other.kind → line.count ≡ other.count → line.next ≡ other.next → line ≡ other
    same k c n =
        ap (λ (x : Record). made x line.count line.next) k ∙ ap (λ (x : ℕ). made other.kind x line.next) c
        ∙ ap (made other.kind other.count) n

-- "040: 1 R 22 digits"
pub parcel_code : {rules : Rules} → Sound rules → (kind : Record) (fs : List (List ℕ)) → kind ≡ Parcel → LineOk rules kind fs →
    digits 22 (field_no fs 1) ≡ true
parcel_code {rules = rules} w kind fs e g = go fs (rw e at g)
  where
    go : (fs : List (List ℕ)) → LineOk rules Parcel fs → digits 22 (field_no fs 1) ≡ true
    go [] g = let z : ◌≡◌ {A = ℕ} 0 1 = cc in absurd (omega arith)
    go (f ∷ fs) g = w.digital (type_of Parcel) f (g.fields.0.formed (g.fields.0.filled w.coded))
