-- Identcodes where they stand: the first fields of the parcel lines.
use Prim.Native.Nat.{ℕ, ◌+◌, ◌*◌, ◌≤◌}
use mathlib.Core.Path.{◌≡◌, refl, sym, ap, ◌∙◌}
use mathlib.Core.Bool.{true, false≢true}
use mathlib.Core.List.{List, [], ◌∷◌, ◌++◌, append_assoc}
use native.Mathlib.Omega.{arith}
use lib.ListN.{length, take, drop, length-append}
use lib.Seq.{take_at, drop-drop}
use Rattle.text.specs.Quoted.{bytes}
use Rattle.forms.specs.Shape.{digits}
use Rattle.forms.proofs.Shapes.{digits_parts}
use Rattle.identcodes.specs.Tree.{identcode_at}
use Rattle.records.specs.Record.{type_of, count_fits}
use Rattle.fields.specs.Field.{tested}
use Rattle.records.specs.declared.record.Record.{Record}
use Rattle.records.specs.declared.record.Record.TheVariants.{Header, Sender, Shipment, Parcel, Product, Feature}
use Rattle.records.proofs.Types.{type_long}
use Rattle.fields.proofs.Tests.{good_passed}
use Rattle.fields.proofs.Rules.{Sound}
use Rattle.line.specs.Parts.{name_of, fields_of}
use Rattle.line.specs.Render.{joined, text_of, render}
use Rattle.line.specs.Walk.{behind, walk}
use Rattle.line.specs.Line.{text_at, line_answer}
use Rattle.line.specs.Told.{Told}
use Rattle.line.specs.declared.read.Line.{Line}
use Rattle.line.proofs.Passing.{fine_each}
use Rattle.line.proofs.Ends.{ended}
use Rattle.line.proofs.Accepting.{TextOk, LineAt, lies, text_written, line_stands}
use Rattle.file.specs.Step.{parcels_in}
use Rattle.std.specs.Prelude.{Result, Ok}
use Rattle.refusal.specs.declared.Refusal.{Refusal}

-- what stands at a place where a line is rendered
pub type_there : (s : List ℕ) (at : ℕ) (kind : Record) (fs : List (List ℕ)) (rest : List ℕ) → drop at s ≡ render kind fs ++ rest →
    take 3 (drop at s) ≡ type_of kind
type_there s at kind fs rest there =
    ap (take 3) (there ∙ ap (λ (l : List ℕ). l ++ rest) (append_assoc (type_of kind) (joined fs) (bytes "\r\n"))
    ∙ append_assoc (type_of kind) (joined fs ++ bytes "\r\n") rest)
    ∙ take_at (type_of kind) (joined fs ++ bytes "\r\n" ++ rest) 3 (type_long kind)

pub code_there : (s : List ℕ) (at : ℕ) (f : List ℕ) (fs : List (List ℕ)) (rest : List ℕ) → drop at s ≡ render Parcel (f ∷ fs) ++ rest →
    digits 22 f ≡ true → identcode_at s at ≡ f
code_there s at f fs rest there e =
    ap (take 22) (sym (drop-drop 4 at s) ∙ ap (drop 4) there ∙ regroup)
    ∙ take_at f (joined fs ++ bytes "\r\n" ++ rest) 22 (digits_parts 22 f e).0
  where
    regroup : ((f ++ joined fs) ++ bytes "\r\n") ++ rest ≡ f ++ (joined fs ++ bytes "\r\n" ++ rest)
    regroup = simp append_assoc

-- the fields of a parcel line begin with its identcode
pub record Coded (fields : List (List ℕ)) : Type 0 where
  pub code : List ℕ
  pub more : List (List ℕ)
  pub are : fields ≡ code ∷ more
  pub holds : digits 22 code ≡ true

parcel_coded : (told : Told) (at : ℕ) (text : List ℕ) (line : Line) → Sound told.rules → TextOk told at text line → line.kind ≡ Parcel →
    Coded (fields_of text)
parcel_coded told at text line w g k =
    go (fields_of text) refl (ap (λ (r : Record). count_fits r (length (fields_of text))) (sym k) ∙ g.fits)
    (ap (λ (r : Record). walk (told.rules r) 1 (at + length (name_of text) + 1) (name_of text) (fields_of text)) (sym k) ∙ g.walks)
  where
    go : (fs : List (List ℕ)) → fields_of text ≡ fs → count_fits Parcel (length fs) ≡ true →
        walk (told.rules Parcel) 1 (at + length (name_of text) + 1) (name_of text) fs ≡ Ok tt → Coded (fields_of text)
    go [] e c f = absurd (false≢true c)
    go (code ∷ more) e c f =
        let good = (fine_each (tested (told.rules Parcel)) behind 1 (at + length (name_of text) + 1) (name_of text) (code ∷ more) f).0 in
        let passed = good_passed (told.rules Parcel) 1 (name_of text) code good in
        record { code = code; more = more; are = e; holds = w.digital (name_of text) code (passed.formed (passed.filled w.coded)) }

-- what an accepted line tells of its identcode
module _ (told : Told) (s : List ℕ) (at : ℕ) (a : Result Line Refusal) (ea : a ≡ line_answer told s at) (line : Line) (el : a ≡ Ok line) where
  here : LineAt told s at line
  here = lies told s at a ea line el

  abbrev rest : List ℕ
  rest = (ended s at here.well).rest

  pub accepted_type : take 3 (drop at s) ≡ type_of line.kind
  accepted_type = type_there s at line.kind (fields_of (text_at s at)) rest (line_stands told s at line here)

  module _ (w : Sound told.rules) where
    coded : line.kind ≡ Parcel → Coded (fields_of (text_at s at))
    coded k = parcel_coded told at (text_at s at) line w here.text k

    pub accepted_code : line.kind ≡ Parcel → digits 22 (identcode_at s at) ≡ true
    accepted_code k =
        let c = coded k in
        let there : drop at s ≡ render Parcel (c.code ∷ c.more) ++ rest =
        line_stands told s at line here ∙ ap (λ (r : Record). render r (fields_of (text_at s at)) ++ rest) k
        ∙ ap (λ (fs : List (List ℕ)). render Parcel fs ++ rest) c.are
        in
        ap (digits 22) (code_there s at c.code c.more rest there c.holds) ∙ c.holds

    -- a parcel line has at least 28 bytes: its type, a semicolon, 22 digits and its end
    parcel_far : line.kind ≡ Parcel → at + 28 ≤ line.next
    parcel_far k =
        let c = coded k in
        let text : text_at s at ≡ text_of Parcel (c.code ∷ c.more) =
        text_written told at (text_at s at) line here.text ∙ ap (λ (r : Record). text_of r (fields_of (text_at s at))) k
        ∙ ap (text_of Parcel) c.are
        in
        omega (
          arith,
          here.text.ends,
          ap length text,
          length-append (type_of Parcel) (joined (c.code ∷ c.more)),
          length-append c.code (joined c.more),
          digits_parts 22 c.code c.holds,
        )

    pub accepted_far : at + 28 * parcels_in line.kind ≤ line.next
    accepted_far = go line.kind refl
      where
        far : at ≤ line.next
        far = omega (arith, here.text.ends)

        go : (kind : Record) → line.kind ≡ kind → at + 28 * parcels_in kind ≤ line.next
        go Header k = omega (arith, far)
        go Sender k = omega (arith, far)
        go Shipment k = omega (arith, far)
        go Parcel k = omega (arith, parcel_far k)
        go Product k = omega (arith, far)
        go Feature k = omega (arith, far)
