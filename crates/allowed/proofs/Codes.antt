-- Identcodes: what the judge compares are the first fields of the parcel lines.
use Prim.Native.Nat.{ℕ}
use mathlib.Core.Path.{◌≡◌, refl, sym, ap, ◌∙◌}
use mathlib.Core.Bool.{Bool, false, ◌||◌, or_assoc, or-false, false≢true}
use mathlib.Core.List.{List, [], ◌∷◌, ◌++◌}
use lib.ListN.{drop}
use Rattle.text.specs.Quoted.{bytes}
use Rattle.text.specs.Scan.{same}
use Rattle.records.specs.Record.{type_of}
use Rattle.records.specs.declared.record.Record.{Record}
use Rattle.records.specs.declared.record.Record.TheVariants.{Header, Sender, Shipment, Parcel, Product, Feature}
use Rattle.fields.specs.Profile.{Rules}
use Rattle.fields.proofs.Rules.{Sound}
use Rattle.line.specs.Parts.{field_no}
use Rattle.line.specs.Render.{render}
use Rattle.grammar.specs.Grammar.{LineOk}
use Rattle.grammar.proofs.Lines.{parcel_code}
use Rattle.identcodes.specs.Tree.{identcode_at}
use Rattle.file.specs.Identcode.{same_parcel, on_earlier, repeats}
use Rattle.file.proofs.Codes.{type_there, code_there}
use Rattle.file.proofs.Sowing.{earlier_more}
use Rattle.allowed.specs.Allowed.{codes_on, one_of_codes}

-- the identcode of a parcel line where it stands
pub code_here : {rules : Rules} → Sound rules → (s : List ℕ) (at : ℕ) (fs : List (List ℕ)) (rest : List ℕ) → drop at s ≡ render Parcel fs ++ rest →
    LineOk rules Parcel fs → identcode_at s at ≡ field_no fs 1
code_here w s at [] rest there ok = absurd (false≢true ok.counted)
code_here w s at (f ∷ fs) rest there ok = code_there s at f fs rest there (parcel_code w Parcel (f ∷ fs) refl ok)

-- the line that starts here has one of the codes of a line
module _ (s : List ℕ) (earlier : ℕ) (fs : List (List ℕ)) (rest : List ℕ) (at : ℕ) where
  other_type : (kind : Record) → drop earlier s ≡ render kind fs ++ rest → same (type_of kind) (bytes "040") ≡ false →
      same_parcel s earlier at ≡ false
  unfolding same_parcel
  other_type kind there e = rw (type_there s earlier kind fs rest there, e)

  pub same_code : {rules : Rules} → Sound rules → (kind : Record) → drop earlier s ≡ render kind fs ++ rest → LineOk rules kind fs →
      same_parcel s earlier at ≡ one_of_codes (identcode_at s at) (codes_on kind fs)
  unfolding same_parcel
  same_code w Header there ok = other_type Header there refl
  same_code w Sender there ok = other_type Sender there refl
  same_code w Shipment there ok = other_type Shipment there refl
  same_code w Parcel there ok = rw (type_there s earlier Parcel fs rest there, code_here w s earlier fs rest there ok)
      (sym (or-false (same (field_no fs 1) (identcode_at s at))))
  same_code w Product there ok = other_type Product there refl
  same_code w Feature there ok = other_type Feature there refl

-- the codes of the lines that start at these places are these
abbrev pub Seen : List ℕ → List ℕ → List (List ℕ) → Type 0
Seen s starts codes = (at : ℕ) → on_earlier s starts at ≡ one_of_codes (identcode_at s at) codes

pub codes_append : (code : List ℕ) (xs ys : List (List ℕ)) → one_of_codes code (xs ++ ys) ≡ (one_of_codes code xs || one_of_codes code ys)
codes_append code [] ys = refl
codes_append code (x ∷ xs) ys = rw (codes_append code xs ys) (sym (or_assoc (same x code) (one_of_codes code xs) (one_of_codes code ys)))

pub seen_more : {rules : Rules} → Sound rules → (s starts : List ℕ) (codes : List (List ℕ)) (earlier : ℕ) (kind : Record) (fs : List (List ℕ)) (rest : List ℕ) →
    Seen s starts codes → drop earlier s ≡ render kind fs ++ rest → LineOk rules kind fs →
    Seen s (starts ++ (earlier ∷ [])) (codes ++ codes_on kind fs)
seen_more w s starts codes earlier kind fs rest seen there ok at =
    earlier_more s starts earlier at
    ∙ ap (λ (t : Bool). t || same_parcel s earlier at) (seen at)
    ∙ ap (λ (t : Bool). one_of_codes (identcode_at s at) codes || t) (same_code s earlier fs rest at w kind there ok)
    ∙ sym (codes_append (identcode_at s at) codes (codes_on kind fs))

-- none of the codes of a line is one of these
abbrev pub Fresh : List (List ℕ) → List (List ℕ) → Type 0
Fresh seen [] = Unit {0}
Fresh seen (c ∷ cs) = (one_of_codes c seen ≡ false) × Fresh seen cs

module _ (s starts : List ℕ) (codes : List (List ℕ)) (at : ℕ) (fs : List (List ℕ)) (rest : List ℕ) (seen : Seen s starts codes) where
  pub fresh_not : {rules : Rules} → Sound rules → (kind : Record) → drop at s ≡ render kind fs ++ rest → LineOk rules kind fs →
      repeats kind s starts at ≡ false → Fresh codes (codes_on kind fs)
  unfolding repeats
  fresh_not w Header there ok e = tt
  fresh_not w Sender there ok e = tt
  fresh_not w Shipment there ok e = tt
  fresh_not w Parcel there ok e = (rw (code_here w s at fs rest there ok) at (sym (seen at) ∙ e), tt)
  fresh_not w Product there ok e = tt
  fresh_not w Feature there ok e = tt

  pub not_fresh : {rules : Rules} → Sound rules → (kind : Record) → drop at s ≡ render kind fs ++ rest → LineOk rules kind fs → Fresh codes (codes_on kind fs) →
      repeats kind s starts at ≡ false
  unfolding repeats
  not_fresh w Header there ok f = refl
  not_fresh w Sender there ok f = refl
  not_fresh w Shipment there ok f = refl
  not_fresh w Parcel there ok f = seen at ∙ rw (code_here w s at fs rest there ok) f.0
  not_fresh w Product there ok f = refl
  not_fresh w Feature there ok f = refl
