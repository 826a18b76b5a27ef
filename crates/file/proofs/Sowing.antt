-- The tree of identcodes on its way through a file: it tells what stands on earlier lines, and one line more.
use Prim.Native.Nat.{ℕ, ◌+◌, ◌≤◌}
use mathlib.Core.Path.{◌≡◌, refl, sym, ap, ◌∙◌}
use mathlib.Core.Bool.{Bool, true, false, ◌||◌, or-false, or_assoc}
use mathlib.Core.List.{List, [], ◌∷◌, ◌++◌}
use native.Mathlib.Omega.{arith}
use lib.ListN.{length, take, drop}
use Rattle.text.specs.Quoted.{bytes}
use Rattle.text.specs.Scan.{same}
use Rattle.forms.specs.Shape.{digits}
use Rattle.identcodes.specs.Tree.{identcode_at, is_there, grown}
use Rattle.identcodes.proofs.Growing.{tree_none, none_there, one_more}
use Rattle.identcodes.proofs.Answers.{room_there}
use Rattle.records.specs.Record.{type_of}
use Rattle.records.specs.declared.record.Record.{Record}
use Rattle.records.specs.declared.record.Record.TheVariants.{Header, Sender, Shipment, Parcel, Product, Feature}
use Rattle.line.specs.Line.{file_limit}
use Rattle.file.specs.Identcode.{same_parcel, on_earlier, repeats, is_there_for, grown_for, Sown, parcels_most, tree_words}
use Rattle.file.specs.Step.{parcels_in}

-- one line more among those that start at some places
pub earlier_more : (s starts : List ℕ) (earlier at : ℕ) → on_earlier s (starts ++ (earlier ∷ [])) at ≡ (on_earlier s starts at || same_parcel s earlier at)
earlier_more s [] earlier at = or-false (same_parcel s earlier at)
earlier_more s (x ∷ starts) earlier at = rw (earlier_more s starts earlier at)
    (sym (or_assoc (same_parcel s x at) (on_earlier s starts at) (same_parcel s earlier at)))

-- a parcel line with another of the same code, and a line that is no parcel
module _ (s : List ℕ) (earlier at : ℕ) (kind : Record) (e : take 3 (drop earlier s) ≡ type_of kind) where
  pub parcel_code : kind ≡ Parcel → same_parcel s earlier at ≡ same (identcode_at s earlier) (identcode_at s at)
  unfolding same_parcel
  parcel_code k = rw (e, k)

  pub other_line : same (type_of kind) (bytes "040") ≡ false → same_parcel s earlier at ≡ false
  unfolding same_parcel
  other_line k = rw (e, k)

pub sown_none : (s tree : List ℕ) → Sown s [] 0 tree
sown_none s tree = record { whole = tree_none s tree; tells = λ at d. sym (none_there s tree at) }

-- one line more, of any record
module _ (s starts : List ℕ) (parcels : ℕ) (tree : List ℕ) (g : Sown s starts parcels tree) (at : ℕ) where
  other_sown : (kind : Record) → take 3 (drop at s) ≡ type_of kind → same (type_of kind) (bytes "040") ≡ false →
      Sown s (starts ++ (at ∷ [])) (parcels + 0) tree
  other_sown kind type e =
      let k : parcels + 0 ≡ parcels = omega arith in
      rw k (record {
        whole = g.whole;
        tells = λ z dz. earlier_more s starts at z ∙ ap (λ (t : Bool). on_earlier s starts z || t) (other_line s at z kind type e)
            ∙ or-false (on_earlier s starts z) ∙ g.tells z dz;
      })

  parcel_sown : tree_words ≤ length tree → parcels ≤ parcels_most → at ≤ file_limit → digits 22 (identcode_at s at) ≡ true →
      take 3 (drop at s) ≡ type_of Parcel →
      is_there s tree parcels at ≡ false →
      Sown s (starts ++ (at ∷ [])) (parcels + 1) (grown s tree parcels at)
  parcel_sown long few in_limit d type e =
      let room = room_there tree parcels at (omega arith) (omega arith) (omega arith) in
      let more = one_more s parcels tree at g.whole room d e in
      record {
        whole = more.whole;
        tells = λ z dz. earlier_more s starts at z ∙ ap (λ (t : Bool). t || same_parcel s at z) (g.tells z dz)
            ∙ ap (λ (t : Bool). is_there s tree parcels z || t) (parcel_code s at z Parcel type refl) ∙ sym (more.tells z dz);
      }

  pub sown_line : (kind : Record) → tree_words ≤ length tree → parcels ≤ parcels_most → at ≤ file_limit →
      (kind ≡ Parcel → digits 22 (identcode_at s at) ≡ true) →
      take 3 (drop at s) ≡ type_of kind →
      is_there_for kind s tree parcels at ≡ false → Sown s (starts ++ (at ∷ [])) (parcels + parcels_in kind) (grown_for kind s tree parcels at)
  unfolding is_there_for grown_for
  sown_line Header long few in_limit d type e = other_sown Header type refl
  sown_line Sender long few in_limit d type e = other_sown Sender type refl
  sown_line Shipment long few in_limit d type e = other_sown Shipment type refl
  sown_line Parcel long few in_limit d type e = parcel_sown long few in_limit (d refl) type e
  sown_line Product long few in_limit d type e = other_sown Product type refl
  sown_line Feature long few in_limit d type e = other_sown Feature type refl

  pub sown_tells : (kind : Record) → (kind ≡ Parcel → digits 22 (identcode_at s at) ≡ true) →
      is_there_for kind s tree parcels at ≡ repeats kind s starts at
  unfolding is_there_for repeats
  sown_tells Header d = refl
  sown_tells Sender d = refl
  sown_tells Shipment d = refl
  sown_tells Parcel d = sym (g.tells at (d refl))
  sown_tells Product d = refl
  sown_tells Feature d = refl
