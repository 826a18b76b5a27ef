-- Which fields are no duty in a profile, whatever the version, and the records of which only the first field is one. The code asks the
-- profile itself (fields/proofs/Tables); these laws stand for their own sake, as docs/landings/05-version-7.md names them.
use Prim.Native.Nat.{ℕ}
use mathlib.Core.Path.{◌≡◌, refl, sym}
use mathlib.Core.Bool.{Bool, true, false, ◌&&◌}
use mathlib.Core.List.{List, [], ◌∷◌}
use mathlib.Core.Logic.{⊎_elim}
use native.Mathlib.Omega.{arith}
use lib.Dec.{leb, eqb}
use borrow.Author.Tests.{leb-true, eq-eqb, ne_eqb}
use Rattle.std.specs.Prelude.{if◌then◌else◌}
use Rattle.text.proofs.Numbers.{eq_or_ne}
use Rattle.text.proofs.Choices.{and_left, and_right}
use Rattle.records.specs.Record.{one_of}
use Rattle.fields.specs.Profile.{Row, names, row_in, no_field, profile, is_required}
use Rattle.records.specs.declared.version.Version.{Version}
use Rattle.records.specs.declared.version.Version.TheVariants.{Five, Seven}
use Rattle.records.specs.declared.record.Record.{Record}
use Rattle.records.specs.declared.record.Record.TheVariants.{Header, Sender, Shipment, Parcel, Product, Feature}

-- a number that is none of the fields whose rows have a mark
abbrev Beside : Bool → Type 0 → Type 0 → Type 0
Beside false here more = more
Beside true here more = here × more

abbrev pub Unmarked : (Row → Bool) → ℕ → List Row → Type 0
Unmarked mark n [] = Unit {0}
Unmarked mark n (row ∷ rows) = Beside (mark row) (n ≡ row.first → ⊥) (Unmarked mark n rows)

-- no span of more than one field has the mark
abbrev pub single : (Row → Bool) → List Row → Bool
single mark [] = true
single mark (row ∷ rows) = (if mark row then leb row.last row.first else true) && single mark rows

unmarked : (mark : Row → Bool) (rows : List Row) (n : ℕ) → mark no_field ≡ false → single mark rows ≡ true → Unmarked mark n rows →
    mark (row_in rows n) ≡ false
unmarked mark [] n z s h = z
unmarked mark (row ∷ rows) n z s h =
    go (names row n) (mark row) refl refl (and_left (if mark row then leb row.last row.first else true) (single mark rows) s)
    (unmarked mark rows n z (and_right (if mark row then leb row.last row.first else true) (single mark rows) s)) h
  where
    go : (t m : Bool) → names row n ≡ t → mark row ≡ m → (if m then leb row.last row.first else true) ≡ true →
        (Unmarked mark n rows → mark (row_in rows n) ≡ false) → Beside m (n ≡ row.first → ⊥) (Unmarked mark n rows) →
        mark (if t then row else row_in rows n) ≡ false
    go false false et em es more h = more h
    go false true et em es more h = more h.1
    go true false et em es more h = em
    go true true et em es more h =
        let l = leb-true row.first n (and_left (leb row.first n) (leb n row.last) et) in
        let m = leb-true n row.last (and_right (leb row.first n) (leb n row.last) et) in
        absurd (h.0 (omega (arith, l, m, leb-true row.last row.first es)))

pub no_duty : (rows : List Row) (n : ℕ) → single (λ row. row.duty) rows ≡ true → Unmarked (λ row. row.duty) n rows →
    false ≡ is_required rows n
unfolding is_required
no_duty rows n s h = sym (unmarked (λ row. row.duty) rows n refl s h)

-- in neither version
pub never_duty : (version : Version) (kind : Record) (n : ℕ) → single (λ row. row.duty) (profile Five kind) ≡ true →
    Unmarked (λ row. row.duty) n (profile Five kind) → single (λ row. row.duty) (profile Seven kind) ≡ true →
    Unmarked (λ row. row.duty) n (profile Seven kind) → false ≡ is_required (profile version kind) n
never_duty Five kind n s h t k = no_duty (profile Five kind) n s h
never_duty Seven kind n s h t k = no_duty (profile Seven kind) n t k

-- a record of which only the first field is a duty
first_duty : (rows : List Row) (n : ℕ) → true ≡ is_required rows 1 → ((n ≡ 1 → ⊥) → false ≡ is_required rows n) → eqb n 1 ≡ is_required rows n
first_duty rows n here other = ⊎_elim
    (λ (e : n ≡ 1). rw (eq-eqb n 1 e, e) here)
    (λ h. rw (ne_eqb n 1 h) (other h))
    (eq_or_ne n 1)

pub only_first : (version : Version) (kind case : Record) (n : ℕ) → kind ≡ case → one_of case (Product ∷ Feature ∷ []) ≡ true →
    eqb n 1 ≡ is_required (profile version kind) n
unfolding profile is_required
only_first version kind case n e o = rw e (go version case o)
  where
    go : (v : Version) (k : Record) → one_of k (Product ∷ Feature ∷ []) ≡ true → eqb n 1 ≡ is_required (profile v k) n
    go Five Product o = first_duty (profile Five Product) n refl (λ h. no_duty (profile Five Product) n refl (h, tt))
    go Seven Product o = first_duty (profile Seven Product) n refl (λ h. no_duty (profile Seven Product) n refl (h, tt))
    go Five Feature o = first_duty (profile Five Feature) n refl (λ h. no_duty (profile Five Feature) n refl (h, tt))
    go Seven Feature o = first_duty (profile Seven Feature) n refl (λ h. no_duty (profile Seven Feature) n refl (h, tt))
    go v Header o = let z : ◌≡◌ {A = ℕ} 0 1 = cc in absurd (omega arith)
    go v Sender o = let z : ◌≡◌ {A = ℕ} 0 1 = cc in absurd (omega arith)
    go v Shipment o = let z : ◌≡◌ {A = ℕ} 0 1 = cc in absurd (omega arith)
    go v Parcel o = let z : ◌≡◌ {A = ℕ} 0 1 = cc in absurd (omega arith)
