-- Each 006 line of an allowed file has a shipment, and the shipment a first parcel, by the order of the records; so each has the
-- purpose that the paper's sentence names.
use Prim.Native.Nat.{ℕ, zero, suc, ◌≤◌}
use mathlib.Core.Path.{◌≡◌, refl, sym, ap, ◌∙◌}
use mathlib.Core.Bool.{Bool, true, false, false≢true}
use mathlib.Core.List.{List, [], ◌∷◌}
use mathlib.Core.Logic.{◌⊎◌, inl, inr, ⊎_elim}
use native.Mathlib.Nat.{le_of_suc-le-suc, eq-or-lt_of_le}
use native.Mathlib.Omega.{arith}
use lib.ListN.{length}
use Rattle.text.specs.Placed.{written}
use Rattle.text.proofs.Choices.{clash}
use Rattle.records.specs.Record.{may_follow, may_come}
use Rattle.records.specs.declared.record.Record.{Record}
use Rattle.records.specs.declared.record.Record.TheVariants.{Header, Sender, Shipment, Parcel, Product, Feature}
use Rattle.records.specs.declared.record.Due.{Due}
use Rattle.records.specs.declared.record.Due.TheVariants.{First, After}
use Rattle.file.specs.Lent.{Lent}
use Rattle.file.specs.File.{list_of}
use Rattle.allowed.specs.Allowed.{FileLine, InOrder, AllowedFile, line_starts}
use Rattle.purpose.specs.Purpose.{purpose_long, cut, Purposes}
use Rattle.allowed.specs.Sentence.{LineNo, CashLine, Belongs, named_text}
use Rattle.allowed.proofs.Naming.{purpose_named}
use Rattle.std.specs.Prelude.{Result, Ok}
use Rattle.refusal.specs.declared.Refusal.{Refusal}

-- a record that stands in a shipment, behind its 030 line
abbrev inside : Record → Bool
inside Header = false
inside Sender = false
inside Shipment = false
inside Parcel = true
inside Product = true
inside Feature = true

first_out : (r : Record) → may_come First r ≡ true → inside r ≡ true → ⊥
unfolding may_come
first_out Header e i = false≢true i
first_out Sender e i = false≢true i
first_out Shipment e i = false≢true i
first_out Parcel e i = false≢true e
first_out Product e i = false≢true e
first_out Feature e i = false≢true e

step_in : (k r : Record) → may_come (After k) r ≡ true → inside r ≡ true → (inside k ≡ true) ⊎ ((k ≡ Shipment) × (r ≡ Parcel))
unfolding may_come may_follow
step_in Header Header e i = absurd (false≢true i)
step_in Header Sender e i = absurd (false≢true i)
step_in Header Shipment e i = absurd (false≢true i)
step_in Header Parcel e i = absurd (false≢true e)
step_in Header Product e i = absurd (false≢true e)
step_in Header Feature e i = absurd (false≢true e)
step_in Sender Header e i = absurd (false≢true i)
step_in Sender Sender e i = absurd (false≢true i)
step_in Sender Shipment e i = absurd (false≢true i)
step_in Sender Parcel e i = absurd (false≢true e)
step_in Sender Product e i = absurd (false≢true e)
step_in Sender Feature e i = absurd (false≢true e)
step_in Shipment Header e i = absurd (false≢true i)
step_in Shipment Sender e i = absurd (false≢true i)
step_in Shipment Shipment e i = absurd (false≢true i)
step_in Shipment Parcel e i = inr (refl, refl)
step_in Shipment Product e i = absurd (false≢true e)
step_in Shipment Feature e i = absurd (false≢true e)
step_in Parcel r e i = inl refl
step_in Product r e i = inl refl
step_in Feature r e i = inl refl

order_first : (ls : List FileLine) → InOrder First ls → (l : FileLine) → LineNo ls 0 l → may_come First l.kind ≡ true
order_first [] o l h = absurd h
order_first (k ∷ ls) o l h = ap (λ (x : FileLine). may_come First x.kind) (sym h) ∙ o.0

-- the line in front of a line
order_at : (ls : List FileLine) (due : Due) → InOrder due ls → (i : ℕ) (l : FileLine) → LineNo ls (suc i) l →
    (k : FileLine) × LineNo ls i k × (may_come (After k.kind) l.kind ≡ true)
order_at [] due o i l h = absurd h
order_at (k ∷ []) due o zero l h = absurd h
order_at (k ∷ m ∷ ls) due o zero l h = (k, refl, ap (λ (x : FileLine). may_come (After k.kind) x.kind) (sym h) ∙ o.1.0)
order_at (k ∷ ls) due o (suc i) l h = order_at ls (After k.kind) o.1 i l h

one_line_no : (ls : List FileLine) (i : ℕ) (l k : FileLine) → LineNo ls i l → LineNo ls i k → l ≡ k
one_line_no [] i l k p q = absurd p
one_line_no (x ∷ ls) zero l k p q = sym p ∙ q
one_line_no (x ∷ ls) (suc i) l k p q = one_line_no ls i l k p q

abbrev Has : List FileLine → ℕ → Type 0
Has ls n = (shipment : FileLine) × (parcel : FileLine) × Belongs ls n shipment parcel

-- the line behind a shipment line, and the line behind a line of that shipment
module _ (ls : List FileLine) (i : ℕ) (k : FileLine) (hk : LineNo ls i k) where
  has_next : k.kind ≡ Shipment → (l : FileLine) → LineNo ls (suc i) l → l.kind ≡ Parcel → Has ls (suc i)
  has_next ek l hl el = (
    k,
    l,
    record {
      ship = i;
      there = hk;
      shipped = ek;
      above = omega arith;
      nearest = λ j x p q h e. omega arith;
      first = suc i;
      here = hl;
      parcelled = el;
      behind = omega arith;
      foremost = λ j x p q h e. omega arith;
    },
  )

  has_on : inside k.kind ≡ true → Has ls i → Has ls (suc i)
  has_on t a =
      let b = a.2 in (
        a.0,
        a.1,
        record {
          ship = b.ship;
          there = b.there;
          shipped = b.shipped;
          above = omega (arith, b.above);
          nearest = λ j x p q h e.
              ⊎_elim (λ z. not_ship x (rw z at h) e) (λ less. b.nearest j x p less h e)
              (eq-or-lt_of_le (le_of_suc-le-suc q));
          first = b.first;
          here = b.here;
          parcelled = b.parcelled;
          behind = b.behind;
          foremost = b.foremost;
        },
      )
    where
      not_ship : (x : FileLine) → LineNo ls i x → x.kind ≡ Shipment → ⊥
      not_ship x h e = clash t (ap (λ (y : FileLine). inside y.kind) (one_line_no ls i k x hk h) ∙ ap inside e)

has : (ls : List FileLine) → InOrder First ls → (n : ℕ) (l : FileLine) → LineNo ls n l → inside l.kind ≡ true → Has ls n
has ls o zero l h t = absurd (first_out l.kind (order_first ls o l h) t)
has ls o (suc i) l h t =
    let a = order_at ls First o i l h in
    ⊎_elim (λ u. has_on ls i a.0 a.1 u (has ls o i a.0 a.1 u)) (λ p. has_next ls i a.0 a.1 p.0 l h p.1)
    (step_in a.0.kind l.kind a.2 t)

pub each_belongs : (countries s : List ℕ) (ls : List FileLine) → AllowedFile countries s ls → (n : ℕ) (l : FileLine) → LineNo ls n l → CashLine l →
    (shipment : FileLine) × (parcel : FileLine) × Belongs ls n shipment parcel
each_belongs countries s ls g n l h cash = has ls g.order n l h (ap inside cash.feature)

-- the line has its shipment and the shipment its first parcel, and the text that these three lines name is written
pub purpose_of_lem :
    (lent : Lent) (s : List ℕ) (ls : List FileLine) → AllowedFile lent.countries s ls → (n : ℕ) (l : FileLine) → LineNo ls n l → CashLine l →
    length ls ≤ lent.words → (out : List ℕ) → purpose_long ≤ length out →
    (answer : Result ℕ Refusal) (list after : List ℕ) → Purposes s n lent out answer list after →
    (shipment : FileLine) × (parcel : FileLine) × Belongs ls n shipment parcel
    × ((answer ≡ Ok (length (cut (named_text l shipment parcel)))) × (list ≡ list_of lent.words (line_starts 0 ls)) ×
    (after ≡ written out 0 (cut (named_text l shipment parcel))))
purpose_of_lem lent s ls g n l h cash room out long answer list after p =
    let b = each_belongs lent.countries s ls g n l h cash in (
      b.0,
      b.1,
      b.2,
      purpose_named s lent.countries ls g n l h cash
          b.0 b.1 b.2 lent.words room out long answer list after p,
    )
