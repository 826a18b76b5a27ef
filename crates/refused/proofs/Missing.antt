-- A shipment lacks a contact exactly when it goes into a listed country and the nearest sender above it has an empty contact.
use Prim.Native.Nat.{ℕ}
use mathlib.Core.Path.{◌≡◌, refl, sym, ap, ◌∙◌}
use mathlib.Core.Bool.{Bool, true, false, not, false≢true}
use mathlib.Core.List.{List, [], ◌∷◌, ◌++◌}
use mathlib.Core.Logic.{◌⊎◌, inl, inr, ⊎_elim}
use native.Mathlib.Omega.{arith}
use borrow.Author.Tests.{not-true}
use Rattle.text.proofs.Choices.{and_left, and_right, true_or_false, clash}
use Rattle.countries.specs.List.{is_listed}
use Rattle.records.specs.Record.{type_of}
use Rattle.records.specs.declared.record.Record.{Record}
use Rattle.records.specs.declared.record.Record.TheVariants.{Header, Sender, Shipment, Parcel, Product, Feature}
use Rattle.line.specs.Parts.{field_no}
use Rattle.file.specs.Contact.{has_contacts, contacts_behind, lacks_contact}
use Rattle.allowed.specs.Allowed.{FileLine, HasContacts}
use Rattle.allowed.proofs.Contacts.{parts_of, contacts_after, other, contacts_told, told_contacts}
use Rattle.refused.specs.File.{NoSender, Unreachable}

-- one line: it is a sender, or leaves what is known of the sender as it was
pub sender_or_not : (kind : Record) (fs : List (List ℕ)) (b : Bool) →
    ((kind ≡ Sender) × (contacts_behind kind (type_of kind ∷ fs) b ≡ has_contacts (type_of kind ∷ fs))) ⊎
    ((kind ≡ Sender → ⊥) × (contacts_behind kind (type_of kind ∷ fs) b ≡ b))
unfolding contacts_behind
sender_or_not Header fs b = inr (other Header (λ z. omega arith), refl)
sender_or_not Sender fs b = inl (refl, refl)
sender_or_not Shipment fs b = inr (other Shipment (λ z. omega arith), refl)
sender_or_not Parcel fs b = inr (other Parcel (λ z. omega arith), refl)
sender_or_not Product fs b = inr (other Product (λ z. omega arith), refl)
sender_or_not Feature fs b = inr (other Feature (λ z. omega arith), refl)

-- the judge remembers a sender without both: it is the nearest above
remembers : (ls : List FileLine) (b : Bool) → contacts_after b ls ≡ false → (NoSender ls × (b ≡ false)) ⊎ Unreachable ls
remembers [] b e = inl (tt, e)
remembers (l ∷ ls) b e =
    ⊎_elim (λ g. here g.0 g.1 (sender_or_not l.kind l.fields b))
    (λ u. inr (record {
      front = l ∷ u.front;
      sender = u.sender;
      under = u.under;
      there = ap (λ (ks : List FileLine). l ∷ ks) u.there;
      sends = u.sends;
      nearest = u.nearest;
      lacks = u.lacks;
    })) (remembers ls (contacts_behind l.kind (parts_of l) b) e)
  where
    here : NoSender ls → contacts_behind l.kind (parts_of l) b ≡ false →
        ((l.kind ≡ Sender) × (contacts_behind l.kind (parts_of l) b ≡ has_contacts (parts_of l))) ⊎
        ((l.kind ≡ Sender → ⊥) × (contacts_behind l.kind (parts_of l) b ≡ b)) → (NoSender (l ∷ ls) × (b ≡ false)) ⊎ Unreachable (l ∷ ls)
    here none f (inl g) =
        inr (record {
          front = [];
          sender = l;
          under = ls;
          there = refl;
          sends = g.0;
          nearest = none;
          lacks = λ c. clash (told_contacts l c) (sym g.1 ∙ f);
        })
    here none f (inr g) = inl ((g.0, none), sym g.1 ∙ f)

-- and the other way round
past : (ls : List FileLine) (b : Bool) → NoSender ls → contacts_after b ls ≡ b
past [] b n = refl
past (l ∷ ls) b n =
    past ls (contacts_behind l.kind (parts_of l) b) n.1
    ∙ ⊎_elim (λ g. absurd (n.0 g.0)) (λ g. g.1) (sender_or_not l.kind l.fields b)

after_both : (ls ks : List FileLine) (b : Bool) → contacts_after b (ls ++ ks) ≡ contacts_after (contacts_after b ls) ks
after_both [] ks b = refl
after_both (l ∷ ls) ks b = after_both ls ks (contacts_behind l.kind (parts_of l) b)

not_both : (l : FileLine) → (HasContacts l → ⊥) → has_contacts (parts_of l) ≡ false
not_both l n = ⊎_elim (λ t. absurd (n (contacts_told l t))) (λ f. f) (true_or_false (has_contacts (parts_of l)))

pub remembered : (ls : List FileLine) → Unreachable ls → contacts_after true ls ≡ false
remembered ls u =
    let b = contacts_after true u.front in
    let now = contacts_behind u.sender.kind (parts_of u.sender) b in
    let e : now ≡ false = ⊎_elim (λ g. g.1 ∙ not_both u.sender u.lacks) (λ g. absurd (g.0 u.sends))
    (sender_or_not u.sender.kind u.sender.fields b) in
    ap (contacts_after true) u.there ∙ after_both u.front (u.sender ∷ u.under) true ∙ past u.under now u.nearest ∙ e

module _ (countries : List ℕ) (ls : List FileLine) where
  pub away_lacks : (l : FileLine) → l.kind ≡ Shipment → is_listed countries (field_no l.fields 20) ≡ true → Unreachable ls →
      lacks_contact l.kind (parts_of l) countries (contacts_after true ls) ≡ true
  unfolding lacks_contact
  away_lacks l k listed u =
      ap (λ (kind : Record). lacks_contact kind (type_of kind ∷ l.fields) countries (contacts_after true ls)) k
      ∙ rw (remembered ls u) listed

  lacks_away : (kind : Record) (fs : List (List ℕ)) → lacks_contact kind (type_of kind ∷ fs) countries (contacts_after true ls) ≡ true →
      (kind ≡ Shipment) × (is_listed countries (field_no fs 20) ≡ true) × Unreachable ls
  unfolding lacks_contact
  lacks_away Header fs e = absurd (false≢true e)
  lacks_away Sender fs e = absurd (false≢true e)
  lacks_away Shipment fs e =
      let listed = is_listed countries (field_no fs 20) in
      let away = and_left (not (contacts_after true ls)) listed e in (
        refl,
        and_right (not (contacts_after true ls)) listed e,
        ⊎_elim (λ g. clash refl g.1) (λ u. u) (remembers ls true (not-true (contacts_after true ls) away)),
      )
  lacks_away Parcel fs e = absurd (false≢true e)
  lacks_away Product fs e = absurd (false≢true e)
  lacks_away Feature fs e = absurd (false≢true e)

  pub lacks_told : (l : FileLine) → lacks_contact l.kind (parts_of l) countries (contacts_after true ls) ≡ true →
      (l.kind ≡ Shipment) × (is_listed countries (field_no l.fields 20) ≡ true) × Unreachable ls
  lacks_told l e = lacks_away l.kind l.fields e

  -- a parcel lacks none
  pub parcel_spared : (l : FileLine) → l.kind ≡ Parcel → lacks_contact l.kind (parts_of l) countries (contacts_after true ls) ≡ false
  unfolding lacks_contact
  parcel_spared l k = ap (λ (kind : Record). lacks_contact kind (type_of kind ∷ l.fields) countries (contacts_after true ls)) k
