-- Contacts: what the judge keeps of a sender and asks of each shipment, line by line, is the rule over senders and their shipments.
use Prim.Native.Nat.{ℕ}
use mathlib.Core.Path.{◌≡◌, refl, ap}
use mathlib.Core.Bool.{Bool, true, false, not, ◌&&◌, ◌||◌, and-false}
use mathlib.Core.List.{List, [], ◌∷◌, ◌++◌}
use mathlib.Core.Logic.{⊎_elim}
use native.Mathlib.Omega.{arith}
use Rattle.text.proofs.Choices.{or_neither, true_or_false, clash}
use Rattle.countries.specs.List.{is_listed}
use Rattle.records.specs.Record.{row_of, type_of}
use Rattle.records.specs.declared.record.Record.{Record}
use Rattle.records.specs.declared.record.Record.TheVariants.{Header, Sender, Shipment, Parcel, Product, Feature}
use Rattle.line.specs.Parts.{field_no}
use Rattle.grammar.proofs.Needs.{all_filled, filled_all}
use Rattle.file.specs.Contact.{has_contacts, contacts_behind, lacks_contact}
use Rattle.allowed.specs.Allowed.{FileLine, shipments_under, some_into, HasContacts, ContactsKept}

-- the parts of a line
abbrev pub parts_of : FileLine → List (List ℕ)
parts_of l = type_of l.kind ∷ l.fields

pub contacts_told : (l : FileLine) → has_contacts (parts_of l) ≡ true → HasContacts l
unfolding has_contacts
contacts_told l e = all_filled (type_of l.kind) l.fields (12 ∷ 13 ∷ []) refl e

pub told_contacts : (l : FileLine) → HasContacts l → has_contacts (parts_of l) ≡ true
unfolding has_contacts
told_contacts l g = filled_all (type_of l.kind) l.fields (12 ∷ 13 ∷ []) refl g

-- what the judge keeps, behind lines
abbrev pub contacts_after : Bool → List FileLine → Bool
contacts_after before [] = before
contacts_after before (l ∷ ls) = contacts_after (contacts_behind l.kind (parts_of l) before) ls

-- what the judge asks of lines, each as it comes
abbrev pub Asked : List ℕ → Bool → List FileLine → Type 0
Asked countries before [] = Unit {0}
Asked countries before (l ∷ ls) =
    (lacks_contact l.kind (parts_of l) countries before ≡ false) × Asked countries (contacts_behind l.kind (parts_of l) before) ls

-- a record that is no sender
pub other : {A : Type 0} (kind : Record) → (row_of kind ≡ 1 → ⊥) → kind ≡ Sender → A
other kind n e = absurd (n (ap row_of e))

-- the two rules for one line, and those behind it
module _ (countries : List ℕ) (ls : List FileLine) (b : Bool) (fs : List (List ℕ)) where
  abbrev into : Bool
  into = some_into countries (shipments_under ls)

  abbrev line : Record → FileLine
  line kind = record { kind = kind; fields = fs }

  abbrev Spared : Bool → Bool → Type 0
  Spared contacts some = contacts ≡ false → some ≡ false

  -- as the judge asks
  abbrev ByLine : Record → Type 0
  ByLine kind =
      (lacks_contact kind (type_of kind ∷ fs) countries b ≡ false) × Spared (contacts_behind kind (type_of kind ∷ fs) b) into

  -- as the rule says
  abbrev BySender : Record → Type 0
  BySender kind = Spared b (some_into countries (shipments_under (line kind ∷ ls))) × (kind ≡ Sender → into ≡ true → HasContacts (line kind))

  into_here : (listed : Bool) → (not b && listed) ≡ false → Spared b into → Spared b (listed || into)
  into_here listed e h z = let f : listed ≡ false = rw z at e in rw (f, h z)

  here_into : (listed : Bool) → Spared b (listed || into) → ((not b && listed) ≡ false) × Spared b into
  here_into listed h = (
    ⊎_elim (λ t. rw t) (λ f. rw (or_neither listed into (h f)).0 (and-false (not b))) (true_or_false b),
    λ z. (or_neither listed into (h z)).1,
  )

  pub by_line : (kind : Record) → ByLine kind → BySender kind
  unfolding lacks_contact contacts_behind
  by_line Header g = (g.1, other Header (λ z. omega arith))
  by_line Sender g = (
    λ z. refl,
    λ k e. ⊎_elim (λ t. contacts_told (line Sender) t) (λ f. clash e (g.1 f)) (true_or_false (has_contacts (type_of Sender ∷ fs))),
  )
  by_line Shipment g = (into_here (is_listed countries (field_no fs 20)) g.0 g.1, other Shipment (λ z. omega arith))
  by_line Parcel g = (g.1, other Parcel (λ z. omega arith))
  by_line Product g = (g.1, other Product (λ z. omega arith))
  by_line Feature g = (g.1, other Feature (λ z. omega arith))

  pub by_sender : (kind : Record) → BySender kind → ByLine kind
  unfolding lacks_contact contacts_behind
  by_sender Header g = (refl, g.0)
  by_sender Sender g = (
    refl,
    λ z. ⊎_elim (λ t. clash (told_contacts (line Sender) (g.1 refl t)) z) (λ f. f) (true_or_false into),
  )
  by_sender Shipment g = here_into (is_listed countries (field_no fs 20)) g.0
  by_sender Parcel g = (refl, g.0)
  by_sender Product g = (refl, g.0)
  by_sender Feature g = (refl, g.0)

module _ (countries : List ℕ) where
  asked_kept : (ls : List FileLine) (b : Bool) → Asked countries b ls →
      (b ≡ false → some_into countries (shipments_under ls) ≡ false) × ContactsKept countries ls
  asked_kept [] b a = (λ z. refl, tt)
  asked_kept (l ∷ ls) b a =
      let more = asked_kept ls (contacts_behind l.kind (parts_of l) b) a.1 in
      let here = by_line countries ls b l.fields l.kind (a.0, more.0) in
      (here.0, (here.1, more.1))

  kept_asked : (ls : List FileLine) (b : Bool) → (b ≡ false → some_into countries (shipments_under ls) ≡ false) → ContactsKept countries ls →
      Asked countries b ls
  kept_asked [] b h k = tt
  kept_asked (l ∷ ls) b h k =
      let here = by_sender countries ls b l.fields l.kind (h, k.0) in
      (here.0, kept_asked ls (contacts_behind l.kind (parts_of l) b) here.1 k.1)

  -- before the first sender no contact is missing
  pub asked_all : (ls : List FileLine) → Asked countries true ls → ContactsKept countries ls
  asked_all ls a = (asked_kept ls true a).1

  pub all_asked : (ls : List FileLine) → ContactsKept countries ls → Asked countries true ls
  all_asked ls k = kept_asked ls true (λ z. clash refl z) k

-- lines one after the other
module _ (countries : List ℕ) where
  pub asked_front : (ls ks : List FileLine) (b : Bool) → Asked countries b (ls ++ ks) → Asked countries b ls
  asked_front [] ks b a = tt
  asked_front (l ∷ ls) ks b a = (a.0, asked_front ls ks (contacts_behind l.kind (parts_of l) b) a.1)

  pub asked_at : (ls : List FileLine) (l : FileLine) (ks : List FileLine) (b : Bool) → Asked countries b (ls ++ l ∷ ks) →
      lacks_contact l.kind (parts_of l) countries (contacts_after b ls) ≡ false
  asked_at [] l ks b a = a.0
  asked_at (k ∷ ls) l ks b a = asked_at ls l ks (contacts_behind k.kind (parts_of k) b) a.1

  pub asked_more : (ls : List FileLine) (l : FileLine) (b : Bool) → Asked countries b ls →
      lacks_contact l.kind (parts_of l) countries (contacts_after b ls) ≡ false → Asked countries b (ls ++ (l ∷ []))
  asked_more [] l b a e = (e, tt)
  asked_more (k ∷ ls) l b a e = (a.0, asked_more ls l (contacts_behind k.kind (parts_of k) b) a.1 e)

pub after_more : (b : Bool) (ls : List FileLine) (l : FileLine) →
    contacts_after b (ls ++ (l ∷ [])) ≡ contacts_behind l.kind (parts_of l) (contacts_after b ls)
after_more b [] l = refl
after_more b (k ∷ ls) l = after_more (contacts_behind k.kind (parts_of k) b) ls l
