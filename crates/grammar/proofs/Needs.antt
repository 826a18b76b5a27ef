-- What a feature needs, by the tests of the code and by the line's own fields: one is the other.
use Prim.Native.Nat.{ℕ, zero, suc, ◌-◌, ◌≤◌, ◌<◌}
use mathlib.Core.Path.{◌≡◌, refl, sym, ap, ◌∙◌}
use mathlib.Core.Bool.{Bool, true, false, not, ◌||◌, or-true}
use mathlib.Core.List.{List, [], ◌∷◌}
use mathlib.Core.Logic.{◌⊎◌, inl, inr, ◌↔◌, ⊎_elim}
use native.Mathlib.Omega.{arith}
use lib.Dec.{leb, eqb}
use lib.ListN.{length, get_or}
use borrow.Author.Tests.{leb-true, eqb-true, eq-eqb, ne_eqb, not-true, not-false}
use Rattle.std.specs.Prelude.{if◌then◌else◌}
use Rattle.text.specs.Byte.{digit}
use Rattle.text.specs.Decimal.{number}
use Rattle.text.specs.Quoted.{bytes}
use Rattle.text.specs.Scan.{all, among}
use Rattle.text.proofs.Choices.{and_left, and_right, and_both, or_cases, true_or_false, came_then, clash}
use Rattle.forms.specs.Shape.{all_digits, digits}
use Rattle.forms.specs.Feature.{feature_codes, is_feature, code_of}
use Rattle.records.specs.Record.{type_of, row_of}
use Rattle.records.specs.declared.record.Record.{Record}
use Rattle.records.specs.declared.record.Record.TheVariants.{Header, Sender, Shipment, Parcel, Product, Feature}
use Rattle.line.specs.Need.{is_filled, serves, is_served, lacks}
use Rattle.line.specs.Parts.{field_no}
use Rattle.grammar.specs.Grammar.{Filled, AllFilled, Served}

-- three digits are told by their number
record InDigits (b : ℕ) : Type 0 where
  least : 48 ≤ b
  most : b ≤ 57

in_digits : (b : ℕ) → digit b ≡ true → InDigits b
in_digits b e = record { least = leb-true 48 b (and_left (leb 48 b) (leb b 57) e); most = leb-true b 57 (and_right (leb 48 b) (leb b 57) e) }

same_three : (f : List ℕ) (x y z : ℕ) → digits 3 f ≡ true → digits 3 (x ∷ y ∷ z ∷ []) ≡ true → number f ≡ number (x ∷ y ∷ z ∷ []) →
    f ≡ x ∷ y ∷ z ∷ []
unfolding digits all_digits
same_three f x y z p q e = go f (eqb-true (length f) 3 (and_left (eqb (length f) 3) (all digit f) p)) (and_right (eqb (length f) 3) (all digit f) p) e
  where
    go : (g : List ℕ) → length g ≡ 3 → all digit g ≡ true → number g ≡ number (x ∷ y ∷ z ∷ []) → g ≡ x ∷ y ∷ z ∷ []
    go [] l p e = absurd (omega arith)
    go (a ∷ []) l p e = absurd (omega arith)
    go (a ∷ b ∷ []) l p e = absurd (omega arith)
    go (a ∷ b ∷ c ∷ []) l p e =
        let p₂ = and_right (digit a) (all digit (b ∷ c ∷ [])) p in
        let q₁ = and_right (eqb (length (x ∷ y ∷ z ∷ [])) 3) (all digit (x ∷ y ∷ z ∷ [])) q in
        let q₂ = and_right (digit x) (all digit (y ∷ z ∷ [])) q₁ in
        let da = in_digits a (and_left (digit a) (all digit (b ∷ c ∷ [])) p) in
        let db = in_digits b (and_left (digit b) (all digit (c ∷ [])) p₂) in
        let dc = in_digits c (and_left (digit c) true (and_right (digit b) (all digit (c ∷ [])) p₂)) in
        let dx = in_digits x (and_left (digit x) (all digit (y ∷ z ∷ [])) q₁) in
        let dy = in_digits y (and_left (digit y) (all digit (z ∷ [])) q₂) in
        let dz = in_digits z (and_left (digit z) true (and_right (digit y) (all digit (z ∷ [])) q₂)) in
        equal a b c da.least da.most db.least db.most dc.least dc.most dx.least dx.most dy.least dy.most
        dz.least dz.most e
      where
        equal : (a b c : ℕ) → 48 ≤ a → a ≤ 57 → 48 ≤ b → b ≤ 57 → 48 ≤ c → c ≤ 57 → 48 ≤ x → x ≤ 57 → 48 ≤ y → y ≤ 57 → 48 ≤ z →
            z ≤ 57 → number (a ∷ b ∷ c ∷ []) ≡ number (x ∷ y ∷ z ∷ []) → a ∷ b ∷ c ∷ [] ≡ x ∷ y ∷ z ∷ []
        equal a b c a₁ a₂ b₁ b₂ c₁ c₂ x₁ x₂ y₁ y₂ z₁ z₂ e =
            let p : a ≡ x = omega arith in
            let q : b ≡ y = omega arith in
            let r : c ≡ z = omega arith in
            rw (p, q, r)
    go (a ∷ b ∷ c ∷ d ∷ g) l p e = absurd (omega arith)

-- a feature's code is told by its number
coded : (f : List ℕ) (x y z n : ℕ) → digits 3 (x ∷ y ∷ z ∷ []) ≡ true → number (x ∷ y ∷ z ∷ []) ≡ suc n → code_of f ≡ suc n →
    f ≡ x ∷ y ∷ z ∷ []
unfolding code_of is_feature
coded f x y z n d en e =
    let a = came_then (is_feature f) (number f) 0 (suc n) (λ w. omega arith) e in
    same_three f x y z (and_left (digits 3 f) (among (number f) feature_codes) a.0) d (a.1 ∙ sym en)

module _ (name : List ℕ) (fs : List (List ℕ)) where
  abbrev code : List ℕ
  code = field_no fs 1

  abbrev parts : List (List ℕ)
  parts = name ∷ fs

  -- the part with a field's number is that field
  part_field : (n : ℕ) → 1 ≤ n → get_or parts n [] ≡ field_no fs n
  part_field zero h = absurd (omega arith)
  part_field (suc n) h = let same : n ≡ suc n - 1 = omega arith in ap (λ (i : ℕ). get_or fs i []) same

  part_filled : (n : ℕ) → leb 1 n ≡ true → is_filled parts n ≡ true → Filled (field_no fs n)
  unfolding is_filled
  part_filled n h e z =
      let long = length (get_or parts n []) in
      clash (eq-eqb long 0 (ap length (part_field n (leb-true 1 n h)) ∙ z)) (not-true (eqb long 0) e)

  filled_part : (n : ℕ) → leb 1 n ≡ true → Filled (field_no fs n) → is_filled parts n ≡ true
  unfolding is_filled
  filled_part n h e =
      let long = length (get_or parts n []) in
      ap not (ne_eqb long 0 (λ z. e (sym (ap length (part_field n (leb-true 1 n h))) ∙ z)))

  pub all_filled : (ns : List ℕ) → all (leb 1) ns ≡ true → all (is_filled parts) ns ≡ true → AllFilled fs ns
  all_filled [] h e = tt
  all_filled (n ∷ ns) h e = (
    part_filled n (and_left (leb 1 n) (all (leb 1) ns) h) (and_left (is_filled parts n) (all (is_filled parts) ns) e),
    all_filled ns (and_right (leb 1 n) (all (leb 1) ns) h) (and_right (is_filled parts n) (all (is_filled parts) ns) e),
  )

  pub filled_all : (ns : List ℕ) → all (leb 1) ns ≡ true → AllFilled fs ns → all (is_filled parts) ns ≡ true
  filled_all [] h g = refl
  filled_all (n ∷ ns) h g =
      and_both (is_filled parts n) (all (is_filled parts) ns) (filled_part n (and_left (leb 1 n) (all (leb 1) ns) h) g.0)
      (filled_all ns (and_right (leb 1 n) (all (leb 1) ns) h) g.1)

  filled_either : Filled (field_no fs 9) ⊎ Filled (field_no fs 10) → (is_filled parts 9 || is_filled parts 10) ≡ true
  filled_either (inl p) = rw (filled_part 9 refl p)
  filled_either (inr p) = rw (filled_part 10 refl p) (or-true (is_filled parts 9))

  -- a line with this code has what the code asks for
  by_code : is_served parts ≡ true → (c : List ℕ) → code ≡ c → serves (code_of c) parts ≡ true
  unfolding is_served
  by_code h c e = ap (λ (f : List ℕ). serves (code_of f) parts) (sym e) ∙ h

  served_fields : is_served parts ≡ true → Served fs
  unfolding serves code_of is_feature feature_codes digits all_digits
  served_fields h =
      record {
        account =
            ⊎_elim (λ e. all_filled (3 ∷ 4 ∷ 5 ∷ 6 ∷ 7 ∷ []) refl (by_code h (bytes "006") e))
            (⊎_elim (λ e. all_filled (3 ∷ 4 ∷ 5 ∷ 6 ∷ 7 ∷ []) refl (by_code h (bytes "022") e)) absurd);
        cash =
            ⊎_elim (λ e. all_filled (3 ∷ 4 ∷ []) refl (by_code h (bytes "011") e))
            (⊎_elim (λ e. all_filled (3 ∷ 4 ∷ []) refl (by_code h (bytes "063") e)) absurd);
        contact =
            ⊎_elim
            (λ e. ⊎_elim (λ p. inl (part_filled 9 refl p)) (λ p. inr (part_filled 10 refl p))
            (or_cases (is_filled parts 9) (is_filled parts 10) (by_code h (bytes "054") e)))
            absurd;
      }

  either_of : (m n : ℕ) → among (code_of code) (m ∷ n ∷ []) ≡ true → (code_of code ≡ m) ⊎ (code_of code ≡ n)
  either_of m n e =
      ⊎_elim (λ p. inl (eqb-true (code_of code) m p))
      (λ p. inr (⊎_elim (λ q. eqb-true (code_of code) n q) (λ q. clash q refl) (or_cases (eqb (code_of code) n) false p)))
      (or_cases (eqb (code_of code) m) (eqb (code_of code) n || false) e)

  fields_served : Served fs → is_served parts ≡ true
  unfolding is_served serves digits all_digits
  fields_served g = go (among (code_of code) (6 ∷ 22 ∷ [])) (among (code_of code) (11 ∷ 63 ∷ [])) (eqb (code_of code) 54) refl refl refl
    where
      go : (t u v : Bool) → among (code_of code) (6 ∷ 22 ∷ []) ≡ t → among (code_of code) (11 ∷ 63 ∷ []) ≡ u → eqb (code_of code) 54 ≡ v →
          (if t then all (is_filled parts) (3 ∷ 4 ∷ 5 ∷ 6 ∷ 7 ∷ [])
          else if u then all (is_filled parts) (3 ∷ 4 ∷ [])
          else if v then (is_filled parts 9 || is_filled parts 10)
          else true) ≡ true
      go true u v et eu ev =
          filled_all (3 ∷ 4 ∷ 5 ∷ 6 ∷ 7 ∷ []) refl
          (g.account (⊎_elim (λ e. inl (coded code 48 48 54 5 refl refl e)) (λ e. inr (inl (coded code 48 50 50 21 refl refl e)))
          (either_of 6 22 et)))
      go false true v et eu ev =
          filled_all (3 ∷ 4 ∷ []) refl
          (g.cash (⊎_elim (λ e. inl (coded code 48 49 49 10 refl refl e)) (λ e. inr (inl (coded code 48 54 51 62 refl refl e)))
          (either_of 11 63 eu)))
      go false false true et eu ev = filled_either (g.contact (inl (coded code 48 53 52 53 refl refl (eqb-true (code_of code) 54 ev))))
      go false false false et eu ev = refl

-- of every record
other : {A : Type 0} (kind : Record) → row_of kind < 5 → kind ≡ Feature → A
other kind h e = absurd (omega (arith, ap row_of e))

-- a line lacks nothing exactly when, as a feature, it has what it needs
pub lacks_not : (kind : Record) (fs : List (List ℕ)) → (lacks kind (type_of kind ∷ fs) ≡ false) ↔ (kind ≡ Feature → Served fs)
unfolding lacks
lacks_not Header fs = (λ e. other Header (omega arith), λ g. refl)
lacks_not Sender fs = (λ e. other Sender (omega arith), λ g. refl)
lacks_not Shipment fs = (λ e. other Shipment (omega arith), λ g. refl)
lacks_not Parcel fs = (λ e. other Parcel (omega arith), λ g. refl)
lacks_not Product fs = (λ e. other Product (omega arith), λ g. refl)
lacks_not Feature fs = (
  λ e k. served_fields (type_of Feature) fs (not-false (is_served (type_of Feature ∷ fs)) e),
  λ g. ap not (fields_served (type_of Feature) fs (g refl)),
)

-- a feature lacks something exactly when it has not what it needs
pub lacks_some : (fs : List (List ℕ)) → (lacks Feature (type_of Feature ∷ fs) ≡ true) ↔ (Served fs → ⊥)
lacks_some fs = (
  λ e g. clash e ((lacks_not Feature fs).1 (λ k. g)),
  λ n. ⊎_elim (λ t. t) (λ f. absurd (n ((lacks_not Feature fs).0 f refl))) (true_or_false (lacks Feature (type_of Feature ∷ fs))),
)

-- and what lacks something is a feature, with all that is known of it
pub lacks_feature : (Known : Record → Type 0) (kind : Record) (fs : List (List ℕ)) → lacks kind (type_of kind ∷ fs) ≡ true → Known kind →
    Known Feature × (Served fs → ⊥)
unfolding lacks
lacks_feature Known Header fs e k = clash e refl
lacks_feature Known Sender fs e k = clash e refl
lacks_feature Known Shipment fs e k = clash e refl
lacks_feature Known Parcel fs e k = clash e refl
lacks_feature Known Product fs e k = clash e refl
lacks_feature Known Feature fs e k = (k, (lacks_some fs).0 e)
