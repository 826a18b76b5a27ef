-- Lists of countries: which they name, what a part of one names, and what the rule on contacts asks with them.
use Prim.Native.Nat.{ℕ, suc, ◌%◌}
use mathlib.Core.Path.{◌≡◌, refl, sym, ap, ◌∙◌}
use mathlib.Core.Bool.{true, false, or-true, false≢true}
use mathlib.Core.List.{List, [], ◌∷◌, ◌++◌}
use mathlib.Core.Logic.{◌↔◌, ⊎_elim}
use native.Mathlib.Omega.{arith}
use lib.Dec.{eqb}
use lib.ListN.{length}
use Rattle.text.specs.Scan.{same}
use Rattle.text.proofs.Choices.{or_cases, clash}
use Rattle.text.proofs.Scans.{same_eq, same_refl}
use Rattle.countries.specs.List.{is_paired, is_listed}
use Rattle.line.specs.Parts.{field_no}
use Rattle.allowed.specs.Allowed.{FileLine, shipments_under, some_into, ContactsKept}
use Rattle.allowed.specs.Countries.{InList, PartOf, AllReachable}

two_more : (a b : ℕ) (s : List ℕ) → is_paired (a ∷ b ∷ s) ≡ is_paired s
unfolding is_paired
two_more a b s = let e : suc (suc (length s)) % 2 ≡ length s % 2 = omega arith in ap (λ (n : ℕ). eqb n 0) e

-- a country is listed exactly when it stands in the list
there_listed : (front country back : List ℕ) → is_paired front ≡ true → length country ≡ 2 → is_listed (front ++ (country ++ back)) country ≡ true
unfolding is_paired
there_listed [] [] back p t = absurd (omega arith)
there_listed [] (x ∷ []) back p t = absurd (omega arith)
there_listed [] (x ∷ y ∷ []) back p t = rw (same_refl (x ∷ y ∷ []))
there_listed [] (x ∷ y ∷ z ∷ more) back p t = absurd (omega arith)
there_listed (a ∷ []) country back p t = absurd (false≢true p)
there_listed (a ∷ b ∷ front) country back p t =
    rw (there_listed front country back (sym (two_more a b front) ∙ p) t) (or-true (same (a ∷ b ∷ []) country))

listed_there : (countries country : List ℕ) → is_listed countries country ≡ true → InList countries country
unfolding is_paired
listed_there [] country e = absurd (false≢true e)
listed_there (a ∷ []) country e = absurd (false≢true e)
listed_there (a ∷ b ∷ more) country e =
    ⊎_elim
    (λ t. let is : a ∷ b ∷ [] ≡ country = same_eq (a ∷ b ∷ []) country t in
    record { front = []; back = more; there = ap (λ (x : List ℕ). x ++ more) is; pairs = refl; two = sym (ap length is) })
    (λ t. let g = listed_there more country t in record {
      front = a ∷ b ∷ g.front;
      back = g.back;
      there = ap (λ (x : List ℕ). a ∷ b ∷ x) g.there;
      pairs = two_more a b g.front ∙ g.pairs;
      two = g.two;
    })
    (or_cases (same (a ∷ b ∷ []) country) (is_listed more country) e)

pub listed_exactly : (countries country : List ℕ) → (is_listed countries country ≡ true) ↔ InList countries country
listed_exactly countries country = (
  listed_there countries country,
  λ g. ap (λ (s : List ℕ). is_listed s country) g.there ∙ there_listed g.front country g.back g.pairs g.two,
)

-- a part names nothing else
pub part_paired : (part countries : List ℕ) → PartOf part countries → is_paired part ≡ true
unfolding is_paired
part_paired part countries PartOf.nothing = refl
part_paired part countries (PartOf.kept a b p c g) = two_more a b p ∙ part_paired p c g
part_paired part countries (PartOf.left_out a b p c g) = part_paired p c g

part_listed : (part countries : List ℕ) → PartOf part countries → (country : List ℕ) → is_listed part country ≡ true →
    is_listed countries country ≡ true
part_listed part countries PartOf.nothing country e = e
part_listed part countries (PartOf.kept a b p c g) country e =
    ⊎_elim (λ t. rw t) (λ t. rw (part_listed p c g country t) (or-true (same (a ∷ b ∷ []) country)))
    (or_cases (same (a ∷ b ∷ []) country) (is_listed p country) e)
part_listed part countries (PartOf.left_out a b p c g) country e = rw (part_listed p c g country e) (or-true (same (a ∷ b ∷ []) country))

into_part : (part countries : List ℕ) → PartOf part countries → (ls : List FileLine) → some_into part ls ≡ true → some_into countries ls ≡ true
into_part part countries g [] e = e
into_part part countries g (l ∷ ls) e =
    let country = field_no l.fields 20 in
    ⊎_elim (λ t. rw (part_listed part countries g country t)) (λ t. rw (into_part part countries g ls t) (or-true (is_listed countries country)))
    (or_cases (is_listed part country) (some_into part ls) e)

-- so it asks nothing else
pub kept_part : (part countries : List ℕ) → PartOf part countries → (ls : List FileLine) → ContactsKept countries ls → ContactsKept part ls
kept_part part countries g [] k = tt
kept_part part countries g (l ∷ ls) k =
    (λ sends e. k.0 sends (into_part part countries g (shipments_under ls) e), kept_part part countries g ls k.1)

-- the empty list asks nothing
none_into : (ls : List FileLine) → some_into [] ls ≡ false
none_into [] = refl
none_into (l ∷ ls) = none_into ls

pub kept_empty : (ls : List FileLine) → ContactsKept [] ls
kept_empty [] = tt
kept_empty (l ∷ ls) = (λ sends e. clash e (none_into (shipments_under ls)), kept_empty ls)

-- of senders with both contacts no list asks more
pub kept_reachable : (countries : List ℕ) (ls : List FileLine) → AllReachable ls → ContactsKept countries ls
kept_reachable countries [] a = tt
kept_reachable countries (l ∷ ls) a = (λ sends e. a.0 sends, kept_reachable countries ls a.1)
