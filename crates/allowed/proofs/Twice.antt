-- No code twice, whether it is asked of each code as it comes or of all of them at the end.
use Prim.Native.Nat.{ℕ}
use mathlib.Core.Path.{◌≡◌, refl, sym, ap, ◌∙◌}
use mathlib.Core.Bool.{false, ◌||◌}
use mathlib.Core.List.{List, [], ◌∷◌, ◌++◌, append-nil}
use mathlib.Core.Logic.{⊎_elim}
use Rattle.text.specs.Scan.{same}
use Rattle.text.proofs.Choices.{or_neither, true_or_false, clash}
use Rattle.text.proofs.Scans.{same_eq, same_refl}
use Rattle.records.specs.declared.record.Record.{Record}
use Rattle.records.specs.declared.record.Record.TheVariants.{Header, Sender, Shipment, Parcel, Product, Feature}
use Rattle.allowed.specs.Allowed.{codes_on, one_of_codes, NoneTwice}
use Rattle.allowed.proofs.Codes.{Fresh, codes_append}

unlike_back : (a b : List ℕ) → same a b ≡ false → same b a ≡ false
unlike_back a b e = ⊎_elim (λ t. clash (ap (λ (x : List ℕ). same a x) (same_eq b a t) ∙ same_refl a) e) (λ f. f) (true_or_false (same b a))

-- a code behind the others
none_behind : (xs : List (List ℕ)) (c : List ℕ) → NoneTwice xs → one_of_codes c xs ≡ false → NoneTwice (xs ++ (c ∷ []))
none_behind [] c n e = (refl, tt)
none_behind (x ∷ xs) c n e =
    let f = or_neither (same x c) (one_of_codes c xs) e in
    (codes_append x xs (c ∷ []) ∙ rw (n.0, unlike_back x c f.0), none_behind xs c n.1 f.1)

pub none_more : (kind : Record) (fs xs : List (List ℕ)) → NoneTwice xs → Fresh xs (codes_on kind fs) → NoneTwice (xs ++ codes_on kind fs)
none_more Header fs xs n f = rw (append-nil xs) n
none_more Sender fs xs n f = rw (append-nil xs) n
none_more Shipment fs xs n f = rw (append-nil xs) n
none_more Parcel fs xs n f = none_behind xs _ n f.0
none_more Product fs xs n f = rw (append-nil xs) n
none_more Feature fs xs n f = rw (append-nil xs) n

none_before : (xs : List (List ℕ)) (c : List ℕ) (ys : List (List ℕ)) → NoneTwice (xs ++ (c ∷ ys)) → one_of_codes c xs ≡ false
none_before [] c ys n = refl
none_before (x ∷ xs) c ys n =
    let f = or_neither (one_of_codes x xs) (same c x || one_of_codes x ys) (sym (codes_append x xs (c ∷ ys)) ∙ n.0) in
    let g = or_neither (same c x) (one_of_codes x ys) f.1 in
    rw (unlike_back c x g.0, none_before xs c ys n.1)

pub fresh_before : (kind : Record) (fs xs ys : List (List ℕ)) → NoneTwice (xs ++ (codes_on kind fs ++ ys)) → Fresh xs (codes_on kind fs)
fresh_before Header fs xs ys n = tt
fresh_before Sender fs xs ys n = tt
fresh_before Shipment fs xs ys n = tt
fresh_before Parcel fs xs ys n = (none_before xs _ ys n, tt)
fresh_before Product fs xs ys n = tt
fresh_before Feature fs xs ys n = tt
