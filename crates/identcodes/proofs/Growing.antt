-- A tree grown by the code of one parcel line: it has that code more than before, and no other.
use Prim.Native.Nat.{ℕ, ◌+◌, ◌<◌, ◌≤◌}
use mathlib.Core.Path.{◌≡◌, refl, sym, ap, ◌∙◌}
use mathlib.Core.Bool.{Bool, true, false, ◌||◌, or-false, or_comm}
use mathlib.Core.Logic.{⊎_elim}
use mathlib.Core.List.{List}
use native.Mathlib.Omega.{arith}
use lib.Dec.{leb, ltb}
use lib.ListN.{length, get_or, set}
use lib.Seq.{get_or-set_same}
use borrow.Author.Tests.{lt-leb, ltb-true, ltb-false, leb-true, leb-false, ne_eqb}
use Rattle.text.specs.Byte.{digit}
use Rattle.std.specs.Prelude.{if◌then◌else◌}
use Rattle.text.specs.Scan.{same}
use Rattle.text.proofs.Choices.{true_or_false, and_right}
use Rattle.text.proofs.Numbers.{eq_or_ne}
use Rattle.text.proofs.Scans.{all_at, same_eq}
use Rattle.forms.specs.Shape.{digits, all_digits}
use Rattle.forms.proofs.Shapes.{digits_parts}
use Rattle.identcodes.specs.Tree.{identcode_at, fork, digit_of, pair_of, words_of, slot_of, unlike_at, planted, parted, leaf_code}
use Rattle.identcodes.specs.Tree.{is_there, grown, has_room}
use Rattle.identcodes.proofs.Forks.{fork_pair, fork_byte, fork_digit, fork_is}
use Rattle.identcodes.proofs.Answers.{room_parts}
use Rattle.identcodes.proofs.Slots.{Sound, Tree, comes_to}
use Rattle.identcodes.proofs.Unlike.{unlike_same, unlike_not, unlike_there}
use Rattle.identcodes.proofs.Parting.{planted_tree, meets, elsewhere, at_the_fork}

-- a tree that has one code more: that of the parcel line that starts here
pub record Grown (s tree : List ℕ) (parcels at : ℕ) (after : List ℕ) : Type 0 where
  pub whole : Tree s (parcels + 1) after
  pub tells : (z : ℕ) → digits 22 (identcode_at s z) ≡ true →
      is_there s after (parcels + 1) z ≡ (is_there s tree parcels z || same (identcode_at s at) (identcode_at s z))

code_long : (code : List ℕ) → digits 22 code ≡ true → length code ≡ 22
code_long code d = (digits_parts 22 code d).0

code_digit : (code : List ℕ) → digits 22 code ≡ true → (i : ℕ) → i < 22 → get_or code i 0 ≤ 57
unfolding all_digits
code_digit code d i h =
    let b = get_or code i 0 in
    let parts = digits_parts 22 code d in
    leb-true b 57 (and_right (leb 48 b) (leb b 57) (all_at digit code parts.1 i (omega (arith, parts.0))))

-- no parcel yet
pub tree_none : (s tree : List ℕ) → Tree s 0 tree
tree_none s tree = record { sound = λ place h. absurd (omega arith) }

pub none_there : (s tree : List ℕ) (at : ℕ) → is_there s tree 0 at ≡ false
unfolding is_there
none_there s tree at = refl

-- the first parcel
module _ (s tree : List ℕ) (at : ℕ) (small : at < 65536) (room : 1 ≤ length tree) (d : digits 22 (identcode_at s at) ≡ true) where
  here : get_or (set tree 0 at) 0 0 ≡ at
  here = get_or-set_same tree 0 at 0 (omega arith)

  first_grown : Grown s tree 0 at (set tree 0 at)
  unfolding is_there
  first_grown = record { whole = record { sound = each }; tells = tell }
    where
      each : (place : ℕ) → place < 1 → Sound s 1 place (get_or (set tree 0 at) place 0)
      each place h =
          let q : place ≡ 0 = omega arith in
          rw (q, here) (record { leaf = λ f. d; pair = λ f. absurd (omega arith); inside = λ f. absurd (omega arith) })

      leaf_there : (code : List ℕ) → get_or (set tree 0 at) (slot_of (set tree 0 at) 1 code) 0 ≡ at
      leaf_there code = rw (here, lt-leb 65536 at small) here

      tell : (z : ℕ) → digits 22 (identcode_at s z) ≡ true →
          is_there s (set tree 0 at) 1 z ≡ (is_there s tree 0 z || same (identcode_at s at) (identcode_at s z))
      tell z dz =
          ap (λ (k : ℕ). leb 22 (unlike_at (identcode_at s k) (identcode_at s z))) (leaf_there (identcode_at s z))
          ∙ unlike_same (identcode_at s at) (identcode_at s z) (code_long (identcode_at s at) d) (code_long (identcode_at s z) dz)

-- the leaf to which a code comes is a parcel's
pub leaf_code_lem : (s : List ℕ) (n : ℕ) (tree : List ℕ) → Tree s n tree → 1 ≤ n → (code : List ℕ) → digits 22 (leaf_code s tree n code) ≡ true
leaf_code_lem s n tree g some code =
    let b = comes_to s n tree g code (words_of n) 0 (omega arith) (omega arith) in
    (g.sound (slot_of tree n code) b.0).leaf b.1

-- what the tree tells of a code, as the codes themselves tell it
there_same : (s : List ℕ) (n : ℕ) (tree : List ℕ) → Tree s n tree → 1 ≤ n → (z : ℕ) → digits 22 (identcode_at s z) ≡ true →
    is_there s tree n z ≡ same (leaf_code s tree n (identcode_at s z)) (identcode_at s z)
unfolding is_there
there_same s n tree g some z dz =
    let no : n ≡ 0 → ⊥ = λ (e : n ≡ 0). omega arith in
    let leaf = leaf_code s tree n (identcode_at s z) in
    rw (ne_eqb n 0 no)
    (unlike_same leaf (identcode_at s z) (code_long leaf (leaf_code_lem s n tree g some (identcode_at s z))) (code_long (identcode_at s z) dz))

-- another parcel: the leaf to which its code comes is parted
module _ (s : List ℕ) (parcels : ℕ) (tree : List ℕ) (g : Tree s parcels tree) (some : 1 ≤ parcels) (small : words_of parcels < 65536)
    (inside : words_of parcels + 1 < length tree) (at : ℕ) where
  abbrev slot : ℕ
  slot = slot_of tree parcels (identcode_at s at)

  ends : (slot < words_of parcels) × (get_or tree slot 0 < 65536)
  ends = comes_to s parcels tree g (identcode_at s at) (words_of parcels) 0 (omega arith) (omega arith)

  module _ (x y byte asked : ℕ) (hx : x < 65536) (hy : y < 65536) (dx : digits 22 (identcode_at s x) ≡ true)
      (dy : digits 22 (identcode_at s y) ≡ true) (b1 : 1 ≤ byte) (b2 : byte < 256)
      (two : (c : List ℕ) → (same (identcode_at s x) c || same (identcode_at s y) c) ≡
      (same (identcode_at s (get_or tree slot 0)) c || same (identcode_at s at) c))
      (low : (c : List ℕ) → get_or c asked 0 < byte → same (identcode_at s y) c ≡ false)
      (high : (c : List ℕ) → byte ≤ get_or c asked 0 → same (identcode_at s x) c ≡ false) where
    abbrev word : ℕ
    word = fork asked byte (words_of parcels)

    abbrev tree₂ : List ℕ
    tree₂ = planted tree slot (words_of parcels) x y word

    is_pair : pair_of word ≡ words_of parcels
    is_pair = fork_pair asked byte (words_of parcels) b2 small

    is_fork : 65536 ≤ word
    is_fork = fork_is asked byte (words_of parcels) b2 small b1

    now_tree : Tree s (parcels + 1) tree₂
    now_tree = planted_tree s parcels tree g slot x y word ends.0 inside ends.1 hx hy is_fork is_pair some dx dy

    module _ (c : List ℕ) where
      fork_met : slot_of tree parcels c ≡ slot →
          (same (leaf_code s tree parcels c) c || same (identcode_at s at) c) ≡ same (leaf_code s tree₂ (parcels + 1) c) c
      fork_met e =
          let there = at_the_fork s parcels tree g slot x y word ends.0 inside ends.1 hx hy is_fork is_pair some dx dy c e in
          let digit : get_or c (digit_of word) 0 ≡ get_or c asked 0 =
          ap (λ (k : ℕ). get_or c k 0) (fork_digit asked byte (words_of parcels) b2 small) in
          let byte-is = fork_byte asked byte (words_of parcels) b2 small in
          let met = meets s parcels tree g slot x y word ends.0 inside ends.1 hx hy is_fork is_pair some dx dy c
          (λ l. low c (omega arith)) (λ l. high c (omega arith)) in
          ap (λ (k : ℕ). same (identcode_at s (get_or tree k 0)) c || same (identcode_at s at) c) e
          ∙ sym (two c)
          ∙ sym met
          ∙ ap (λ (k : ℕ). same (identcode_at s (get_or tree₂ k 0)) c) (sym there)

      leaf_met : (slot_of tree parcels c ≡ slot → ⊥) →
          (same (leaf_code s tree parcels c) c || same (identcode_at s at) c) ≡ same (leaf_code s tree₂ (parcels + 1) c) c
      leaf_met n =
          let there = elsewhere s parcels tree g slot x y word ends.0 inside ends.1 hx hy is_fork is_pair some dx dy c n in
          let apart : same (identcode_at s at) c ≡ false =
          ⊎_elim (λ t. absurd (n (ap (slot_of tree parcels) (sym (same_eq (identcode_at s at) c t))))) (λ f. f)
          (true_or_false (same (identcode_at s at) c)) in
          ap (λ (t : Bool). same (leaf_code s tree parcels c) c || t) apart
          ∙ or-false (same (leaf_code s tree parcels c) c)
          ∙ ap (λ (k : ℕ). same (identcode_at s k) c) (sym there)

    tell : (z : ℕ) → digits 22 (identcode_at s z) ≡ true →
        is_there s tree₂ (parcels + 1) z ≡ (is_there s tree parcels z || same (identcode_at s at) (identcode_at s z))
    tell z dz =
        let c = identcode_at s z in
        there_same s (parcels + 1) tree₂ now_tree (omega arith) z dz
        ∙ sym (⊎_elim (fork_met c) (leaf_met c) (eq_or_ne (slot_of tree parcels c) slot))
        ∙ ap (λ (t : Bool). t || same (identcode_at s at) c) (sym (there_same s parcels tree g some z dz))

    part_grown : Grown s tree parcels at tree₂
    part_grown = record { whole = now_tree; tells = tell }

  module _ (at_small : at < 65536) (d : digits 22 (identcode_at s at) ≡ true) where
    parted_grown :
        unlike_at (leaf_code s tree parcels (identcode_at s at)) (identcode_at s at) < 22 →
        let leaf = leaf_code s tree parcels (identcode_at s at) in
        let asked = unlike_at leaf (identcode_at s at) in
        Grown s tree parcels at
        (parted tree (slot_of tree parcels (identcode_at s at)) (words_of parcels) asked (get_or leaf asked 0) (get_or (identcode_at s at) asked 0) at)
    unfolding parted
    parted_grown h = go (ltb earlier new) refl
      where
        code : List ℕ
        code = identcode_at s at

        leaf : List ℕ
        leaf = leaf_code s tree parcels code

        asked : ℕ
        asked = unlike_at leaf code

        earlier : ℕ
        earlier = get_or leaf asked 0

        new : ℕ
        new = get_or code asked 0

        leaf_is : digits 22 leaf ≡ true
        leaf_is = leaf_code_lem s parcels tree g some code

        differ : earlier ≡ new → ⊥
        differ = unlike_there leaf code h

        go : (t : Bool) → ltb earlier new ≡ t → Grown s tree parcels at
            (if t then planted tree slot (words_of parcels) (get_or tree slot 0) at (fork asked new (words_of parcels))
            else planted tree slot (words_of parcels) at (get_or tree slot 0) (fork asked earlier (words_of parcels)))
        go true e =
            let less = ltb-true earlier new e in
            let is = code_digit code d asked h in
            part_grown (get_or tree slot 0) at new asked ends.1 at_small leaf_is d (omega arith) (omega (arith, is)) (λ c. refl)
            (λ c l. unlike_not code c asked (λ q. omega arith))
            (λ c l. unlike_not leaf c asked (λ q. omega arith))
        go false e =
            let less = ltb-false earlier new e in
            let is = code_digit leaf leaf_is asked h in
            let more : new < earlier = ⊎_elim (λ q. absurd (differ q)) (λ n. omega arith) (eq_or_ne earlier new) in
            part_grown at (get_or tree slot 0) earlier asked at_small ends.1 d leaf_is (omega arith) (omega (arith, is))
            (λ c. or_comm (same code c) (same leaf c))
            (λ c l. unlike_not leaf c asked (λ q. omega arith))
            (λ c l. unlike_not code c asked (λ q. omega arith))

-- a parcel whose code the tree has not, put into it
pub one_more : (s : List ℕ) (parcels : ℕ) (tree : List ℕ) (at : ℕ) → Tree s parcels tree → has_room tree parcels at ≡ true →
    digits 22 (identcode_at s at) ≡ true → is_there s tree parcels at ≡ false → Grown s tree parcels at (grown s tree parcels at)
unfolding grown is_there
one_more s parcels tree at g room d e = ⊎_elim none some (eq_or_ne parcels 0)
  where
    fits : (at < 65536) × (words_of (parcels + 1) ≤ 65536) × (words_of (parcels + 1) ≤ length tree)
    fits = room_parts tree parcels at room

    none : parcels ≡ 0 → Grown s tree parcels at (grown s tree parcels at)
    none q = rw q (first_grown s tree at fits.0 (omega (arith, fits)) d)

    some : (parcels ≡ 0 → ⊥) → Grown s tree parcels at (grown s tree parcels at)
    some n =
        let asked = unlike_at (leaf_code s tree parcels (identcode_at s at)) (identcode_at s at) in
        let f : leb 22 asked ≡ false = rw (ne_eqb parcels 0 n) at e in
        rw (ne_eqb parcels 0 n, f)
        (parted_grown s parcels tree g (omega arith) (omega (arith, fits)) (omega (arith, fits)) at fits.0 d (leb-false 22 asked f))
