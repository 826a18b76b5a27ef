-- A leaf of the tree parted: every code comes where it came before, but those that came to that leaf, which now come to one of two.
use Prim.Native.Nat.{ℕ, zero, suc, ◌+◌, ◌<◌, ◌≤◌}
use mathlib.Core.Path.{◌≡◌, refl, sym, ap, ◌∙◌}
use mathlib.Core.Bool.{Bool, true, false, ◌||◌, or-false}
use mathlib.Core.Logic.{⊎_elim}
use mathlib.Core.List.{List}
use native.Mathlib.Omega.{arith}
use lib.Dec.{leb, ltb, eqb}
use lib.ListN.{length, get_or, set, length-set}
use lib.Seq.{get_or-set_same, get_or-set_other}
use borrow.Author.Tests.{le-leb, lt-leb, leb-true, leb-false, ltb-true, ltb-false, eq-eqb, ne_eqb, eqb-true, eqb-false}
use Rattle.std.specs.Prelude.{if◌then◌else◌}
use Rattle.text.specs.Scan.{same}
use Rattle.text.proofs.Choices.{true_or_false}
use Rattle.text.proofs.Numbers.{le_or_lt, eq_or_ne}
use Rattle.forms.specs.Shape.{digits}
use Rattle.identcodes.specs.Tree.{identcode_at, digit_of, byte_of, pair_of, leads_to, slot_from, words_of, slot_of, planted}
use Rattle.identcodes.proofs.Slots.{Sound, Tree, lead_on, comes_to}

-- the words of the pair, and the fork where the leaf was
module _ (tree : List ℕ) (slot pair x y word : ℕ) (hs : slot < pair) (hp : pair + 1 < length tree) where
  long : length (set (set tree pair x) (pair + 1) y) ≡ length tree
  long = length-set (set tree pair x) (pair + 1) y ∙ length-set tree pair x

  pub at_slot : get_or (planted tree slot pair x y word) slot 0 ≡ word
  at_slot = get_or-set_same (set (set tree pair x) (pair + 1) y) slot word 0 (omega (arith, long))

  pub at_second : get_or (planted tree slot pair x y word) (pair + 1) 0 ≡ y
  at_second =
      get_or-set_other (set (set tree pair x) (pair + 1) y) slot (pair + 1) word 0 (λ e. omega arith)
      ∙ get_or-set_same (set tree pair x) (pair + 1) y 0 (omega (arith, length-set tree pair x))

  pub at_first : get_or (planted tree slot pair x y word) pair 0 ≡ x
  at_first =
      get_or-set_other (set (set tree pair x) (pair + 1) y) slot pair word 0 (λ e. omega arith)
      ∙ get_or-set_other (set tree pair x) (pair + 1) pair y 0 (λ e. omega arith)
      ∙ get_or-set_same tree pair x 0 (omega arith)

  pub at_other : (i : ℕ) → i < pair → (i ≡ slot → ⊥) → get_or (planted tree slot pair x y word) i 0 ≡ get_or tree i 0
  at_other i h n =
      get_or-set_other (set (set tree pair x) (pair + 1) y) slot i word 0 n
      ∙ get_or-set_other (set tree pair x) (pair + 1) i y 0 (λ e. omega arith)
      ∙ get_or-set_other tree pair i x 0 (λ e. omega arith)

-- where a code comes that came to k
abbrev pub afterwards : ℕ → ℕ → List ℕ → ℕ → ℕ
afterwards slot word code k = if eqb k slot then leads_to word code else k

module _ (s : List ℕ) (parcels : ℕ) (tree : List ℕ) (g : Tree s parcels tree) (slot x y word : ℕ) (hs : slot < words_of parcels)
    (hp : words_of parcels + 1 < length tree) (leaf : get_or tree slot 0 < 65536) (hx : x < 65536) (hy : y < 65536)
    (hw : 65536 ≤ word) (pair : pair_of word ≡ words_of parcels) where
  abbrev pub now : List ℕ
  now = planted tree slot (words_of parcels) x y word

  module _ (code : List ℕ) where
    -- a leaf of the pair
    stays : (i turns : ℕ) → get_or now i 0 < 65536 → slot_from (suc turns) now code i ≡ i
    stays i turns h = rw (lt-leb 65536 (get_or now i 0) h)

    -- the two words of the pair are leaves
    pub pair_leaf : get_or now (leads_to word code) 0 < 65536
    pair_leaf = go (ltb (get_or code (digit_of word) 0) (byte_of word))
      where
        go : (t : Bool) → get_or now (if t then pair_of word else pair_of word + 1) 0 < 65536
        go true = rw pair (omega (arith, hx, at_first tree slot (words_of parcels) x y word hs hp))
        go false = rw pair (omega (arith, hy, at_second tree slot (words_of parcels) x y word hs hp))

    pub comes_after : (turns i : ℕ) → i < words_of parcels → words_of parcels ≤ turns + i →
        slot_from (suc (suc turns)) now code i ≡ afterwards slot word code (slot_from turns tree code i)
    comes_after zero i h enough = absurd (omega arith)
    comes_after (suc turns) i h enough = go (leb 65536 (get_or tree i 0)) refl (λ next. comes_after turns next)
      where
        go : (t : Bool) → leb 65536 (get_or tree i 0) ≡ t →
            ((next : ℕ) → next < words_of parcels → words_of parcels ≤ turns + next →
            slot_from (suc (suc turns)) now code next ≡ afterwards slot word code (slot_from turns tree code next)) →
            slot_from (suc (suc (suc turns))) now code i
            ≡ afterwards slot word code (if t then slot_from turns tree code (leads_to (get_or tree i 0) code) else i)
        go true e on =
            let f = leb-true 65536 (get_or tree i 0) e in
            let l = lead_on s parcels tree g code i h f in
            let other : i ≡ slot → ⊥ = λ (q : i ≡ slot). omega (arith, f, leaf, ap (λ (k : ℕ). get_or tree k 0) q) in
            let there : get_or now i 0 ≡ get_or tree i 0 = at_other tree slot (words_of parcels) x y word hs hp i h other in
            rw (there, le-leb 65536 (get_or tree i 0) f) (on (leads_to (get_or tree i 0) code) l.1 (omega (arith, l.0)))
        go false e on = ⊎_elim here elsewhere (true_or_false (eqb i slot))
          where
            here : eqb i slot ≡ true → slot_from (suc (suc (suc turns))) now code i ≡ afterwards slot word code i
            here q =
                let there : get_or now i 0 ≡ word =
                ap (λ (k : ℕ). get_or now k 0) (eqb-true i slot q) ∙ at_slot tree slot (words_of parcels) x y word hs hp in
                rw (q, there, le-leb 65536 word hw) (stays (leads_to word code) (suc turns) pair_leaf)

            elsewhere : eqb i slot ≡ false → slot_from (suc (suc (suc turns))) now code i ≡ afterwards slot word code i
            elsewhere q =
                let there = at_other tree slot (words_of parcels) x y word hs hp i h (eqb-false i slot q) in
                rw q (stays i (suc (suc turns)) (omega (arith, there, leb-false 65536 (get_or tree i 0) e)))

  module _ (some : 1 ≤ parcels) (lx : digits 22 (identcode_at s x) ≡ true) (ly : digits 22 (identcode_at s y) ≡ true) where
    more : words_of (parcels + 1) ≡ suc (suc (words_of parcels))
    more = omega arith

    leaf_sound : (place w z : ℕ) → w ≡ z → z < 65536 → digits 22 (identcode_at s z) ≡ true → Sound s (words_of (parcels + 1)) place w
    leaf_sound place w z e h l =
        record {
          leaf = λ f. ap (λ (k : ℕ). digits 22 (identcode_at s k)) e ∙ l;
          pair = λ f. absurd (omega arith);
          inside = λ f. absurd (omega arith);
        }

    fork_sound : (w : ℕ) → w ≡ word → Sound s (words_of (parcels + 1)) slot w
    fork_sound w e =
        record {
          leaf = λ f. absurd (omega arith);
          pair = λ f. let q : slot < pair_of word = omega arith in rw e q;
          inside = λ f. let q : pair_of word + 1 < words_of (parcels + 1) = omega arith in rw e q;
        }

    kept_sound : (place w : ℕ) → place < words_of parcels → w ≡ get_or tree place 0 → Sound s (words_of (parcels + 1)) place w
    kept_sound place w h e =
        let old = g.sound place h in
        record {
          leaf = λ f. rw e (old.leaf (omega arith));
          pair = λ f. rw e (old.pair (omega arith));
          inside = λ f. let q : pair_of (get_or tree place 0) + 1 < words_of (parcels + 1) = omega (arith, old.inside (omega arith)) in rw e q;
        }

    pub planted_tree : Tree s (parcels + 1) now
    planted_tree = record { sound = each }
      where
        each : (place : ℕ) → place < words_of (parcels + 1) → Sound s (words_of (parcels + 1)) place (get_or now place 0)
        each place h = ⊎_elim pair_words old (le_or_lt (words_of parcels) place)
          where
            old : place < words_of parcels → Sound s (words_of (parcels + 1)) place (get_or now place 0)
            old b =
                ⊎_elim
                (λ q. rw q (fork_sound (get_or now slot 0) (at_slot tree slot (words_of parcels) x y word hs hp)))
                (λ n. kept_sound place (get_or now place 0) b (at_other tree slot (words_of parcels) x y word hs hp place b n))
                (eq_or_ne place slot)

            pair_words : words_of parcels ≤ place → Sound s (words_of (parcels + 1)) place (get_or now place 0)
            pair_words b =
                ⊎_elim
                (λ q. leaf_sound place (get_or now place 0) x
                (ap (λ (k : ℕ). get_or now k 0) q ∙ at_first tree slot (words_of parcels) x y word hs hp) hx lx)
                (λ n. let q : place ≡ words_of parcels + 1 = omega arith in
                leaf_sound place (get_or now place 0) y
                (ap (λ (k : ℕ). get_or now k 0) q ∙ at_second tree slot (words_of parcels) x y word hs hp) hy ly)
                (eq_or_ne place (words_of parcels))

    -- where a code comes now
    pub slot_after : (code : List ℕ) → slot_of now (parcels + 1) code ≡ afterwards slot word code (slot_of tree parcels code)
    slot_after code =
        ap (λ (n : ℕ). slot_from n now code 0) more
        ∙ comes_after code (words_of parcels) 0 (omega arith) (omega arith)

    -- which code it meets there: at the other leaf stands one that is unlike it
    module _ (code : List ℕ) where
      pub meets : (get_or code (digit_of word) 0 < byte_of word → same (identcode_at s y) code ≡ false) →
          (byte_of word ≤ get_or code (digit_of word) 0 → same (identcode_at s x) code ≡ false) →
          same (identcode_at s (get_or now (leads_to word code) 0)) code ≡ (same (identcode_at s x) code || same (identcode_at s y) code)
      meets first second = go (ltb (get_or code (digit_of word) 0) (byte_of word)) refl
        where
          go : (t : Bool) → ltb (get_or code (digit_of word) 0) (byte_of word) ≡ t →
              same (identcode_at s (get_or now (if t then pair_of word else pair_of word + 1) 0)) code
              ≡ (same (identcode_at s x) code || same (identcode_at s y) code)
          go true e =
              rw (pair, at_first tree slot (words_of parcels) x y word hs hp, first (ltb-true (get_or code (digit_of word) 0) (byte_of word) e))
              (sym (or-false (same (identcode_at s x) code)))
          go false e =
              rw (pair, at_second tree slot (words_of parcels) x y word hs hp, second (ltb-false (get_or code (digit_of word) 0) (byte_of word) e))

      -- a code that came elsewhere still does
      pub elsewhere : (slot_of tree parcels code ≡ slot → ⊥) → get_or now (slot_of now (parcels + 1) code) 0 ≡ get_or tree (slot_of tree parcels code) 0
      elsewhere n =
          let k = slot_of tree parcels code in
          let b = comes_to s parcels tree g code (words_of parcels) 0 (omega arith) (omega arith) in
          let same_place : slot_of now (parcels + 1) code ≡ k = slot_after code ∙ rw (ne_eqb k slot n) in
          ap (λ (i : ℕ). get_or now i 0) same_place ∙ at_other tree slot (words_of parcels) x y word hs hp k b.0 n

      pub at_the_fork : slot_of tree parcels code ≡ slot → slot_of now (parcels + 1) code ≡ leads_to word code
      at_the_fork e = slot_after code ∙ rw (eq-eqb (slot_of tree parcels code) slot e)
