-- A code on its way through the tree: in a sound tree it comes to a leaf, in turns that are enough.
use Prim.Native.Nat.{ℕ, zero, suc, ◌+◌, ◌-◌, ◌<◌, ◌≤◌}
use mathlib.Core.Path.{◌≡◌, refl, sym, ap, ◌∙◌}
use mathlib.Core.Bool.{Bool, true, false}
use mathlib.Core.List.{List}
use native.Mathlib.Omega.{arith}
use lib.Dec.{leb}
use lib.ListN.{get_or}
use borrow.Author.Tests.{le-leb, leb-true, leb-false}
use Rattle.std.specs.Prelude.{if◌then◌else◌}
use Rattle.forms.specs.Shape.{digits}
use Rattle.identcodes.specs.Tree.{identcode_at, pair_of, leads_to, slot_from, words_of}
use Rattle.identcodes.proofs.Forks.{lead_pair}

-- a word that stands at this place among so many: a leaf is a parcel line with an identcode, a fork's pair lies behind it
pub record Sound (s : List ℕ) (words place word : ℕ) : Type 0 where
  pub leaf : word < 65536 → digits 22 (identcode_at s word) ≡ true
  pub pair : 65536 ≤ word → place < pair_of word
  pub inside : 65536 ≤ word → pair_of word + 1 < words

-- a tree of so many parcels
pub record Tree (s : List ℕ) (parcels : ℕ) (tree : List ℕ) : Type 0 where
  pub sound : (place : ℕ) → place < words_of parcels → Sound s (words_of parcels) place (get_or tree place 0)

-- with enough turns the way ends at a leaf
module _ (s : List ℕ) (parcels : ℕ) (tree : List ℕ) (g : Tree s parcels tree) (code : List ℕ) where
  -- a fork leads on, to a word of the tree
  pub lead_on : (slot : ℕ) → slot < words_of parcels → 65536 ≤ get_or tree slot 0 →
      (slot < leads_to (get_or tree slot 0) code) × (leads_to (get_or tree slot 0) code < words_of parcels)
  lead_on slot h f =
      let w = g.sound slot h in
      let l = lead_pair (get_or tree slot 0) code in
      (omega (arith, w.pair f, l), omega (arith, w.inside f, l))

  pub comes_to : (turns slot : ℕ) → slot < words_of parcels → words_of parcels ≤ turns + slot →
      (slot_from turns tree code slot < words_of parcels) × (get_or tree (slot_from turns tree code slot) 0 < 65536)
  comes_to zero slot h enough = absurd (omega arith)
  comes_to (suc turns) slot h enough = go (leb 65536 (get_or tree slot 0)) refl (λ next. comes_to turns next)
    where
      go : (t : Bool) → leb 65536 (get_or tree slot 0) ≡ t →
          ((next : ℕ) → next < words_of parcels → words_of parcels ≤ turns + next →
          (slot_from turns tree code next < words_of parcels) × (get_or tree (slot_from turns tree code next) 0 < 65536)) →
          ((if t then slot_from turns tree code (leads_to (get_or tree slot 0) code) else slot) < words_of parcels)
          × (get_or tree (if t then slot_from turns tree code (leads_to (get_or tree slot 0) code) else slot) 0 < 65536)
      go true e more =
          let l = lead_on slot h (leb-true 65536 (get_or tree slot 0) e) in
          more (leads_to (get_or tree slot 0) code) l.1 (omega (arith, l.0))
      go false e more = (h, leb-false 65536 (get_or tree slot 0) e)

-- one turn of the loop, at a fork
pub slot_on : (tree code : List ℕ) (turns turn slot : ℕ) → turn < turns → 65536 ≤ get_or tree slot 0 →
    slot_from (turns - (turn + 1)) tree code (leads_to (get_or tree slot 0) code) ≡ slot_from (turns - turn) tree code slot
slot_on tree code turns turn slot h fork =
    let more : turns - turn ≡ suc (turns - (turn + 1)) = omega arith in
    sym (ap (λ (n : ℕ). slot_from n tree code slot) more ∙ rw (le-leb 65536 (get_or tree slot 0) fork))
