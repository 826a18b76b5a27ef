-- Room for one parcel more, and what the call answers where there is room.
use Prim.Native.Nat.{ℕ, ◌+◌, ◌<◌, ◌≤◌}
use mathlib.Core.Path.{◌≡◌, refl, sym, ◌∙◌}
use mathlib.Core.Bool.{Bool, true, false, ◌&&◌}
use mathlib.Core.List.{List}
use native.Mathlib.Omega.{arith}
use lib.Dec.{leb, ltb}
use lib.ListN.{length}
use borrow.Author.Tests.{le-leb, lt-ltb, ltb-true, leb-true}
use Rattle.std.specs.Prelude.{if◌then◌else◌}
use Rattle.text.proofs.Choices.{and_left, and_right}
use Rattle.identcodes.specs.declared.CodeAnswer.TheVariants.{Known, New, NoRoom}
use Rattle.identcodes.specs.Tree.{words_of, is_there, grown, has_room, code_answer, tree_after}

pub room_parts : (tree : List ℕ) (parcels at : ℕ) → has_room tree parcels at ≡ true →
    (at < 65536) × (words_of (parcels + 1) ≤ 65536) × (words_of (parcels + 1) ≤ length tree)
unfolding has_room
room_parts tree parcels at e =
    let words = words_of (parcels + 1) in
    let more = and_right (ltb at 65536) (leb words 65536 && leb words (length tree)) e in (
      ltb-true at 65536 (and_left (ltb at 65536) (leb words 65536 && leb words (length tree)) e),
      leb-true words 65536 (and_left (leb words 65536) (leb words (length tree)) more),
      leb-true words (length tree) (and_right (leb words 65536) (leb words (length tree)) more),
    )

pub room_there : (tree : List ℕ) (parcels at : ℕ) → words_of (parcels + 1) ≤ length tree → words_of (parcels + 1) ≤ 65536 → at < 65536 →
    has_room tree parcels at ≡ true
unfolding has_room
room_there tree parcels at long few small =
    rw (lt-ltb at 65536 small, le-leb (words_of (parcels + 1)) 65536 few, le-leb (words_of (parcels + 1)) (length tree) long)

-- where there is room the answer tells whether the code is there, and the third is never given
module _ (s tree : List ℕ) (parcels at : ℕ) (room : has_room tree parcels at ≡ true) where
  chosen : code_answer s tree parcels at ≡ (if is_there s tree parcels at then Known else New)
  unfolding code_answer
  chosen = rw room

  pub answer_tells : (t : Bool) → code_answer s tree parcels at ≡ (if t then Known else New) → t ≡ is_there s tree parcels at
  answer_tells t e = go t (is_there s tree parcels at) (sym chosen ∙ e)
    where
      go : (t u : Bool) → (if u then Known else New) ≡ (if t then Known else New) → t ≡ u
      go true true e = refl
      go true false e = let z : ◌≡◌ {A = ℕ} 0 1 = cc in absurd (omega arith)
      go false true e = let z : ◌≡◌ {A = ℕ} 0 1 = cc in absurd (omega arith)
      go false false e = refl

  pub room_answers : code_answer s tree parcels at ≡ NoRoom → ⊥
  room_answers e = go (is_there s tree parcels at) (sym chosen ∙ e)
    where
      go : (t : Bool) → (if t then Known else New) ≡ NoRoom → ⊥
      go true e = let z : ◌≡◌ {A = ℕ} 0 1 = cc in omega arith
      go false e = let z : ◌≡◌ {A = ℕ} 0 1 = cc in omega arith

  pub room_grows : tree_after s tree parcels at ≡ grown s tree parcels at
  unfolding tree_after
  room_grows = rw room
