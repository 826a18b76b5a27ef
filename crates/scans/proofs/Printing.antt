-- Answers printed one behind the other.
use Rattle.std.proofs.Common.{◌≡◌, ℕ, suc, ◌+◌, ◌*◌, ◌/◌, ◌<◌, ◌≤◌, List, [], ◌∷◌, ◌++◌, length, get_or, take, sym, refl, ap, ◌∙◌}
use Rattle.std.proofs.Common.{append_assoc, append-nil, zero-add, add-one, arith, length-append, take_all, take-suc, le-ltb, lt-ltb}
use Rattle.text.specs.Placed.{placed}
use Rattle.text.proofs.Placing.{placed_on, placed_none, placed_long}
use Rattle.scans.specs.Scans.{printed_one, printed, Prints}

pub printed_both : (a b : List ℕ) → printed (a ++ b) ≡ printed a ++ printed b
printed_both [] b = refl
printed_both (x ∷ a) b = ap (λ l. printed_one x ++ l) (printed_both a b) ∙ sym (append_assoc (printed_one x) (printed a) (printed b))

-- i answers are printed
pub record Printing (answers before output : List ℕ) (fill i : ℕ) : Type 0 where
  pub room : length answers ≤ length before / 3
  pub inside : i ≤ length answers
  pub few : fill ≤ 3 * i
  pub filled : fill ≡ length (printed (take i answers))
  pub is : output ≡ placed before 0 (printed (take i answers))

pub printing_none : (answers before : List ℕ) → length answers ≤ length before / 3 → Printing answers before before 0 0
printing_none answers before h =
    record { room = h; inside = omega arith; few = omega arith; filled = refl; is = sym (placed_none before 0 []) }

module _ {answers before output : List ℕ} {fill i : ℕ} (p : Printing answers before output fill i) where
  pub printing_long : length output ≡ length before
  printing_long = ap length p.is ∙ placed_long before 0 (printed (take i answers))

  pub printing_room : i < length answers → fill + 3 ≤ length output
  printing_room h = omega (arith, p.few, p.room, printing_long)

  -- a turn: each premise is a fact that the loop has
  pub printing_on : (next : ℕ) (after : List ℕ) → i < length answers →
      next ≡ fill + length (printed_one (get_or answers i 0)) → next ≤ fill + 3 →
      after ≡ placed output fill (printed_one (get_or answers i 0)) → Printing answers before after next (i + 1)
  printing_on next after h en l ea =
      let one = printed_one (get_or answers i 0) in
      let done = printed (take i answers) in
      let more : printed (take (suc i) answers) ≡ done ++ one =
      ap printed (take-suc answers i 0 h) ∙ printed_both (take i answers) (get_or answers i 0 ∷ []) ∙ ap (λ l. done ++ l) (append-nil one) in
      let place : fill ≡ 0 + length done = p.filled ∙ sym (zero-add (length done)) in
      record {
        room = p.room;
        inside = omega arith;
        few = omega (arith, p.few);
        filled = rw (add-one i, more) (omega (arith, en, p.filled, length-append done one));
        is = rw (add-one i, more)
            (ea ∙ ap (λ o. placed o fill one) p.is ∙ ap (λ k. placed (placed before 0 done) k one) place
            ∙ placed_on before 0 done one (omega (arith, p.filled, p.few, en, l, p.room)));
      }

  pub printing_done : length answers ≤ i →
      (fill ≡ length (printed answers)) × (fill ≤ length output) × (output ≡ placed before 0 (printed answers))
  printing_done h =
      let all : take i answers ≡ answers = take_all i answers h in (
        p.filled ∙ ap (λ l. length (printed l)) all,
        omega (arith, p.few, p.inside, p.room, printing_long),
        p.is ∙ ap (λ l. placed before 0 (printed l)) all,
      )

pub ruleset printings = (printing_none, printing_long, printing_room, printing_done)

-- with room or without
module _ (answers output : List ℕ) where
  pub prints_none : length output / 3 < length answers → Prints answers output 0 output
  prints_none h = let t = lt-ltb (length output / 3) (length answers) h in (rw t, rw t, omega arith)

  pub prints_all : (count : ℕ) (after : List ℕ) → length answers ≤ length output / 3 →
      (count ≡ length (printed answers)) × (count ≤ length after) × (after ≡ placed output 0 (printed answers)) →
      Prints answers output count after
  prints_all count after h e = let t = le-ltb (length output / 3) (length answers) h in (rw t e.0, rw t e.2, e.1)
