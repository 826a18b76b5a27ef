-- The loop that lays lines out: what it has found at a place of the text.
use Rattle.std.proofs.Common.{◌≡◌, ℕ, suc, ◌+◌, ◌-◌, ◌*◌, ◌<◌, ◌≤◌, Bool, List, [], ◌∷◌, ◌++◌, map, length, get_or, take, drop, set, sym, refl}
use Rattle.std.proofs.Common.{ap, ◌∙◌, zero-add, add-one, arith, length-drop, length-set, length-take, length-take-le, take_all, drop-cons}
use Rattle.std.proofs.Common.{take-suc}
use Rattle.text.specs.Scan.{line_feed}
use Rattle.text.specs.Tabled.{tabled}
use Rattle.scans.specs.Scans.{whole_lines, line_answer, bytes_of, answered_of}
use Rattle.scans.specs.Laying.{is_number, laid, answer_at, Lays}
use Rattle.scans.proofs.Tabling.{tabled_more, tabled_alike}
use Rattle.scans.proofs.Splitting.{feed_behind, next_line, no_line}
use Rattle.scans.proofs.Slots.{laid_long, answer_stays, answer_there}

pub bytes_both : (a b : List (List ℕ)) → bytes_of (a ++ b) ≡ bytes_of a + bytes_of b
bytes_both [] b = sym (zero-add (bytes_of b))
bytes_both (line ∷ a) b = omega (arith, bytes_both a b)

pub map_both : (a b : List (List ℕ)) → map line_answer (a ++ b) ≡ map line_answer a ++ map line_answer b
map_both [] b = refl
map_both (line ∷ a) b = ap (λ l. line_answer line ∷ l) (map_both a b)

-- i lines end in front of the place at, and are laid out
pub record Laying (text : List ℕ) (room : ℕ) (numbers : List ℕ) (marks : List Bool) (at i : ℕ) : Type 0 where
  pub wide : 15 * room ≤ length numbers
  pub marked : room ≤ length marks
  pub here : at ≤ length text
  pub few : i ≤ at
  pub enough : i ≤ length (whole_lines text)
  pub left : whole_lines (drop at text) ≡ drop i (whole_lines text)
  pub taken : at ≡ bytes_of (take i (whole_lines text))
  pub told : map line_answer (take i (whole_lines text)) ≡ tabled (answer_at numbers marks) 0 i

pub laying_none : (text : List ℕ) (room : ℕ) (numbers : List ℕ) (marks : List Bool) → 15 * room ≤ length numbers → room ≤ length marks →
    Laying text room numbers marks 0 0
laying_none text room numbers marks n m =
    record {
      wide = n;
      marked = m;
      here = omega arith;
      few = omega arith;
      enough = omega arith;
      left = refl;
      taken = refl;
      told = refl;
    }

module _ {text : List ℕ} {room : ℕ} {numbers : List ℕ} {marks : List Bool} {at i : ℕ} (s : Laying text room numbers marks at i) where
  -- where the loop ends, for so many lines
  done : i ≤ room → take room (whole_lines text) ≡ take i (whole_lines text) →
      Lays text room (record { lines = i; next = at }) numbers marks
  unfolding answered_of
  done l e =
      let n : length (take i (whole_lines text)) ≡ i = length-take-le i (whole_lines text) s.enough in
      (rw (e, n, ← s.taken), rw e s.told, l, s.few, s.here)

  pub laying_full : i ≤ room → room ≤ i → Lays text room (record { lines = i; next = at }) numbers marks
  laying_full l h = let n : room ≡ i = omega arith in done l (ap (λ k. take k (whole_lines text)) n)

  module _ (end : ℕ) (is : end ≡ line_feed text at) where
    pub laying_ends : i < room → end ≡ length text → Lays text room (record { lines = i; next = at }) numbers marks
    laying_ends l h =
        let d : drop i (whole_lines text) ≡ [] = sym s.left ∙ no_line text at end is s.here h in
        let n : length (whole_lines text) - i ≡ 0 = sym (length-drop i (whole_lines text)) ∙ ap length d in
        done (omega arith) (take_all room (whole_lines text) (omega arith) ∙ sym (take_all i (whole_lines text) (omega arith)))

    pub laying_inside : at ≤ end
    laying_inside = feed_behind text at end is s.here

    -- a turn: each premise is a fact that the loop has
    pub laying_on : (m : Bool) (after : List ℕ) → i < room → end < length text →
        m ≡ is_number (take (end - at) (drop at text)) → after ≡ laid numbers (15 * i) (take (end - at) (drop at text)) →
        Laying text room after (set marks i m) (end + 1) (i + 1)
    laying_on m after l h em ea =
        let line = take (end - at) (drop at text) in
        let lines = whole_lines text in
        let back = feed_behind text at end is s.here in
        let cut : drop i lines ≡ line ∷ whole_lines (drop (end + 1) text) = sym s.left ∙ next_line text at end is s.here h in
        let inside : i < length lines = omega (arith, sym (length-drop i lines) ∙ ap length cut) in
        let cons = drop-cons lines i [] inside in
        let at_i : get_or lines i [] ≡ line = cc in
        let behind : whole_lines (drop (end + 1) text) ≡ drop (suc i) lines = cc in
        let front : take (suc i) lines ≡ take i lines ++ (line ∷ []) = take-suc lines i [] inside ∙ rw at_i in
        let long : length line ≡ end - at = omega (arith, length-take (end - at) (drop at text), length-drop at text) in
        let fits : 15 * i + 15 ≤ length numbers = omega (arith, s.wide) in
        let marks-on : i < length marks = omega (arith, s.marked) in
        record {
          wide = omega (arith, laid_long numbers marks line i m after fits marks-on em ea, s.wide);
          marked = omega (arith, length-set marks i m, s.marked);
          here = omega arith;
          few = omega (arith, s.few);
          enough = omega arith;
          left = rw (add-one i) behind;
          taken = rw (add-one i, front) (omega (arith, s.taken, bytes_both (take i lines) (line ∷ []), long));
          told = rw (add-one i, front)
              (map_both (take i lines) (line ∷ [])
              ∙ ap (λ l. l ++ (line_answer line ∷ []))
              (s.told ∙ sym (tabled_alike (answer_at after (set marks i m)) (answer_at numbers marks) 0 i
              (λ k h. rw zero-add (answer_stays numbers marks line i m after fits marks-on em ea k h))))
              ∙ ap (λ a. tabled (answer_at after (set marks i m)) 0 i ++ (a ∷ []))
              (sym (answer_there numbers marks line i m after fits marks-on em ea))
              ∙ sym (tabled_more (answer_at after (set marks i m)) 0 i ∙ rw zero-add));
        }
