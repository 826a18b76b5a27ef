-- A text answered call after call, up to so many lines at a time: it is answered whole once no line is left, and then its rest is kept.
use Rattle.std.proofs.Common.{◌≡◌, ℕ, zero, suc, ◌+◌, ◌-◌, ◌<◌, ◌≤◌, List, [], ◌∷◌, ◌++◌, map, length, take, drop, sym, refl, ap, ◌∙◌}
use Rattle.std.proofs.Common.{subst, append-nil, arith, length-drop, take-append-drop, drop_of_length-le, take_all, take_at, take-add}
use lib.Seq.{take-nil}
use Rattle.scans.specs.declared.Answered.{Answered}
use Rattle.scans.specs.declared.tally.Tally.{Tally}
use Rattle.scans.specs.Scans.{whole_lines, line_answer, at_once, due_lines, bytes_of, answered_of, AnswersLines, kept, Keeps}
use Rattle.scans.specs.Pieces.{rest_of}
use Rattle.scans.specs.Tallying.{tallied}
use Rattle.scans.proofs.Laying.{map_both, bytes_both}
use Rattle.scans.proofs.Pieces.{goes_on, rest_behind}
use Rattle.scans.proofs.Tallying.{tally_both}

map_long : (lines : List (List ℕ)) → length (map line_answer lines) ≡ length lines
map_long [] = refl
map_long (line ∷ lines) = ap suc (map_long lines)

-- so many lines of the text are answered and counted, and it goes on behind them
pub record Going (text : List ℕ) (before : Tally) (at : ℕ) (counts : Tally) : Type 0 where
  pub many : ℕ
  pub there : at ≡ bytes_of (take many (whole_lines text))
  pub counted : counts ≡ tallied before (map line_answer (take many (whole_lines text)))

pub going_none : (text : List ℕ) (before : Tally) → Going text before 0 before
going_none text before = record { many = 0; there = refl; counted = refl }

module _ {text : List ℕ} {before : Tally} {at : ℕ} {counts : Tally} (s : Going text before at counts) where
  left : whole_lines (drop at text) ≡ drop s.many (whole_lines text)
  left = ap (λ k. whole_lines (drop k text)) s.there ∙ goes_on text s.many

  all_done : drop s.many (whole_lines text) ≡ [] →
      (at ≡ bytes_of (whole_lines text)) × (counts ≡ tallied before (map line_answer (whole_lines text)))
  all_done e =
      let whole : take s.many (whole_lines text) ≡ whole_lines text =
      sym (append-nil (take s.many (whole_lines text))) ∙ ap (λ l. take s.many (whole_lines text) ++ l) (sym e)
      ∙ take-append-drop s.many (whole_lines text)
      in
      (s.there ∙ ap bytes_of whole, s.counted ∙ ap (λ l. tallied before (map line_answer l)) whole)

  -- the text ends here
  pub going_through : length text ≤ at → (at ≡ bytes_of (whole_lines text)) × (counts ≡ tallied before (map line_answer (whole_lines text)))
  going_through h = all_done (sym left ∙ ap whole_lines (drop_of_length-le text h))

  -- one call more, on the part from here to the text's end
  module _ (answers : List ℕ) (answered : Answered) (after : List ℕ)
      (told : AnswersLines (take (length text - at) (drop at text)) answers answered after) where
    e : AnswersLines (drop at text) answers answered after
    e = subst (λ part. AnswersLines part answers answered after)
        (take_all (length text - at) (drop at text) (omega (arith, length-drop at text))) told

    abbrev due : List (List ℕ)
    due = due_lines (drop at text) (length answers)

    lines_due : answered.lines ≡ length due
    unfolding answered_of
    lines_due = ap (λ (a : Answered). a.lines) e.0

    pub bytes_due : answered.next ≡ bytes_of due
    unfolding answered_of
    bytes_due = ap (λ (a : Answered). a.next) e.0

    pub front : take answered.lines after ≡ map line_answer due
    front =
        ap (λ l. take answered.lines l) e.1
        ∙ take_at (map line_answer due) (drop (0 + length (map line_answer due)) answers) answered.lines (map_long due ∙ sym lines_due)

    -- no line was left
    pub going_ends : 0 < length answers → answered.lines ≡ 0 →
        (at ≡ bytes_of (whole_lines text)) × (counts ≡ tallied before (map line_answer (whole_lines text)))
    going_ends room n = all_done (sym left ∙ none (at_once (length answers)) (omega arith) (whole_lines (drop at text)) (sym lines_due ∙ n))
      where
        none : (k : ℕ) → 0 < k → (lines : List (List ℕ)) → length (take k lines) ≡ 0 → lines ≡ []
        none k h [] z = refl
        none zero h (line ∷ lines) z = absurd (omega arith)
        none (suc k) h (line ∷ lines) z = absurd (omega arith)

    pub going_on : (next : Tally) → next ≡ tallied counts (take answered.lines after) → Going text before (at + answered.next) next
    going_on next en =
        let k = at_once (length answers) in
        let lines = whole_lines text in
        let same : take (s.many + k) lines ≡ take s.many lines ++ due =
        take-add s.many k lines ∙ ap (λ l. take s.many lines ++ take k l) (sym left) in
        record {
          many = s.many + k;
          there =
              omega (arith, s.there, bytes_due, ap bytes_of same, bytes_both (take s.many lines) due);
          counted =
              en ∙ ap (λ l. tallied counts l) front ∙ ap (λ t. tallied t (map line_answer due)) s.counted
              ∙ sym (tally_both before (map line_answer (take s.many lines)) (map line_answer due))
              ∙ ap (λ l. tallied before l) (sym (map_both (take s.many lines) due))
              ∙ ap (λ l. tallied before (map line_answer l)) (sym same);
        }

-- what waits behind the last line
drop_take : (n m : ℕ) (l : List ℕ) → drop n (take m l) ≡ take (m - n) (drop n l)
drop_take zero m l = let e : m - 0 ≡ m = omega arith in rw e
drop_take (suc n) zero l = let e : zero - suc n ≡ 0 = omega arith in rw e
drop_take (suc n) (suc m) [] = sym (take-nil (suc m - suc n))
drop_take (suc n) (suc m) (x ∷ l) = let e : suc m - suc n ≡ m - n = omega arith in rw e (drop_take n m l)

pub rest_kept : (buffer : List ℕ) (there next waiting : ℕ) (after : List ℕ) → next ≡ bytes_of (whole_lines (take there buffer)) →
    Keeps buffer next there waiting after → take waiting after ≡ take 17 (rest_of (take there buffer))
rest_kept buffer there next waiting after en e =
    ap (λ l. take waiting l) e.1
    ∙ take_at (kept buffer next there) (drop (0 + length (kept buffer next there)) buffer) waiting (sym e.0)
    ∙ ap (λ l. take 17 l) (sym (drop_take next there buffer) ∙ ap (λ k. drop k (take there buffer)) en ∙ rest_behind (take there buffer))
