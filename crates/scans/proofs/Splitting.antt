-- The lines of a text: the next one from a place on, where there is one, and a text taken in pieces.
use Rattle.std.proofs.Common.{◌≡◌, ℕ, ◌+◌, ◌-◌, ◌<◌, ◌≤◌, true, false, eqb, List, [], ◌∷◌, ◌++◌, length, take, drop, sym, ap, ◌∙◌}
use Rattle.std.proofs.Common.{append_assoc, append-nil, arith, length-append, length-drop, drop-drop, take_at, drop_at}
use lib.Seq.{append_snoc}
use borrow.Author.Tests.{not-true, not-false}
use Rattle.text.specs.Scan.{all, in_line, line_feed}
use Rattle.text.proofs.Choices.{and_left, and_right}
use Rattle.text.proofs.Runs.{front, Front, Fails}
use Rattle.scans.specs.Scans.{lines_from, whole_lines}

-- bytes without a line feed are added to the line
pub lines_run : (line run behind : List ℕ) → all in_line run ≡ true → lines_from line (run ++ behind) ≡ lines_from (line ++ run) behind
lines_run line [] behind e = rw append-nil
lines_run line (b ∷ run) behind e =
    let n : eqb b 10 ≡ false = not-true (eqb b 10) (and_left (in_line b) (all in_line run) e) in
    rw n (lines_run (line ++ (b ∷ [])) run behind (and_right (in_line b) (all in_line run) e) ∙ rw append_assoc)

pub lines_feed : (line : List ℕ) (b : ℕ) (behind : List ℕ) → in_line b ≡ false → lines_from line (b ∷ behind) ≡ line ∷ lines_from [] behind
lines_feed line b behind e = let n : eqb b 10 ≡ true = not-false (eqb b 10) e in rw n

-- a text from a place on
module _ (text : List ℕ) (at end : ℕ) (is : end ≡ line_feed text at) (l : at ≤ length text) where
  ahead : Front in_line at (drop at text)
  ahead = front in_line at (drop at text)

  long : length ahead.run + length ahead.behind ≡ length text - at
  long = omega (arith, sym (length-append ahead.run ahead.behind) ∙ ap length (sym ahead.whole) ∙ length-drop at text)

  ends : end ≡ at + length ahead.run
  ends = omega (arith, is, ahead.ends, long)

  pub feed_behind : at ≤ end
  feed_behind = omega (arith, ends)

  pub next_line : end < length text →
      whole_lines (drop at text) ≡ take (end - at) (drop at text) ∷ whole_lines (drop (end + 1) text)
  next_line h = go ahead.behind ahead.whole ahead.fails (omega (arith, long, ends))
    where
      n : length ahead.run ≡ end - at
      n = omega (arith, ends)

      go : (behind : List ℕ) → drop at text ≡ ahead.run ++ behind → Fails in_line behind → 0 < length behind →
          whole_lines (drop at text) ≡ take (end - at) (drop at text) ∷ whole_lines (drop (end + 1) text)
      go [] w f h = absurd (omega arith)
      go (b ∷ behind) w f h =
          let d : drop (end + 1) text ≡ behind =
          (let m : end + 1 ≡ at + (end - at + 1) = omega (arith, ends) in
          rw (m, ← drop-drop (end - at + 1) at text, w, ← append_snoc ahead.run b behind)
          (drop_at (ahead.run ++ (b ∷ [])) behind (end - at + 1) (length-append ahead.run (b ∷ []) ∙ rw n)))
          in
          rw (d, w, take_at ahead.run (b ∷ behind) (end - at) n)
          (lines_run [] ahead.run (b ∷ behind) ahead.passes ∙ lines_feed ahead.run b behind f)

  pub no_line : end ≡ length text → whole_lines (drop at text) ≡ []
  no_line h = go ahead.behind ahead.whole (omega (arith, long, ends))
    where
      go : (behind : List ℕ) → drop at text ≡ ahead.run ++ behind → length behind ≡ 0 → whole_lines (drop at text) ≡ []
      go [] w h = rw w (lines_run [] ahead.run [] ahead.passes)
      go (b ∷ behind) w h = absurd (omega arith)
