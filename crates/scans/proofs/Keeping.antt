-- What waits for the rest of its line, moved to the buffer's front.
use Rattle.std.proofs.Common.{◌≡◌, ℕ, ◌+◌, ◌-◌, ◌<◌, ◌≤◌, min, List, [], length, take, drop, sym, ap, ◌∙◌, ⊎_elim, arith, length-drop}
use Rattle.std.proofs.Common.{length-take, length-take-le, take_all, take-take, drop_of_length-le}
use Rattle.std.proofs.lemmas.List.{take_min}
use Rattle.std.specs.List.{copy_within}
use Rattle.text.proofs.Numbers.{le_or_lt}
use Rattle.scans.specs.Scans.{kept, Keeps}

module _ (buffer : List ℕ) (from to start m n : ℕ) (es : start ≡ min from (length buffer)) (em : m ≡ min (to - from) 17)
    (en : n ≡ min m (length buffer - start)) where
  -- a place behind the buffer is its end
  within : take n (drop start buffer) ≡ take m (drop from buffer)
  within = ⊎_elim inside behind (le_or_lt from (length buffer))
    where
      inside : from ≤ length buffer → take n (drop start buffer) ≡ take m (drop from buffer)
      inside h =
          let s : start ≡ from = omega arith in
          let k : n ≡ min m (length (drop from buffer)) = omega (arith, length-drop from buffer) in
          rw (s, k) (take_min m (drop from buffer))

      behind : length buffer < from → take n (drop start buffer) ≡ take m (drop from buffer)
      behind h =
          let k : n ≡ 0 = omega arith in
          let none : drop from buffer ≡ [] = drop_of_length-le buffer (let f : length buffer ≤ from = omega arith in f) in
          rw (k, none) (sym (take_all m [] (omega arith)))

  short : take m (drop from buffer) ≡ kept buffer from to
  short = ⊎_elim more less (le_or_lt 17 (to - from))
    where
      more : 17 ≤ to - from → take m (drop from buffer) ≡ kept buffer from to
      more h = let k : m ≡ 17 = omega arith in rw (k, take-take 17 (to - from) (drop from buffer) h)

      less : to - from < 17 → take m (drop from buffer) ≡ kept buffer from to
      less h =
          let k : m ≡ to - from = omega arith in
          rw (k, take_all 17 (take (to - from) (drop from buffer)) (omega (arith, length-take (to - from) (drop from buffer))))

  long : length (kept buffer from to) ≡ n
  long = ap length (sym (within ∙ short)) ∙ length-take-le n (drop start buffer) (omega (arith, length-drop start buffer))

  pub keeps : (out : List ℕ) → out ≡ copy_within buffer start (start + n) 0 → Keeps buffer from to n out
  keeps out eo =
      let k : start + n - start ≡ n = omega arith in
      (sym long, eo ∙ rw (k, within ∙ short, long), omega arith)
