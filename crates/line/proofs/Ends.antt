-- Where a line ends: its text is the run of text bytes in front of CR LF.
use Prim.Native.Nat.{ℕ, ◌+◌, ◌-◌}
use mathlib.Core.Path.{◌≡◌, refl, sym, ap, ◌∙◌}
use mathlib.Core.Bool.{true}
use mathlib.Core.List.{List, ◌∷◌, ◌++◌, append_assoc}
use native.Mathlib.Omega.{arith}
use lib.ListN.{length, take, drop, take-append-drop}
use lib.Seq.{take-append_seam, drop-append_seam, drop-drop}
use Rattle.text.specs.Byte.{text_byte}
use Rattle.text.specs.Quoted.{bytes}
use Rattle.text.specs.Scan.{all}
use Rattle.text.proofs.Runs.{run, run_past}
use Rattle.text.proofs.Scans.{same_eq}
use Rattle.line.specs.Line.{line_end, ends_well, text_at}

-- the line at an offset, where it ends well
pub record Ended (s : List ℕ) (at : ℕ) : Type 0 where
  pub text : all text_byte (text_at s at) ≡ true
  pub rest : List ℕ
  pub whole : drop at s ≡ text_at s at ++ bytes "\r\n" ++ rest

pub ended : (s : List ℕ) (at : ℕ) → ends_well s (line_end s at) ≡ true → Ended s at
unfolding ends_well
ended s at e =
    let r = run text_byte at (drop at s) in
    let n : line_end s at - at ≡ r.long = omega (arith, r.ends) in
    let past = drop (line_end s at) s in
    let two : take 2 past ≡ bytes "\r\n" = same_eq (take 2 past) (bytes "\r\n") e in
    let p : past ≡ drop r.long (drop at s) = ap (λ (i : ℕ). drop i s) r.ends ∙ sym (drop-drop r.long at s) in
    record {
      text = rw n r.passes;
      rest = drop 2 past;
      whole =
          sym (take-append-drop r.long (drop at s))
          ∙ ap (λ (l : List ℕ). take r.long (drop at s) ++ l) (sym p ∙ sym (take-append-drop 2 past)
          ∙ ap (λ (l : List ℕ). l ++ drop 2 past) two)
          ∙ sym (append_assoc (take r.long (drop at s)) (bytes "\r\n") (drop 2 past))
          ∙ ap (λ (i : ℕ). take i (drop at s) ++ bytes "\r\n" ++ drop 2 past) (sym n);
    }

-- a text in front of CR LF at an offset
module _ (s : List ℕ) (at : ℕ) (line rest : List ℕ) (text : all text_byte line ≡ true) (d : drop at s ≡ line ++ bytes "\r\n" ++ rest) where
  cut : drop at s ≡ line ++ 13 ∷ 10 ∷ rest
  cut = d ∙ append_assoc line (bytes "\r\n") rest

  pub ends_at : line_end s at ≡ at + length line
  ends_at = rw cut (run_past text_byte at line 13 (10 ∷ rest) text refl)

  pub ends_well_lem : ends_well s (line_end s at) ≡ true
  unfolding ends_well
  ends_well_lem = rw (ends_at, ← drop-drop (length line) at s, cut, drop-append_seam)

  pub text_there : text_at s at ≡ line
  text_there = let n : line_end s at - at ≡ length line = omega (arith, ends_at) in rw (n, cut) (take-append_seam line (13 ∷ 10 ∷ rest))
