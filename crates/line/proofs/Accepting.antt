-- What an accepted line tells: each test passed, and the answer names the line's own record, count and next start.
use Prim.Native.Nat.{ℕ, ◌+◌, ◌-◌, ◌≤◌}
use mathlib.Core.Path.{◌≡◌, refl, sym, ap, ◌∙◌}
use mathlib.Core.Bool.{true, false, not}
use mathlib.Core.List.{List, ◌++◌}
use native.Mathlib.Omega.{arith}
use lib.Dec.{ltb}
use lib.ListN.{length, take, drop, length-take, length-drop}
use borrow.Author.Tests.{ltb-false, not-false}
use Rattle.text.specs.Byte.{text_byte}
use Rattle.text.specs.Quoted.{bytes}
use Rattle.std.specs.Prelude.{if◌then◌else◌, ⊤, Option, Some, None, Result, Ok, Err}
use Rattle.text.proofs.Choices.{came_else}
use Rattle.text.proofs.Runs.{first_least, first_most}
use Rattle.refusal.specs.declared.Reason.TheVariants.{FileTooLong, NoLineEnd, OutOfOrder, FieldCount, FeatureLacks}
use Rattle.refusal.specs.Table.{because, verdict_on}
use Rattle.refusal.proofs.Verdicts.{no_pass}
use Rattle.records.specs.Record.{named, count_fits, may_come}
use Rattle.records.specs.declared.record.Record.{Record}
use Rattle.line.specs.Parts.{split, name_of, fields_of}
use Rattle.records.proofs.Types.{named_type}
use Rattle.line.specs.Render.{joined, text_of, render}
use Rattle.line.specs.Walk.{walk}
use Rattle.line.specs.Need.{lacks}
use Rattle.line.specs.Line.{line_end, ends_well, text_at, after_walk, of_kind, of_named, of_text, text_answer, on_text, line_answer}
use Rattle.line.specs.Line.{file_limit}
use Rattle.line.specs.declared.read.Line.{Line}
use Rattle.line.specs.Told.{Told}
use Rattle.line.proofs.Splits.{join_split}
use Rattle.line.proofs.Ends.{ended}
use Rattle.refusal.specs.declared.Refusal.{Refusal}

-- the text of an accepted line
pub record TextOk (told : Told) (at : ℕ) (line : List ℕ) (l : Line) : Type 0 where
  pub known : named (name_of line) ≡ Some l.kind
  pub comes : may_come told.due l.kind ≡ true
  pub fits : count_fits l.kind (length (fields_of line)) ≡ true
  pub walks : walk (told.rules l.kind) 1 (at + length (name_of line) + 1) (name_of line) (fields_of line) ≡ Ok tt
  pub served : lacks l.kind (split line) ≡ false
  pub counted : l.count ≡ length (fields_of line)
  pub ends : l.next ≡ at + length line + 2

-- where it lies in the file
pub record LineAt (told : Told) (s : List ℕ) (at : ℕ) (l : Line) : Type 0 where
  pub short : length s ≤ file_limit
  pub inside : at ≤ length s
  pub well : ends_well s (line_end s at) ≡ true
  pub text : TextOk told at (text_at s at) l

module _ (told : Told) (at : ℕ) (line : List ℕ) (l : Line) where
  kind_ok : (kind : Record) → named (name_of line) ≡ Some kind → may_come told.due kind ≡ true → of_kind told.rules kind at line ≡ Ok l →
      TextOk told at line l
  unfolding of_kind after_walk
  kind_ok kind en ec e =
      let fits = count_fits kind (length (fields_of line)) in
      let w = walk (told.rules kind) 1 (at + length (name_of line) + 1) (name_of line) (fields_of line) in
      let a = came_else (not fits) (Err (because FieldCount at)) (after_walk w kind at line) (Ok l) (no_pass verdict_on refl refl) e in
      after w refl (not-false fits a.0) a.1
    where
      after :
          (w : Result ⊤ Refusal) → walk (told.rules kind) 1 (at + length (name_of line) + 1) (name_of line) (fields_of line) ≡ w →
          count_fits kind (length (fields_of line)) ≡ true →
          after_walk w kind at line ≡ Ok l → TextOk told at line l
      after (Err refusal) ew ef ea = absurd (no_pass verdict_on refl refl ea)
      after (Ok tt) ew ef ea =
          let b = came_else (lacks kind (split line)) (Err (because FeatureLacks at))
          (Ok (record { kind = kind; count = length (fields_of line); next = at + length line + 2 })) (Ok l) (no_pass verdict_on refl refl) ea in
          let same : record { kind = kind; count = length (fields_of line); next = at + length line + 2 } ≡ l = cc in
          let k : kind ≡ l.kind = ap (λ (x : Line). x.kind) same in
          record {
            known = en ∙ ap Some k;
            comes = ap (may_come told.due) (sym k) ∙ ec;
            fits = ap (λ (x : Record). count_fits x (length (fields_of line))) (sym k) ∙ ef;
            walks = ap (λ (x : Record). walk (told.rules x) 1 (at + length (name_of line) + 1) (name_of line) (fields_of line)) (sym k) ∙ ew;
            served = ap (λ (x : Record). lacks x (split line)) (sym k) ∙ b.0;
            counted = sym (ap (λ (x : Line). x.count) same);
            ends = sym (ap (λ (x : Line). x.next) same);
          }

  named_ok : (nd : Option Record) → named (name_of line) ≡ nd → of_named nd told at line ≡ Ok l → TextOk told at line l
  unfolding of_named
  named_ok None en e = absurd (no_pass verdict_on refl refl e)
  named_ok (Some kind) en e =
      let a = came_else (not (may_come told.due kind)) (Err (because OutOfOrder at)) (of_kind told.rules kind at line) (Ok l)
      (no_pass verdict_on refl refl) e in
      kind_ok kind en (not-false (may_come told.due kind) a.0) a.1

  pub text_ok : of_text told at line ≡ Ok l → TextOk told at line l
  unfolding of_text
  text_ok e = named_ok (named (name_of line)) refl e

-- the text of a line that ends well
pub record TextEnds (s : List ℕ) (at end : ℕ) : Type 0 where
  pub short : length s ≤ file_limit
  pub inside : at ≤ length s
  pub well : ends_well s (line_end s at) ≡ true
  pub is : end ≡ line_end s at

pub text_ends : (s : List ℕ) (at end : ℕ) → text_answer s at ≡ Ok end → TextEnds s at end
unfolding text_answer
text_ends s at end e =
    let well = ends_well s (line_end s at) in
    let found = if not well then Err (because NoLineEnd (line_end s at)) else Ok (line_end s at) in
    let a = came_else (ltb file_limit (length s)) (Err (because FileTooLong file_limit)) (if ltb (length s)
    at then Err (because NoLineEnd (length s)) else found)
    (Ok end) (no_pass verdict_on refl refl) e in
    let b = came_else (ltb (length s) at) (Err (because NoLineEnd (length s))) found (Ok end) (no_pass verdict_on refl refl) a.1 in
    let c = came_else (not well) (Err (because NoLineEnd (line_end s at))) (Ok (line_end s at)) (Ok end) (no_pass verdict_on refl refl) b.1 in
    record {
      short = ltb-false file_limit (length s) a.0;
      inside = ltb-false (length s) at b.0;
      well = not-false well c.0;
      is = cc;
    }

pub line_ok : (told : Told) (s : List ℕ) (at : ℕ) (l : Line) → line_answer told s at ≡ Ok l → LineAt told s at l
unfolding line_answer
line_ok told s at l e = go (text_answer s at) refl e
  where
    go : (a : Result ℕ Refusal) → text_answer s at ≡ a → on_text a told s at ≡ Ok l → LineAt told s at l
    go (Err refusal) q e = absurd (no_pass verdict_on refl refl e)
    go (Ok end) q e =
        let t = text_ends s at end q in
        record { short = t.short; inside = t.inside; well = t.well; text = rw t.is at (text_ok told at (take (end - at) (drop at s)) l e) }

-- where the text lies
module _ (s : List ℕ) (at : ℕ) (inside : at ≤ length s) where
  pub text_long : length (text_at s at) ≡ line_end s at - at
  text_long =
      let above = first_least (λ _ b. text_byte b) at (drop at s) in
      let below = first_most (λ _ b. text_byte b) at (drop at s) in
      omega (arith, length-take (line_end s at - at) (drop at s), length-drop at s, inside)

  pub end_inside : line_end s at ≤ length s
  end_inside = omega (arith, first_most (λ _ b. text_byte b) at (drop at s), length-drop at s, inside)

  pub end_after : at ≤ line_end s at
  end_after = first_least (λ _ b. text_byte b) at (drop at s)

-- the text as the judge of a line takes it from the answer
module _ (s : List ℕ) (at : ℕ) (a : Result ℕ Refusal) (ea : a ≡ text_answer s at) (end : ℕ) (ee : a ≡ Ok end) where
  found : TextEnds s at end
  found = text_ends s at end (sym ea ∙ ee)

  pub found_after : at ≤ end
  found_after = omega (arith, found.is, end_after s at found.inside)

  pub found_inside : end ≤ length s
  found_inside = omega (arith, found.is, end_inside s at found.inside)

  pub found_small : at + length (take (end - at) (drop at s)) ≤ file_limit
  found_small = omega (arith, length-take (end - at) (drop at s), length-drop at s, found_after, found_inside, found.short)

pub next_is : (told : Told) (s : List ℕ) (at : ℕ) (l : Line) → LineAt told s at l → l.next ≡ line_end s at + 2
next_is told s at l g = omega (arith, g.text.ends, text_long s at g.inside, end_after s at g.inside)

-- the text of an accepted line, as the callers take it from the answer
module _ (told : Told) (s : List ℕ) (at : ℕ) (a : Result Line Refusal) (ea : a ≡ line_answer told s at) (l : Line) (el : a ≡ Ok l) where
  pub lies : LineAt told s at l
  lies = line_ok told s at l (sym ea ∙ el)

  pub text_end : l.next - 2 ≡ line_end s at
  text_end = omega (arith, next_is told s at l lies)

  pub text_starts : at ≤ l.next - 2
  text_starts = omega (arith, next_is told s at l lies, end_after s at lies.inside)

  pub text_inside : l.next - 2 ≤ length s
  text_inside = omega (arith, next_is told s at l lies, end_inside s at lies.inside)

  pub next_least : 2 ≤ l.next
  next_least = omega (arith, next_is told s at l lies)

  pub next_after : at + 2 ≤ l.next
  next_after = omega (arith, next_is told s at l lies, end_after s at lies.inside)

  pub text_small : at + length (take (l.next - 2 - at) (drop at s)) ≤ file_limit
  text_small = omega (arith, length-take (l.next - 2 - at) (drop at s), length-drop at s, text_starts, text_inside, lies.short)

  pub text_is : take (l.next - 2 - at) (drop at s) ≡ text_at s at
  text_is = ap (λ (k : ℕ). take (k - at) (drop at s)) text_end

-- an accepted line is the rendering of its record and its fields
pub text_written : (told : Told) (at : ℕ) (text : List ℕ) (l : Line) → TextOk told at text l → text ≡ text_of l.kind (fields_of text)
text_written told at text l g =
    sym (join_split text) ∙ ap (λ (n : List ℕ). n ++ joined (fields_of text)) (named_type (name_of text) l.kind g.known)

pub line_stands : (told : Told) (s : List ℕ) (at : ℕ) (l : Line) (g : LineAt told s at l) →
    drop at s ≡ render l.kind (fields_of (text_at s at)) ++ (ended s at g.well).rest
line_stands told s at l g =
    let d = ended s at g.well in
    d.whole ∙ ap (λ (t : List ℕ). t ++ bytes "\r\n" ++ d.rest) (text_written told at (text_at s at) l g.text)
