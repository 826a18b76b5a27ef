-- One field, by the cases that the code meets.
use Prim.Native.Nat.{ℕ, ◌+◌, ◌-◌, ◌≤◌}
use mathlib.Core.Path.{◌≡◌}
use mathlib.Core.List.{List}
use lib.ListN.{length, take, drop}
use borrow.Author.Tests.{le-ltb, ne_eqb}
use Rattle.refusal.specs.declared.Refusal.{Refusal}
use Rattle.fields.specs.Profile.{Rules}
use Rattle.line.specs.Parts.{start_of, part_at}
use Rattle.line.specs.Line.{line_answer, alone}
use Rattle.line.specs.Find.{in_line, field_answer}
use Rattle.line.proofs.Accepting.{text_is}
use Rattle.line.specs.declared.read.Line.{Line}
use Rattle.std.specs.Prelude.{Result, Ok}
use Rattle.line.specs.declared.find.Span.{Span}

pub field_there : (rules : Rules) (s : List ℕ) (at n : ℕ) (a : Result Line Refusal) (line : Line) (start : ℕ) (f : List ℕ) →
    a ≡ line_answer (alone rules) s at → a ≡ Ok line → (n ≡ 0 → ⊥) → n ≤ line.count →
    start ≡ start_of (take (line.next - 2 - at) (drop at s)) n → f ≡ part_at (take (line.next - 2 - at) (drop at s)) n →
    ◌≡◌ {A = Result Span Refusal} (Ok (record { start = at + start; long = length f })) (field_answer rules s at n)
unfolding field_answer in_line
field_there rules s at n a line start f ea el m h es ef =
    let t = text_is (alone rules) s at a ea line el in
    rw (← ea, el, ne_eqb n 0 m, le-ltb line.count n h, es, ef, t)
