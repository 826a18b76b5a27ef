-- What is left of the walk at a field is the whole.
use Rattle.std.proofs.Common.{◌≡◌, ◌+◌, ◌-◌, ◌≤◌, length, take, drop}
use Rattle.fields.specs.Profile.{profile}
use Rattle.line.specs.Parts.{name_of, fields_of}
use Rattle.line.specs.Walk.{walk}
use Rattle.line.proofs.Parts.{rest}
use Rattle.line.proofs.read.Text.walk_fields.Given as goal

abbrev pub invariant-loop-start : goal.invariant-loop-start
invariant-loop-start l =
    record {
      counted : l.number ≤ l.start;
      behind : l.beside + 1 ≤ l.start;
      inside : l.start ≤ length l.line + 1;
      still : walk (profile l.fn.version l.fn.kind) l.number (l.fn.self.offset + l.start) (take (l.start - 1 - l.beside) (drop l.beside l.line)) (rest l.line l.start)
          ≡ walk (profile l.fn.version l.fn.kind) 1 (l.fn.self.offset + length (name_of l.fn.self.line.now) + 1) (name_of l.fn.self.line.now)
          (fields_of l.fn.self.line.now);
    }

abbrev pub decreases-loop-start : goal.decreases-loop-start
decreases-loop-start l = length l.line + 1 - l.start
