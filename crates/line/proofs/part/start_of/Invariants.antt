-- Where the part starts, seen from here, is where it starts.
use Rattle.std.proofs.Common.{◌≡◌, ◌+◌, length}
use Rattle.std.specs.Iterator.Adapters.{take_source, take_count}
use Rattle.line.specs.Parts.{start_in, start_of}
use Rattle.line.proofs.Parts.{long, left}
use Rattle.line.proofs.part.start_of.Given as goal

abbrev pub invariant-loop-part : goal.invariant-loop-part
invariant-loop-part l =
    record {
      can : (goal.iterator-loop-part).can_next l.part-iterator;
      finite : (goal.iterator-loop-part).is_finite l.part-iterator;
      inside : l.start + long (left (take_source l.part-iterator)) ≡ length l.fn.line + 1;
      still : l.start + start_in (left (take_source l.part-iterator)) (take_count l.part-iterator) ≡ start_of l.fn.line l.fn.number;
    }
