-- `day::check_each`: the answers of the numbers in front are in, every other byte is as it was, and the other numbers are to come.
use Rattle.std.proofs.Common.{◌≡◌, ◌≤◌, ◌*◌, length, drop}
use Rattle.std.specs.Iterator.Adapters.{enumerate_source, enumerate_count}
use Rattle.std.specs.Slice.Iter.{chunks_exact_rest, chunks_exact_size}
use lib.Seq.{paste}
use Rattle.check_characters.specs.Day.{how_many, day_answers}
use Rattle.check_characters.proofs.day.check_each.Given as goal

abbrev pub invariant-loop-i : goal.invariant-loop-i
invariant-loop-i l =
    record {
      room : length l.answers ≡ length l.fn.answers;
      many : enumerate_count l.i-iterator ≤ how_many l.numbers;
      size : chunks_exact_size (enumerate_source l.i-iterator) ≡ 15;
      rest : chunks_exact_rest (enumerate_source l.i-iterator) ≡ drop (15 * enumerate_count l.i-iterator) l.numbers;
      said : l.answers ≡ paste l.fn.answers 0 (day_answers l.numbers) (enumerate_count l.i-iterator);
    }
