-- `day::check_each` meets its contract, number by number.
use Rattle.std.proofs.Common.{◌≡◌, ◌+◌, ◌*◌, ◌<◌, ◌++◌, length, drop, sym, ◌∙◌, arith, length-set}
use Rattle.std.specs.Iterator.Adapters.{enumerate_source, enumerate_count}
use Rattle.std.specs.Slice.Iter.{chunks_exact_rest}
use lib.Seq.{paste}
use Rattle.check_characters.specs.Day.{day_answers}
use Rattle.check_characters.proofs.Days.{next_inside, next_rest, next_answer, day_again, day_done}
use Rattle.check_characters.proofs.day.check_each.Goals as goal

pub loop-i-preserved : goal.loop-i-preserved
loop-i-preserved c =
    let numbers = c.args.numbers.now in
    let i = c.in-Some.i in
    let rest = chunks_exact_rest (enumerate_source c.next.new.self) in
    let step = c.in-Some.ensures.steps in
    let here : i ≡ enumerate_count c.loop-i.i-iterator = step.1 in
    let next : enumerate_count c.next.new.self ≡ i + 1 = omega (arith, step.1, step.2) in
    let e : drop (15 * i) numbers ≡ c.in-Some.number.now ++ rest = rw here (sym c.loop-i.invariant.rest ∙ step.0.1.0) in
    let long : length c.in-Some.number.now ≡ 15 = step.0.1.1 ∙ c.loop-i.invariant.size in
    let inside = next_inside numbers i c.in-Some.number.now rest e long in
    let answer = next_answer numbers i c.in-Some.number.now rest e long c.check_as.result c.answer_byte.result c.check_as.ensures c.answer_byte.ensures in
    let said : c.loop-i.answers ≡ paste c.args.answers.now 0 (day_answers numbers) i = rw here c.loop-i.invariant.said in
    record {
      room = length-set _ _ _ ∙ c.loop-i.invariant.room;
      many = omega (arith, inside, next);
      size = step.0.0 ∙ c.loop-i.invariant.size;
      rest = rw next (sym (next_rest numbers i c.in-Some.number.now rest e long));
      said = rw next (day_again numbers c.args.answers.now c.loop-i.answers i c.requires said c.answer_byte.result inside answer);
    }

pub returns : goal.returns
returns c =
    let numbers = c.args.numbers.now in
    let few : length (drop (15 * enumerate_count c.loop-i.i-iterator) numbers) < 15 =
    rw (← c.loop-i.invariant.rest) (omega (arith, c.in-None.ensures.steps.0.1.0, c.loop-i.invariant.size)) in
    day_done numbers c.args.answers.now c.loop-i.answers (enumerate_count c.loop-i.i-iterator) c.requires c.loop-i.invariant.said c.loop-i.invariant.many few
