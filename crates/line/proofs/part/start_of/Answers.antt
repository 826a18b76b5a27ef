-- `part::start_of` meets its contract.
use mathlib.Core.Path.{◌≡◌, ap, ◌∙◌}
use mathlib.Core.List.{◌∷◌}
use native.Mathlib.Omega.{arith}
use native.Mathlib.Nat.{zero-add}
use borrow.Author.Rules.{rules, of_calls}
use Rattle.std.specs.Iterator.Adapters.{take_source, take_count}
use Rattle.line.specs.Parts.{split, start_in}
use Rattle.line.proofs.Parts.{long, long_split, left, all_left, taken_part, taken_start}
use Rattle.line.proofs.part.start_of.Goals as goal

pub loop-part-init : goal.loop-part-init
loop-part-init c =
    let e : left (take_source c.into_iter-part-iterator.result) ≡ split c.args.line.now =
    ap (λ i. left (take_source i)) c.into_iter-part-iterator.ensures.into_iter_gives ∙ ap left c.take-part-items.ensures.source
    ∙ all_left c.split.result c.args.line.now c.split.ensures.done c.split.ensures.rest in
    let n : take_count c.into_iter-part-iterator.result ≡ c.args.number =
    ap take_count c.into_iter-part-iterator.ensures.into_iter_gives ∙ c.take-part-items.ensures.count in
    record {
      can = search of_calls;
      finite = search of_calls;
      inside = omega (arith, long_split c.args.line.now, ap long e);
      still = zero-add _ ∙ ap (λ ps. start_in ps (take_count c.into_iter-part-iterator.result)) e ∙ ap (start_in (split c.args.line.now)) n;
    }

pub overflow_add-start-in-loop-part : goal.overflow_add-start-in-loop-part
overflow_add-start-in-loop-part c =
    let e : left (take_source c.loop-part.part-iterator) ≡ c.in-Some.part.now ∷ left (take_source c.next.new.self) =
    taken_part _ c.loop-part.part-iterator c.next.new.self (λ f b r q k. search rules) c.in-Some.part c.in-Some.ensures.steps in
    omega (arith, ap long e)

pub loop-part-preserved : goal.loop-part-preserved
loop-part-preserved c =
    let e : left (take_source c.loop-part.part-iterator) ≡ c.in-Some.part.now ∷ left (take_source c.next.new.self) =
    taken_part _ c.loop-part.part-iterator c.next.new.self (λ f b r q k. search rules) c.in-Some.part c.in-Some.ensures.steps in
    let m = taken_start _ c.loop-part.part-iterator c.next.new.self (λ f b r q k. search rules) c.in-Some.part c.in-Some.ensures.steps in
    record { can = search of_calls; finite = search of_calls; inside = omega (arith, ap long e); still = omega (arith, m) }
