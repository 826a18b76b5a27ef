-- `read::Text::walk_fields` meets its contract.
use Prim.Native.Nat.{◌+◌, ◌-◌}
use mathlib.Core.Path.{◌≡◌, ap, sym, ◌∙◌}
use lib.ListN.{length, take, drop}
use native.Mathlib.Omega.{arith}
use borrow.Author.Rules.{rules}
use Rattle.std.proofs.lemmas.Result.{err_from_is_err_and}
use Rattle.refusal.specs.Table.{because}
use Rattle.fields.specs.Profile.{profile}
use Rattle.line.proofs.Parts.{rest_starts, front_long, rest_step, part_there}
use Rattle.line.proofs.Walking.{walk_starts, walk_on, walk_stops, placed_by, placed_ok}
use Rattle.line.proofs.read.Text.walk_fields.Goals as goal

pub loop-start-init : goal.loop-start-init
loop-start-init c =
    let line = c.args.self.now.line.now in
    let n = c.part_long-start.result in
    let e = rest_starts line n c.part_long-start.ensures.first in
    let l = front_long line n c.part_long-start.ensures.inside in
    let at : c.args.self.now.offset + (n + 1) ≡ c.args.self.now.offset + length (take (n + 1 - 1 - 0) line) + 1 = omega arith in
    record {
      counted = omega arith;
      behind = omega arith;
      inside = omega (arith, c.part_long-start.ensures.inside);
      still = rw at (walk_starts (profile c.args.version c.args.kind) line _ _ c.args.self.now.offset e);
    }

pub returns-in_err-map_err : goal.returns-in_err-map_err
returns-in_err-map_err c =
    let e = rest_step c.args.self.now.line.now c.loop-start.start _ c.loop-start-test.true c.part_long.ensures.first in
    let w = placed_by c.test_field-tested.result c.map_err.result c.in_err-map_err.field-0.0 _ c.map_err.ensures.cases c.in_err-map_err.was in
    let p = err_from_is_err_and c.from_residual.result c.from_residual.ensures.1 in
    let is : c.in_err-map_err.field-0.0 ≡ because w.0 (c.args.self.now.offset + c.loop-start.start) = search rules in
    rw (p.1, p.2, is)
    (walk_stops (profile c.args.version c.args.kind) _ _ _ _ _ _ _ e c.loop-start.invariant.still w.0 (sym c.test_field-tested.ensures ∙ w.1))

pub loop-start-preserved : goal.loop-start-preserved
loop-start-preserved c =
    let line = c.args.self.now.line.now in
    let start = c.loop-start.start in
    let n = c.part_long.result in
    let e = rest_step line start n c.loop-start-test.true c.part_long.ensures.first in
    let l = part_there line start n c.loop-start-test.true c.part_long.ensures.first in
    let t = sym c.test_field-tested.ensures ∙ placed_ok c.test_field-tested.result c.map_err.result _ _ c.map_err.ensures.cases c.in_ok-map_err.was in
    let m : start + n + 1 - 1 - start ≡ start + n - start = omega arith in
    record {
      counted = omega arith;
      behind = omega arith;
      inside = search rules;
      still =
          walk_on (profile c.args.version c.args.kind) _ _ _ _ _ _ _ e c.loop-start.invariant.still _ _ (omega (arith, l))
          (ap (λ k. take k (drop start line)) m) t;
    }
