use Rattle.std.proofs.Common.{arith, rules}
use Rattle.scans.proofs.Laying.{laying_ends, laying_inside, laying_on}
use Rattle.scans.proofs.lay_out.Goals as goal

pub returns-then-end-text : goal.returns-then-end-text
returns-then-end-text c =
    laying_ends c.loop-i.invariant.2 _ c.line_feed-end.ensures.0 c.loop-i-test.true c.if-end-text.true

pub slice_bounds-lay-count : goal.slice_bounds-lay-count
slice_bounds-lay-count c = laying_inside c.loop-i.invariant.2 _ c.line_feed-end.ensures.0

pub slice_bounds-lay-start : goal.slice_bounds-lay-start
slice_bounds-lay-start c = let inside = laying_inside c.loop-i.invariant.2 _ c.line_feed-end.ensures.0 in search rules

pub loop-i-preserved : goal.loop-i-preserved
loop-i-preserved c =
    let end = c.line_feed-end.ensures in (
      search rules,
      search rules,
      laying_on c.loop-i.invariant.2 _ end.0 _ _ c.loop-i-test.true (omega (arith, end.1, c.if-end-text.false)) c.lay.ensures.is
          c.lay.ensures.lies,
    )
