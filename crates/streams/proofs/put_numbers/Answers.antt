use Rattle.std.proofs.Common.{rules}
use Rattle.streams.proofs.Listing.{listing_on, listed, runs_on, runs_end}
use Rattle.streams.proofs.put_numbers.Goals as goal

pub loop-value-preserved : goal.loop-value-preserved
loop-value-preserved c =
    let digits = c.add_decimal-fill.ensures in (
      search rules,
      λ room. listing_on c.args.word.now c.args.values.now c.args.line.now room _ _ _ _ _ _ _ (search rules) (search rules) (search rules)
          c.loop-value-test.true (c.loop-value.invariant.1 room) c.add-fill-in-loop-value.ensures.added digits.short digits.added,
      λ count after rest. c.loop-value.invariant.2 count after
          (runs_on c.args.values.now _ _ _ _ _ _ _ count c.loop-value.value-index c.loop-value-test.true
          c.add-fill-in-loop-value.ensures.added digits.added rest),
    )

pub returns-clause-told : goal.returns-clause-told
returns-clause-told c = λ room.
    listed c.args.word.now c.args.values.now c.args.line.now room _ _ _ _ _ (search rules) c.loop-value-test.false (search rules)
    (c.loop-value.invariant.1 room) c.add.ensures.added

pub returns-clause-added : goal.returns-clause-added
returns-clause-added c = c.loop-value.invariant.2 _ _
    (runs_end c.args.values.now _ _ _ _ c.loop-value.value-index c.loop-value-test.false c.add.ensures.added)
