-- `cut::write_joined`: the three pieces, one behind the other.
use Rattle.purpose.proofs.Cutting.{joined_long, joined_there}
use Rattle.purpose.proofs.cut.write_joined.Goals as goal

pub returns : goal.returns
returns c = (
  joined_long c.args.a.now c.args.b.now _ c.write_upto-slash.ensures.0 _ c.write_upto-second.ensures.0 _ c.write_upto.ensures.0,
  joined_there c.args.a.now c.args.b.now _ c.write_upto-slash.ensures.0 _ c.write_upto-second.ensures.0 _ _ c.write_upto-slash.ensures.2 _
      c.write_upto-second.ensures.2 _ c.write_upto.ensures.2,
)
