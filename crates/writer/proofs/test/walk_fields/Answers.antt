-- `test::walk_fields`: no field is tested yet.
use Rattle.std.proofs.Common.{rules}
use Rattle.writer.proofs.Walks.{walking_none}
use Rattle.writer.proofs.test.walk_fields.Goals as goal

pub loop-i-init : goal.loop-i-init
loop-i-init c = walking_none c.args.version c.args.kind _ _ (search rules)
