use Rattle.std.proofs.Common.{replicate, refl}
use Rattle.returns.proofs.Saying.{prints_all}
use Rattle.returns.proofs.say_answers.Goals as goal

pub returns : goal.returns
returns g c = prints_all _ _ _ (replicate 3072 0) _ _ _ c.print_answers-n.ensures refl c.write_out.ensures
