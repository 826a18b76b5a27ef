-- `whole::judge`: a file that is too long, and a list of countries of odd length.
use Rattle.std.proofs.Common.{rules, refl}
use Rattle.file.proofs.Going.{long_judged, odd_judged}
use Rattle.file.proofs.whole.judge.Goals as goal

pub returns-then-file-gt-FILE_LIMIT : goal.returns-then-file-gt-FILE_LIMIT
returns-then-file-gt-FILE_LIMIT c = rw c.new.ensures (long_judged _ _ (search rules) c.args.list.now _ refl (search rules))

pub returns-then-not-is_paired : goal.returns-then-not-is_paired
returns-then-not-is_paired c =
    rw c.new-then-not-is_paired.ensures
    (odd_judged _ _ (search rules) c.is_paired.result c.is_paired.ensures (search rules) c.args.list.now _ refl (search rules))
