-- `write::write_purpose`: the file is refused, and the text is written.
use Rattle.std.proofs.Common.{◌≡◌, ◌∙◌, ap, refl, Err, rules}
use Rattle.std.proofs.lemmas.Result.{err_from_is_err_and}
use Rattle.purpose.proofs.Answering.{file_answer, file_list, was_written, text_there}
use Rattle.purpose.proofs.write.write_purpose.Goals as goal

pub returns-in_err-totals : goal.returns-in_err-totals
returns-in_err-totals c =
    let h = err_from_is_err_and c.from_residual.result c.from_residual.ensures.1 in
    rw (h.1, h.2) (
      file_answer _ _ c.judge.result c.judge.ensures.0 _ c.in_err-totals.was _ _,
      file_list _ _ c.judge.result c.judge.ensures.0 _ c.in_err-totals.was _ refl _ c.judge.ensures.1,
      refl,
    )

pub returns : goal.returns
returns c = (
  was_written _ _ c.judge.result c.judge.ensures.0 _ c.in_ok-totals.was _ c.judge.ensures.1 _ _ c.find_source.ensures _ c.in-Some.is _ (search rules) _
      c.write_source.ensures.0,
  c.judge.ensures.1,
  text_there _ _ c.judge.result c.judge.ensures.0 _ c.in_ok-totals.was _ c.judge.ensures.1 _ _ c.find_source.ensures _ c.in-Some.is c.args.output.now _
      c.write_source.ensures.1,
)
