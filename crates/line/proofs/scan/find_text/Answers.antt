-- `scan::find_text` meets its contract.
use mathlib.Core.Path.{◌≡◌, ◌∙◌}
use Prim.Native.Nat.{◌+◌}
use lib.ListN.{length}
use borrow.Author.Rules.{rules}
use Rattle.line.specs.Line.{ends_well}
use Rattle.line.proofs.Lines.{ends_there, text_ends_at, no_end, line_ends}
use Rattle.line.proofs.scan.find_text.Goals as goal

pub returns-then-not-starts_with-clause-answer : goal.returns-then-not-starts_with-clause-answer
returns-then-not-starts_with-clause-answer c =
    let file = c.args.file.now in
    let end = c.args.offset + length c.text_at.result.now in
    let e : c.starts_with.result ≡ ends_well file end = c.starts_with.ensures.value ∙ ends_there file end in
    search (rules, no_end, text_ends_at)

pub returns-clause-answer : goal.returns-clause-answer
returns-clause-answer c =
    let file = c.args.file.now in
    let end = c.args.offset + length c.text_at.result.now in
    let e : c.starts_with.result ≡ ends_well file end = c.starts_with.ensures.value ∙ ends_there file end in
    search (rules, line_ends, text_ends_at)
