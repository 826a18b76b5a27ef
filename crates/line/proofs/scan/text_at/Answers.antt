-- `scan::text_at` meets its contract.
use mathlib.Core.Path.{◌≡◌}
use mathlib.Core.Bool.{not}
use native.Mathlib.Omega.{arith}
use borrow.Author.Rules.{rules}
use borrow.Author.Tests.{tests}
use lib.ListN.{drop}
use Rattle.std.specs.Prelude.{position}
use Rattle.std.proofs.lemmas.Iterator.{YieldsList-from_slice}
use Rattle.std.proofs.lemmas.Iterator.Search.{position_from_yields_List}
use Rattle.std.proofs.lemmas.Grind.{common_steps}
use Rattle.text.specs.Byte.{text_byte}
use Rattle.line.proofs.Lines.{text_cut}
use Rattle.line.proofs.scan.text_at.Goals as goal

pub returns : goal.returns
returns c =
    let rest = c.unwrap_or-rest.result.now in
    let e : rest ≡ drop c.args.offset c.args.file.now = grind (arith, common_steps) in
    let p : c.position.result ≡ position (λ b. not (text_byte b)) rest =
    position_from_yields_List (λ b. not (text_byte b)) _ _ c.position.result c.position.ensures.ran (YieldsList-from_slice rest cc)
    (λ x b q k. search (rules, tests)) in
    text_cut c.args.file.now rest c.args.offset _ c.position.result e p c.unwrap_or-long.ensures
