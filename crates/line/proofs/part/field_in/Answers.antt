-- `part::field_in` meets its contract.
use mathlib.Core.Path.{refl, ap, ◌∙◌}
use borrow.Author.Rules.{rules}
use Rattle.std.proofs.lemmas.Iterator.Consumers.{nth_from_yields_List}
use Rattle.std.proofs.lemmas.Iterator.Splits.{YieldsList-from_slice_split}
use Rattle.line.specs.Parts.{semicolon, split}
use Rattle.line.proofs.Parts.{part_or_none}
use Rattle.line.proofs.part.field_in.Goals as goal

pub returns : goal.returns
returns c =
    ap (λ x. x.now) c.unwrap_or.ensures
    ∙ part_or_none c.nth.result _ (split c.args.line.now) c.args.number
    (nth_from_yields_List c.nth.result _ c.args.number c.nth.ensures.ran
    (YieldsList-from_slice_split _ semicolon c.args.line.now c.split.ensures.rest c.split.ensures.done c.split.ensures.closure (λ x b q k. search rules)))
    refl
