-- `table::widths_of` meets its contract: each version's table is what the papers' widths give.
use Rattle.fields.specs.Profile.{profile, width_in_table}
use Rattle.fields.proofs.Tables.{width_laid}
use borrow.Author.Rules.{rules}
use Rattle.fields.proofs.table.widths_of.Goals as goal

pub returns-in-Five : goal.returns-in-Five
unfolding profile width_in_table
returns-in-Five c number = search (rules, width_laid)

pub returns-in-Seven : goal.returns-in-Seven
unfolding profile width_in_table
returns-in-Seven c number = search (rules, width_laid)
