-- `find::find_under` meets its contract.
use Rattle.line.proofs.Accepting.{text_starts, text_inside, next_least, text_small}
use Rattle.line.proofs.Finding.{field_there}
use borrow.Author.Rules.{rules}
use Rattle.line.proofs.find.find_under.Goals as goal

ruleset laws = (rules, text_starts, text_inside, next_least, text_small)

pub overflow_sub-text : goal.overflow_sub-text
overflow_sub-text c = search laws

pub slice_bounds-text-count : goal.slice_bounds-text-count
slice_bounds-text-count c = search laws

pub slice_bounds-text-start : goal.slice_bounds-text-start
slice_bounds-text-start c = search laws

pub slice_bounds-text-end : goal.slice_bounds-text-end
slice_bounds-text-end c = search laws

pub overflow_add-result : goal.overflow_add-result
overflow_add-result c = search laws

pub returns : goal.returns
returns c = search (rules, field_there)
