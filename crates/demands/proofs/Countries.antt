-- Proofs of the statements in specs/Countries.
use Rattle.allowed.proofs.Countries as countries
use Rattle.refused.proofs.Lists as lists
use Rattle.demands.specs.Countries.{ListedExactly, EmptyListAsksNothing, PartAcceptsToo, ReachableAlwaysSame}

pub listed_exactly : ListedExactly
listed_exactly = countries.listed_exactly

pub empty_list_asks_nothing : EmptyListAsksNothing
empty_list_asks_nothing = countries.kept_empty

pub part_accepts_too : PartAcceptsToo
part_accepts_too = lists.part_accepts

pub reachable_always_same : ReachableAlwaysSame
reachable_always_same = lists.same_answer
