-- `is_listed` meets its contract: the library's chunks of two are the pairs.
use Rattle.std.proofs.Common.{rules, tests, ◌≡◌, ◌∙◌}
use Rattle.std.proofs.lemmas.Iterator.Search.{any_from_yields_List}
use Rattle.text.specs.Scan.{same}
use Rattle.countries.specs.List.{is_listed}
use Rattle.countries.proofs.Lists.{any_pair, pairs_given}
use Rattle.countries.proofs.is_listed.Goals as goal

pub returns : goal.returns
returns c =
    let told : c.any.result ≡ is_listed c.args.countries.now c.args.country.now =
    any_from_yields_List (λ pair. same pair c.args.country.now) c.any.new.self _ c.any.result c.any.ensures.ran
    (pairs_given c.args.countries.now (search rules) (search rules))
    (λ x b q k. search (rules, tests))
    ∙ any_pair c.args.countries.now c.args.country.now
    in search (rules, told)
