-- `date::is_like` meets its contract: the runs are walked over side by side.
use Rattle.std.proofs.Common.{rules, tests, ◌≡◌, ◌∙◌, ℕ, length}
use Rattle.std.proofs.lemmas.Iterator.{YieldsList-from_slice, YieldsList-from_zip}
use Rattle.std.proofs.lemmas.Iterator.Search.{all_from_yields_List}
use Rattle.text.proofs.Scans.{pairs_as, pair_unlike}
use Rattle.forms.specs.Date.{stands_for, like}
use Rattle.forms.proofs.date.is_like.Goals as goal

pub returns-then-pattern-s : goal.returns-then-pattern-s
unfolding like
returns-then-pattern-s c =
    let long : length c.args.pattern.now ≡ length c.args.s.now = search rules in
    all_from_yields_List (λ (p : ℕ × ℕ). stands_for p.0 p.1) c.all.new.self _ c.all.result c.all.ensures.ran
    (YieldsList-from_zip (YieldsList-from_slice c.args.pattern.now cc) (YieldsList-from_slice c.args.s.now cc))
    (λ x b q k. search (rules, tests))
    ∙ pairs_as stands_for c.args.pattern.now c.args.s.now long

pub returns-else-pattern-s : goal.returns-else-pattern-s
unfolding like
returns-else-pattern-s c = search (rules, tests, pair_unlike)
