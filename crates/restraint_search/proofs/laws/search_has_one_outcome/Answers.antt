use Rattle.restraint_search.proofs.OutcomeLemmas.{one_outcome}
use Rattle.restraint_search.proofs.laws.search_has_one_outcome.Goals as goal

pub returns : goal.returns
returns g c start decided x y = one_outcome (g.T.Trial.finds c.args.trial.now) (g.T.Trial.fails c.args.trial.now) start decided x y
