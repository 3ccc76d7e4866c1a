use Rattle.std.proofs.Common.{rules, tests}
use Rattle.std.proofs.lemmas.Iterator.{YieldsList-from_map, YieldsList-from_slice, items_from_collect}
use Rattle.std.proofs.lemmas.Iterator.Adapters.{YieldsList-from_skip}
use Rattle.model_types.specs.Fits.{bounds_of}
use Rattle.case_run.proofs.cases.bounds_from.Goals as goal

pub returns : goal.returns
returns c =
    items_from_collect _ c.collect.ensures.ran
    (YieldsList-from_map _ bounds_of (YieldsList-from_skip c.args.first (YieldsList-from_slice c.args.intervals.now cc) cc) c.map.ensures.closure
    (λ e bounds q called. search (rules, tests)))
