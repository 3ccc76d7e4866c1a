use Rattle.std.proofs.Common.{to_z-of_z}
use Rattle.code_stress.proofs.AllowableLemmas.{expansion_lies, expansion_fits}
use Rattle.code_stress.proofs.allowances.allowable.Goals as goal

pub returns-in-Expansion-clause-holds : goal.returns-in-Expansion-clause-holds
returns-in-Expansion-clause-holds c =
    let fit = expansion_fits c.args.kind.now _ _ _ _ _ _ _ c.in-Expansion.is c.requires.kind in
    expansion_lies c.args.earlier.now c.args.kind.now _ _ _ _ _ _ _ c.args.station c.args.factor c.sustained_stress.result _ _ c.expansion_allowable.result
    c.in-Expansion.is c.requires.factor c.sustained_stress.ensures (to_z-of_z fit.0) (to_z-of_z fit.1) c.expansion_allowable.ensures.within
