use Rattle.flex_num.proofs.CubeRootLemmas.{improved_above}
use Rattle.flex_num.proofs.cube_root.improved.Goals as goal

pub returns-clause-above : goal.returns-clause-above
returns-clause-above c = improved_above c.args.n c.args.root c.requires.positive
