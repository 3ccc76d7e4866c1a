use Rattle.std.proofs.Common.{rules, FitsSigned, to_z-of_z}
use Rattle.std.specs.Int.{w128, w64}
use Rattle.load_vectors.proofs.WallLemmas.{bore_most}
use Rattle.load_vectors.proofs.deformations.inside_square.Goals as goal

pub returns-clause-thin : goal.returns-clause-thin
returns-clause-thin c =
    let fits : FitsSigned w128 c.square.result = search rules in
    let inside_fits : FitsSigned w64 c.inside_diameter.result = search rules in
    let square = rw (to_z-of_z inside_fits, c.inside_diameter.ensures.value) at c.square.ensures in
    rw (to_z-of_z fits, square) (bore_most c.args.s.now c.requires)
