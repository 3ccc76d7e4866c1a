use Rattle.std.proofs.Common.{rules, ◌≡◌, FitsSigned, to_z, of_z, to_z-of_z}
use Rattle.std.specs.Int.{w128}
use Rattle.member_pairs.proofs.TubeLemmas.{load_fits, difference_fits, modulus_fits}
use Rattle.member_pairs.proofs.tube.load.Goals as goal

pub returns : goal.returns
returns c =
    let tube = c.args.tube.now in
    let from_fits : FitsSigned w128 c.from.result = search rules in
    let same : to_z w128 (of_z w128 c.from.result) ≡ tube.modulus = rw (to_z-of_z from_fits) (rw (to_z-of_z (modulus_fits tube c.requires)) at c.from.ensures) in
    rw (same, to_z-of_z (difference_fits tube c.requires), to_z-of_z (load_fits tube c.requires))
