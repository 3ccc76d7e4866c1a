use Rattle.std.proofs.Common.{rules, refl, ◌≡◌, pos, ◌*ℤ◌, FitsSigned, to_z, of_z, to_z-of_z}
use Rattle.std.specs.Int.{w128}
use Rattle.model_types.proofs.SpanLemmas.{chord_low, chord_high, chord_fits, twice_is}
use Rattle.model_types.proofs.spans.twice_by.Goals as goal

same : (c : goal.After-from) → to_z w128 (of_z w128 c.from.result) ≡ pos 2 *ℤ c.args.r
same c =
    let fits : FitsSigned w128 c.from.result = search rules in
    rw (to_z-of_z fits) (rw (twice_is c.args.r c.requires.radius) at c.from.ensures)

fits : (c : goal.After-from) → FitsSigned w128 ((pos 2 *ℤ c.args.r) *ℤ c.args.sine)
fits c = chord_fits _ (chord_low c.args.r c.args.sine c.requires.radius c.requires.least) (chord_high c.args.r c.args.sine c.requires.radius c.requires.least c.requires.most)

pub returns : goal.returns
returns c =
    rw (same c, to_z-of_z c.ranges.sine, to_z-of_z (fits c))
    (record { value = refl; least = chord_low c.args.r c.args.sine c.requires.radius c.requires.least; most = chord_high c.args.r c.args.sine c.requires.radius c.requires.least c.requires.most })
