use Rattle.certificate.proofs.BoundsLaw.{bounds_hold}
use Rattle.certificate.proofs.StatesLaw.{states_hold}
use Rattle.certificate.proofs.laws.states_hold.Goals as goal

pub returns : goal.returns
returns c =
    let near = c.equilibria_are_near.ensures in
    let intervals = c.intervals_hold.ensures in
    states_hold intervals.reaches intervals.pasts
    (bounds_hold intervals.forces intervals.residuals near.matrix near.near near.enclosed near.root near.radii)
