use Rattle.std.proofs.lemmas.Result.{IfOk-weaker}
use Rattle.code_stress.proofs.station.station_stress.Goals as goal

pub returns-clause-encloses : goal.returns-clause-encloses
returns-clause-encloses c =
    let bending = rw c.is_some.ensures at c.in_ok-bending.ensures.within in
    IfOk-weaker c.combined.result _ _ (λ e encloses x h.
    let force = c.force_vector.ensures.within x.force h.force in
    let moment = c.moment_vector-moment.ensures.within x.moment h.moment in
    encloses _ _ _
    (c.in_ok-direct.ensures.within x force h.tangent h.area)
    (bending x moment h.tangent h.normal h.modulus h.bending h.ii h.io)
    (c.in_ok-torsion.ensures.within x.moment x.tangent x.modulus moment h.tangent h.modulus)) c.combined.ensures.encloses
