use Rattle.std.proofs.lemmas.Result.{IfOk-weaker}
use Rattle.code_stress.specs.Actions.{place}
use Rattle.code_stress.proofs.MeaningLemmas.{stresses-lie-by}
use Rattle.code_stress.proofs.answers.stress_at.Goals as goal

pub returns-clause-holds : goal.returns-clause-holds
returns-clause-holds c =
    let s = c.args.s.now in
    IfOk-weaker c.station_stress.result _ _ (λ e encloses cases.
    stresses-lie-by c.args.m.now c.args.kind.now (place s.element s.end) c.in_ok-acts.acts c.station_data-station.result e c.pressure_in-pressure.result c.is_some.result
    c.pressure_in-pressure.ensures.value c.is_some.ensures c.station_data-station.ensures.value encloses (c.in_ok-acts.ensures.holds cases)) c.station_stress.ensures.encloses
