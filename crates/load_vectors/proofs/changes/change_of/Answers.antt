use Rattle.std.proofs.Common.{◌≡◌, refl, rules, FitsSigned, to_z-of_z, position, ◌==◌, ◌&&◌}
use Rattle.std.specs.Int.{w64}
use Rattle.model_types.specs.Ranges.{IsIn}
use Rattle.model_types.specs.declared.ranges.TheConstants.{PRESSURE, TEMPERATURE_CHANGE}
use Rattle.model_types.specs.declared.records.Temp.{Temp}
use Rattle.model_types.specs.declared.records.Pressure.{Pressure}
use Rattle.load_vectors.specs.Cases.{dt_or, no_case, p_or, pressure_record_of, temp_of}
use Rattle.load_vectors.proofs.RecordLemmas.{dt_in_range, kept_found, p_in_range}
use Rattle.structure.proofs.MemberLemmas.{at_number}
use Rattle.load_vectors.proofs.changes.change_of.Goals as goal

dt_known : (c : goal.After-p_or) → IsIn TEMPERATURE_CHANGE (dt_or (temp_of c.args.m.now.temps c.args.case.0 c.args.section) c.case-own.result.now.dt)
dt_known c =
    dt_in_range (temp_of c.args.m.now.temps c.args.case.0 c.args.section) c.case-own.result.now.dt
    (kept_found (λ (r : Temp). IsIn TEMPERATURE_CHANGE r.dt) c.args.m.now.temps (position (λ t. t.case.0 == c.args.case.0 && t.section.0 == c.args.section) c.args.m.now.temps)
    (λ i d inside. (c.temps.ensures.model.kept.temps i d inside).form))
    c.case-own.ensures.kept.form.dt

p_known : (c : goal.After-p_or) → IsIn PRESSURE (p_or (pressure_record_of c.args.m.now.pressures c.args.case.0 c.args.section) c.case-own.result.now.p)
p_known c =
    p_in_range (pressure_record_of c.args.m.now.pressures c.args.case.0 c.args.section) c.case-own.result.now.p
    (kept_found (λ (r : Pressure). IsIn PRESSURE r.p) c.args.m.now.pressures (position (λ p. p.case.0 == c.args.case.0 && p.section.0 == c.args.section) c.args.m.now.pressures)
    (λ i d inside. (c.pressures.ensures.model.kept.pressures i d inside).form))
    c.case-own.ensures.kept.form.p

dt_is : (c : goal.After-p_or) → c.dt_or.result ≡ dt_or (temp_of c.args.m.now.temps c.args.case.0 c.args.section) c.case-own.result.now.dt
dt_is c =
    let fits : FitsSigned w64 c.case-own.result.now.dt = search rules in
    rw (to_z-of_z fits, c.temp_of.ensures, c.temps.ensures.records) at c.dt_or.ensures

p_is : (c : goal.After-p_or) → c.p_or.result ≡ p_or (pressure_record_of c.args.m.now.pressures c.args.case.0 c.args.section) c.case-own.result.now.p
p_is c =
    let fits : FitsSigned w64 c.case-own.result.now.p = search rules in
    rw (to_z-of_z fits, c.pressure_of.ensures, c.pressures.ensures.records) at c.p_or.ensures

pub returns-clause-heat : goal.returns-clause-heat
returns-clause-heat c =
    let known = rw (← dt_is c) at (dt_known c) in
    let fits : FitsSigned w64 c.dt_or.result = search rules in
    rw (to_z-of_z fits) known

pub returns-clause-pressure : goal.returns-clause-pressure
returns-clause-pressure c =
    let known = rw (← p_is c) at (p_known c) in
    let fits : FitsSigned w64 c.p_or.result = search rules in
    rw (to_z-of_z fits) known

pub returns-clause-value : goal.returns-clause-value
returns-clause-value c =
    let dt_range = rw (← dt_is c) at (dt_known c) in
    let p_range = rw (← p_is c) at (p_known c) in
    let dt_fits : FitsSigned w64 c.dt_or.result = search rules in
    let p_fits : FitsSigned w64 c.p_or.result = search rules in
    let own = at_number c.args.m.now.cases c.args.case.0 c.case-own.result.now no_case c.case-own.ensures.found in
    rw (to_z-of_z dt_fits, to_z-of_z p_fits, dt_is c, p_is c, own) refl
