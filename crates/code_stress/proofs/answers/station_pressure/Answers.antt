use Rattle.std.proofs.Common.{arith, ap, sym, ◌∙◌, FitsSigned, to_z-of_z}
use Rattle.std.proofs.lemmas.Int.{ints}
use Rattle.std.proofs.lemmas.Option.{get_or_from_slice_get}
use Rattle.std.specs.Int.{w64}
use Rattle.load_vectors.specs.Cases.{pressure_of}
use Rattle.model_types.specs.declared.records.Element.{Element}
use Rattle.structure.specs.Elements.{no_element}
use Rattle.code_stress.proofs.answers.station_pressure.Goals as goal

pub returns-clause-value : goal.returns-clause-value
returns-clause-value c =
    let m = c.args.m.now in
    let at = get_or_from_slice_get m.elements c.args.s.now.element c.element.result.now no_element c.element.ensures.found in
    let form = c.section_pressure.ensures.form in
    let fits : FitsSigned w64 c.section_pressure.result = omega (arith, ints, form.least, form.most) in
    to_z-of_z fits ∙ c.section_pressure.ensures.value ∙ ap (λ (e : Element). pressure_of m c.args.case.0 e.section.0) (sym at)
