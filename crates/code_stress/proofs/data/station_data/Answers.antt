use Rattle.std.proofs.Common.{◌≡◌, ◌∙◌, None, ap, sym, subst}
use Rattle.member_set.specs.declared.members.Station.{Station}
use Rattle.model_types.specs.declared.records.Element.{Element}
use Rattle.model_types.specs.declared.records.Shape.TheVariants.{Straight}
use Rattle.structure.specs.Elements.{element_at, from_of, no_element, node_at, to_of}
use Rattle.structure.specs.Tees.{tee_at}
use Rattle.code_stress.proofs.DataLemmas.{at_number, station_data_is, straight_end}
use Rattle.code_stress.proofs.data.station_data.Goals as goal

pub factors_along-factors-requires-clause-normal : goal.factors_along-factors-requires-clause-normal
factors_along-factors-requires-clause-normal c = λ is none.
    let m = c.args.m.now in
    let s = c.args.s.now in
    let e = element_at m s.element in
    let same : c.element-element.result.now ≡ e = at_number m.elements s.element c.element-element.result.now no_element c.element-element.ensures.found in
    let shape : e.shape ≡ Straight = subst (λ (x : Element). x.shape ≡ Straight) same is in
    let node = c.node_at-node.ensures ∙ ap (λ (x : Element). node_at x s.end) same in
    let normal = ap (λ (t : Station). t.normal) c.requires.station in
    let gone = straight_end m e.shape (from_of m e) (to_of m e) (node_at e s.end) shape (sym normal ∙ none) in
    subst (λ k. tee_at m k ≡ None) (sym node) gone

pub returns-clause-value : goal.returns-clause-value
returns-clause-value c =
    let m = c.args.m.now in
    let s = c.args.s.now in
    let same = at_number m.elements s.element c.element-element.result.now no_element c.element-element.ensures.found in
    station_data_is m c.args.reduced s c.element-element.result.now c.node_at-node.result.0 c.section_values-values.result c.factors_along-factors.result
    same c.node_at-node.ensures c.requires.station c.section_values-values.ensures.value c.factors_along-factors.ensures.value
