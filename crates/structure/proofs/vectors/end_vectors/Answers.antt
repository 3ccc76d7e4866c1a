use Rattle.std.proofs.Common.{◌≡◌, List, ap, sym, ◌∙◌, subst, Ok}
use Rattle.flex_interval.specs.Ends.{Ends}
use Rattle.model_types.specs.Ranges.{ShapeInForm}
use Rattle.model_types.specs.Rules.{IsShapeSpan}
use Rattle.member_pairs.specs.Tubes.{tube_of}
use Rattle.member_pairs.specs.Vectors.{way_of}
use Rattle.bend_element.specs.Between.{IsCurve, IsOffLine, curve_from}
use Rattle.bend_element.specs.Vectors.{bend_vectors_of}
use Rattle.bend_element.specs.declared.between.Curve.{Curve}
use Rattle.structure.specs.Elements.{from_of, to_of, section_of, material_of, no_node}
use Rattle.structure.specs.Stations.{HoldsVectorsAlong, station_with}
use Rattle.structure.proofs.CurveLemmas.{curve_known, curve_runs}
use Rattle.structure.proofs.MemberLemmas.{at_number}
use Rattle.structure.proofs.StationLemmas.{kept_shape, straight_ok, straight_value, straight_holds, bend_ok, bend_value, bend_holds, bend_end, normal_three, with_normal}
use Rattle.structure.proofs.vectors.end_vectors.Goals as goal

-- the nodes are the element's
first : (c : goal.In-Straight) → c.node-from.result.now ≡ from_of c.args.m.now c.args.e.now
first c = at_number c.args.m.now.nodes c.args.e.now.from.0 c.node-from.result.now no_node c.node-from.ensures.found

second : (c : goal.In-Straight) → c.node-to.result.now ≡ to_of c.args.m.now c.args.e.now
second c = at_number c.args.m.now.nodes c.args.e.now.to.0 c.node-to.result.now no_node c.node-to.ensures.found

pub straight_vectors-requires-clause-found : goal.straight_vectors-requires-clause-found
straight_vectors-requires-clause-found c =
    straight_ok c.args.m.now c.args.e.now c.node-from.result.now c.node-to.result.now c.in-Straight.is (first c) (second c) c.requires.members

pub returns-in-Straight-clause-value : goal.returns-in-Straight-clause-value
returns-in-Straight-clause-value c =
    straight_value c.args.m.now c.args.e.now c.node-from.result.now c.node-to.result.now c.straight_vectors.result c.in-Straight.is
    (at_number c.args.m.now.nodes c.args.e.now.from.0 c.node-from.result.now no_node c.node-from.ensures.found)
    (at_number c.args.m.now.nodes c.args.e.now.to.0 c.node-to.result.now no_node c.node-to.ensures.found) c.straight_vectors.ensures.value

pub returns-in-Straight-clause-holds : goal.returns-in-Straight-clause-holds
returns-in-Straight-clause-holds c = λ n end.
    straight_holds c.args.m.now c.args.e.now c.node-from.result.now c.node-to.result.now (station_with c.args.m.now n end c.straight_vectors.result) c.in-Straight.is
    (at_number c.args.m.now.nodes c.args.e.now.from.0 c.node-from.result.now no_node c.node-from.ensures.found)
    (at_number c.args.m.now.nodes c.args.e.now.to.0 c.node-to.result.now no_node c.node-to.ensures.found) (c.straight_vectors.ensures.holds c.args.m.now n end)

-- ---- a bend

-- the curve that the code has
runs : (c : goal.After-curve-1) → IsCurve (section_of c.args.m.now c.args.e.now) c.curve_from-curve.result × IsOffLine (way_of c.node-from.result.now c.node-to.result.now) c.curve_from-curve.result.corner
runs c =
    let section = section_of c.args.m.now c.args.e.now in
    let from = c.node-from.result.now in
    let to = c.node-to.result.now in
    let form = subst ShapeInForm c.in-Bend.is c.requires.keeps.form.shape in
    let span = subst (IsShapeSpan from to section) c.in-Bend.is (kept_shape c.args.m.now c.args.e.now from to c.requires.keeps c.node-from.ensures.found c.node-to.ensures.found) in
    let curve = curve_known from c.curve_from-curve.result c.in-Bend.r c.in-Bend.angle c.in-Bend.px c.in-Bend.py c.in-Bend.pz form c.curve_from-curve.ensures in
    curve_runs from to section c.curve_from-curve.result c.in-Bend.r c.in-Bend.angle c.in-Bend.px c.in-Bend.py c.in-Bend.pz c.bend_spans_are_curves.ensures form span curve

pub bend_vectors-requires-clause-span : goal.bend_vectors-requires-clause-span
bend_vectors-requires-clause-span c = c.requires.keeps.own.span c.node-from.result.now c.node-to.result.now c.node-from.ensures.found c.node-to.ensures.found

pub bend_vectors-requires-clause-corner : goal.bend_vectors-requires-clause-corner
bend_vectors-requires-clause-corner c = (runs c).0.corner

pub bend_vectors-requires-clause-off_line : goal.bend_vectors-requires-clause-off_line
bend_vectors-requires-clause-off_line c = (runs c).1

pub unwrap-vectors-requires : goal.unwrap-vectors-requires
unwrap-vectors-requires c =
    let m = c.args.m.now in
    let e = c.args.e.now in
    let known = curve_known c.node-from.result.now c.curve_from-curve.result c.in-Bend.r c.in-Bend.angle c.in-Bend.px c.in-Bend.py c.in-Bend.pz (subst ShapeInForm c.in-Bend.is c.requires.keeps.form.shape) c.curve_from-curve.ensures in
    let made =
    bend_ok m e c.node-from.result.now c.node-to.result.now c.in-Bend.r c.in-Bend.angle c.in-Bend.px c.in-Bend.py c.in-Bend.pz c.in-Bend.is
    (at_number m.nodes e.from.0 c.node-from.result.now no_node c.node-from.ensures.found) (at_number m.nodes e.to.0 c.node-to.result.now no_node c.node-to.ensures.found) c.requires.members in
    c.bend_vectors.ensures.found e (tube_of (section_of m e) (material_of m (section_of m e))) (section_of m e) (rw known made)

known : (c : goal.After-index-vectors-2) → c.curve_from-curve.result ≡ curve_from c.node-from.result.now c.in-Bend.r c.in-Bend.angle c.in-Bend.px c.in-Bend.py c.in-Bend.pz
known c = curve_known c.node-from.result.now c.curve_from-curve.result c.in-Bend.r c.in-Bend.angle c.in-Bend.px c.in-Bend.py c.in-Bend.pz (subst ShapeInForm c.in-Bend.is c.requires.keeps.form.shape) c.curve_from-curve.ensures

value : (c : goal.After-index-vectors-2) → bend_vectors_of (way_of c.node-from.result.now c.node-to.result.now) (curve_from c.node-from.result.now c.in-Bend.r c.in-Bend.angle c.in-Bend.px c.in-Bend.py c.in-Bend.pz) ≡ Ok c.unwrap-vectors.result
value c = ap (λ (curve : Curve). bend_vectors_of (way_of c.node-from.result.now c.node-to.result.now) curve) (sym (known c)) ∙ sym c.bend_vectors.ensures.value ∙ c.unwrap-vectors.ensures

pub returns-in-Bend-clause-value : goal.returns-in-Bend-clause-value
returns-in-Bend-clause-value c =
    let m = c.args.m.now in
    let e = c.args.e.now in
    let own =
    bend_value m e c.node-from.result.now c.node-to.result.now c.in-Bend.r c.in-Bend.angle c.in-Bend.px c.in-Bend.py c.in-Bend.pz c.unwrap-vectors.result c.in-Bend.is
    (at_number m.nodes e.from.0 c.node-from.result.now no_node c.node-from.ensures.found) (at_number m.nodes e.to.0 c.node-to.result.now no_node c.node-to.ensures.found) (value c) in
    let three = normal_three _ _ c.unwrap-vectors.result (value c) c.index-vectors-0.result c.index-vectors-1.result c.index-vectors-2.result in
    rw three own

pub returns-in-Bend-clause-holds : goal.returns-in-Bend-clause-holds
returns-in-Bend-clause-holds c = λ n end.
    let m = c.args.m.now in
    let e = c.args.e.now in
    let v = c.unwrap-vectors.result in
    let way = way_of c.node-from.result.now c.node-to.result.now in
    let curve = curve_from c.node-from.result.now c.in-Bend.r c.in-Bend.angle c.in-Bend.px c.in-Bend.py c.in-Bend.pz in
    let within = rw (c.unwrap-vectors.ensures, known c) at c.bend_vectors.ensures.within in
    let place = rw (c.unwrap-vectors.ensures, known c) at c.bend_vectors.ensures.place in
    let own = bend_end m n end way curve v (value c) within place in
    let three = normal_three way curve v (value c) c.index-vectors-0.result c.index-vectors-1.result c.index-vectors-2.result in
    subst (λ (normal : List Ends). HoldsVectorsAlong e.shape (from_of m e) (to_of m e) (station_with m n end (with_normal v normal))) (sym three)
    (bend_holds m e c.node-from.result.now c.node-to.result.now c.in-Bend.r c.in-Bend.angle c.in-Bend.px c.in-Bend.py c.in-Bend.pz (station_with m n end (with_normal v v.normal)) c.in-Bend.is
    (at_number m.nodes e.from.0 c.node-from.result.now no_node c.node-from.ensures.found) (at_number m.nodes e.to.0 c.node-to.result.now no_node c.node-to.ensures.found) own)
