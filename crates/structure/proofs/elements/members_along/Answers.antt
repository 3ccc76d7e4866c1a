use Rattle.std.proofs.Common.{subst, ◌∙◌}
use Rattle.std.proofs.lemmas.Result.{err_from_is_err_and}
use Rattle.model_types.specs.Ranges.{ShapeInForm}
use Rattle.model_types.specs.Rules.{IsShapeSpan}
use Rattle.structure.proofs.CurveLemmas.{bend_along, bend_held, curve_known, curve_runs, straight_held}
use Rattle.structure.proofs.elements.members_along.Goals as goal

pub returns-in_ok-members-in-Straight-clause-limits : goal.returns-in_ok-members-in-Straight-clause-limits
returns-in_ok-members-in-Straight-clause-limits c = rw c.eight.ensures c.in_ok-members-in-Straight.ensures.limits

pub returns-in_ok-members-in-Straight-clause-holds : goal.returns-in_ok-members-in-Straight-clause-holds
returns-in_ok-members-in-Straight-clause-holds c =
    let holds =
    straight_held c.args.e.now c.args.from.now c.args.to.now c.args.s.now c.args.m.now c.in_ok-members-in-Straight.members c.in-Straight.is c.in_ok-members-in-Straight.ensures.within in
    rw c.eight.ensures holds

-- ---- a bend

pub bend-requires-clause-curve : goal.bend-requires-clause-curve
bend-requires-clause-curve c =
    let form = subst ShapeInForm c.in-Bend.is c.requires.form in
    let span = subst (IsShapeSpan c.args.from.now c.args.to.now c.args.s.now) c.in-Bend.is c.requires.shape in
    let known = curve_known c.args.from.now c.curve_from-curve.result c.in-Bend.r c.in-Bend.angle c.in-Bend.px c.in-Bend.py c.in-Bend.pz form c.curve_from-curve.ensures in
    (curve_runs c.args.from.now c.args.to.now c.args.s.now c.curve_from-curve.result c.in-Bend.r c.in-Bend.angle c.in-Bend.px c.in-Bend.py c.in-Bend.pz
    c.bend_spans_are_curves.ensures form span known).0

pub bend-requires-clause-off_line : goal.bend-requires-clause-off_line
bend-requires-clause-off_line c =
    let form = subst ShapeInForm c.in-Bend.is c.requires.form in
    let span = subst (IsShapeSpan c.args.from.now c.args.to.now c.args.s.now) c.in-Bend.is c.requires.shape in
    let known = curve_known c.args.from.now c.curve_from-curve.result c.in-Bend.r c.in-Bend.angle c.in-Bend.px c.in-Bend.py c.in-Bend.pz form c.curve_from-curve.ensures in
    (curve_runs c.args.from.now c.args.to.now c.args.s.now c.curve_from-curve.result c.in-Bend.r c.in-Bend.angle c.in-Bend.px c.in-Bend.py c.in-Bend.pz
    c.bend_spans_are_curves.ensures form span known).1

pub returns-in_err-members-in-Bend-clause-value : goal.returns-in_err-members-in-Bend-clause-value
returns-in_err-members-in-Bend-clause-value c =
    let known = curve_known c.args.from.now c.curve_from-curve.result c.in-Bend.r c.in-Bend.angle c.in-Bend.px c.in-Bend.py c.in-Bend.pz (subst ShapeInForm c.in-Bend.is c.requires.form) c.curve_from-curve.ensures in
    let own =
    bend_along c.args.e.now c.args.from.now c.args.to.now c.args.s.now c.args.m.now c.curve_from-curve.result c.in-Bend.r c.in-Bend.angle c.in-Bend.px c.in-Bend.py c.in-Bend.pz c.in-Bend.is known in
    let value = c.in_err-members-in-Bend.ensures.value ∙ own in
    let p = err_from_is_err_and c.from_residual-in_err-members-in-Bend.result c.from_residual-in_err-members-in-Bend.ensures.1 in
    rw (p.1, p.2) value

pub returns-in_ok-members-in-Bend-clause-value : goal.returns-in_ok-members-in-Bend-clause-value
returns-in_ok-members-in-Bend-clause-value c =
    let known = curve_known c.args.from.now c.curve_from-curve.result c.in-Bend.r c.in-Bend.angle c.in-Bend.px c.in-Bend.py c.in-Bend.pz (subst ShapeInForm c.in-Bend.is c.requires.form) c.curve_from-curve.ensures in
    let own =
    bend_along c.args.e.now c.args.from.now c.args.to.now c.args.s.now c.args.m.now c.curve_from-curve.result c.in-Bend.r c.in-Bend.angle c.in-Bend.px c.in-Bend.py c.in-Bend.pz c.in-Bend.is known in
    let value = c.in_ok-members-in-Bend.ensures.value ∙ own in
    rw c.six.ensures value

pub returns-in_ok-members-in-Bend-clause-limits : goal.returns-in_ok-members-in-Bend-clause-limits
returns-in_ok-members-in-Bend-clause-limits c = rw c.six.ensures c.in_ok-members-in-Bend.ensures.limits

pub returns-in_ok-members-in-Bend-clause-holds : goal.returns-in_ok-members-in-Bend-clause-holds
returns-in_ok-members-in-Bend-clause-holds c =
    let known = curve_known c.args.from.now c.curve_from-curve.result c.in-Bend.r c.in-Bend.angle c.in-Bend.px c.in-Bend.py c.in-Bend.pz (subst ShapeInForm c.in-Bend.is c.requires.form) c.curve_from-curve.ensures in
    let bend = c.in_ok-members-in-Bend.ensures in
    let holds =
    bend_held c.args.e.now c.args.from.now c.args.to.now c.args.s.now c.args.m.now c.curve_from-curve.result c.in-Bend.r c.in-Bend.angle c.in-Bend.px c.in-Bend.py c.in-Bend.pz c.in_ok-members-in-Bend.members c.in-Bend.is known
    (record { within = bend.within; exact = bend.exact; some = bend.some }) in
    rw c.six.ensures holds
