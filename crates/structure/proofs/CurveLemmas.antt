-- The curve of a bend's record.
use Rattle.std.proofs.Common.{◌≡◌, ℕ, ℤ, List, arith, subst, sym, ap, ◌∙◌, FitsSigned, to_z, of_z, to_z-of_z}
use Rattle.std.proofs.lemmas.Int.{ints}
use Rattle.std.specs.Int.{w64}
use Rattle.model_types.specs.Bends.{difference_to}
use Rattle.model_types.specs.Ranges.{BendInForm}
use Rattle.model_types.specs.Rules.{IsBendSpan}
use Rattle.model_types.specs.declared.records.Element.{Element}
use Rattle.model_types.specs.declared.records.Material.{Material}
use Rattle.model_types.specs.declared.records.Node.{Node}
use Rattle.model_types.specs.declared.records.Shape.{Shape}
use Rattle.model_types.specs.declared.records.Shape.TheVariants.{Straight, Bend}
use Rattle.member_set.specs.declared.members.Member.{Member}
use Rattle.member_pairs.specs.Tubes.{tube_of}
use Rattle.model_types.specs.declared.records.Section.{Section}
use Rattle.member_pairs.specs.Vectors.{way_of}
use Rattle.bend_element.specs.Between.{BendSpansAreCurves, IsCurve, IsOffLine, bend_of, curve_from}
use Rattle.bend_element.specs.declared.between.Curve.{Curve}
use Rattle.structure.specs.Elements.{members_along}
use Rattle.structure.specs.Enclosure.{HoldsAlong, HoldsBend}

-- a curve of numbers in range, as the code has them
pub curve_known : (from : Node) (curve : Curve) (r : ℤ) (angle : ℕ) (x y z : ℤ) → BendInForm r angle x y z →
    curve ≡ curve_from from (to_z w64 (of_z w64 r)) angle (to_z w64 (of_z w64 x)) (to_z w64 (of_z w64 y)) (to_z w64 (of_z w64 z)) → curve ≡ curve_from from r angle x y z
curve_known from curve r angle x y z form is =
    let r_fits : FitsSigned w64 r = omega (arith, ints, form.radius.least, form.radius.most) in
    let x_fits : FitsSigned w64 x = omega (arith, ints, form.x.least, form.x.most) in
    let y_fits : FitsSigned w64 y = omega (arith, ints, form.y.least, form.y.most) in
    let z_fits : FitsSigned w64 z = omega (arith, ints, form.z.least, form.z.most) in
    rw (to_z-of_z r_fits, to_z-of_z x_fits, to_z-of_z y_fits, to_z-of_z z_fits) at is

-- it leaves room for the pipe, and its corner is near and off the line of the chord
pub curve_runs : (from to : Node) (s : Section) (curve : Curve) (r : ℤ) (angle : ℕ) (x y z : ℤ) → BendSpansAreCurves → BendInForm r angle x y z →
    IsBendSpan from to s r angle (difference_to from x y z) → curve ≡ curve_from from r angle x y z → IsCurve s curve × IsOffLine (way_of from to) curve.corner
curve_runs from to s curve r angle x y z law form span is =
    subst (λ (c : Curve). IsCurve s c × IsOffLine (way_of from to) c.corner) (sym is) (law from to s r angle x y z form span)

-- its members are the element's
pub bend_along : (e : Element) (from to : Node) (s : Section) (m : Material) (curve : Curve) (r : ℤ) (angle : ℕ) (x y z : ℤ) → e.shape ≡ Bend r angle x y z → curve ≡ curve_from from r angle x y z →
    bend_of e (tube_of s m) s (way_of from to) curve ≡ members_along e.shape e from to s m
bend_along e from to s m curve r angle x y z shape is =
    ap (λ (c : Curve). bend_of e (tube_of s m) s (way_of from to) c) is ∙ ap (λ (t : Shape). members_along t e from to s m) (sym shape)

pub bend_held : (e : Element) (from to : Node) (s : Section) (m : Material) (curve : Curve) (r : ℤ) (angle : ℕ) (x y z : ℤ) (members : List Member) → e.shape ≡ Bend r angle x y z →
    curve ≡ curve_from from r angle x y z → HoldsBend s m (way_of from to) curve members → HoldsAlong e.shape from to s m members
bend_held e from to s m curve r angle x y z members shape is holds =
    let here : HoldsAlong (Bend r angle x y z) from to s m members = subst (λ (c : Curve). HoldsBend s m (way_of from to) c members) is holds in
    subst (λ (t : Shape). HoldsAlong t from to s m members) (sym shape) here

pub straight_held : (e : Element) (from to : Node) (s : Section) (m : Material) (members : List Member) → e.shape ≡ Straight → HoldsAlong Straight from to s m members →
    HoldsAlong e.shape from to s m members
straight_held e from to s m members shape holds = subst (λ (t : Shape). HoldsAlong t from to s m members) (sym shape) holds
