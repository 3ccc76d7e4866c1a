use Rattle.std.proofs.Common.{rules, ◌≤ℤ◌, ℤ, pos, ◌≡◌, Ok, refl, subst, arith, FitsSigned, to_z-of_z}
use Rattle.std.proofs.lemmas.Int.{ints}
use Rattle.std.specs.Int.{w64}
use Rattle.flex_interval.specs.Fraction.{Fraction, Within, scaled}
use Rattle.sif_factors.specs.Characteristic.{bend_characteristic}
use Rattle.sif_factors.specs.Factors.{flexibility_factor}
use Rattle.bend_element.specs.Arcs.{ExactArc, EnclosesArc}
use Rattle.bend_element.specs.Between.{arc_of}
use Rattle.bend_element.specs.declared.arc.Arc.{Arc}
use Rattle.angle_table.specs.Pi.{pi_ends}
use Rattle.bend_element.proofs.SomeWithin.{lower_within}
use Rattle.bend_element.proofs.between.arc_along.Goals as goal

fits : (c : goal.After-result-1) → FitsSigned w64 c.args.curve.now.radius
fits c = let range = c.requires.curve.radius.range in omega (arith, ints, range.least, range.most)

abbrev arc : goal.After-result-1 → Arc
arc c = record { radius = c.args.curve.now.radius; a = c.half-half.result.a; sin = c.half-half.result.sin; cos = c.half-half.result.cos; k = c.bend_factors-factors.result.k }

value : (c : goal.After-result-1) → arc_of c.args.s.now c.args.curve.now ≡ Ok (arc c)
unfolding arc_of
value c =
    let factors = rw (to_z-of_z (fits c)) at c.bend_factors-factors.ensures.value in
    rw (c.half-half.ensures.value.a, c.half-half.ensures.value.sin, c.half-half.ensures.value.cos, factors) refl

pub returns-clause-value : goal.returns-clause-value
returns-clause-value c = rw (to_z-of_z (fits c)) (value c)

pub returns-clause-exact : goal.returns-clause-exact
returns-clause-exact c = λ x pi in_pi exact.
    let flexibility = rw (to_z-of_z (fits c)) at c.bend_factors-factors.ensures.flexibility in
    rw (value c)
    (record {
      radius = exact.radius;
      a = subst (Within c.half-half.result.a) exact.a (c.half-half.ensures.encloses.arc pi in_pi);
      sin = rw c.half-half.ensures.value.sin at exact.sin;
      cos = rw c.half-half.ensures.value.cos at exact.cos;
      k = subst (Within c.bend_factors-factors.result.k) exact.k flexibility;
    })

abbrev lower : ℤ → Fraction
lower z = record { num = z; den = pos 1 }

-- an arc within
some : (c : goal.After-result-1) → (x : ExactArc) × EnclosesArc (arc c) x
some c =
    let half = c.half-half.result in
    let sin : half.sin.lo ≤ℤ half.sin.hi = search rules in
    let cos : half.cos.lo ≤ℤ half.cos.hi = search rules in
    let pi = lower_within pi_ends (omega (arith, ints)) in
    let r = c.args.curve.now.radius in
    let flexibility = rw (to_z-of_z (fits c)) at c.bend_factors-factors.ensures.flexibility in (
      record {
        radius = r;
        a = scaled (lower pi_ends.lo) (pos c.args.curve.now.angle) (pos 360000);
        sin = lower half.sin.lo;
        cos = lower half.cos.lo;
        k = flexibility_factor (bend_characteristic c.args.s.now r);
      },
      record { radius = refl; a = c.half-half.ensures.encloses.arc (lower pi_ends.lo) pi; sin = lower_within half.sin sin; cos = lower_within half.cos cos; k = flexibility },
    )

pub returns-clause-some : goal.returns-clause-some
returns-clause-some c = rw (to_z-of_z (fits c)) (some c)
