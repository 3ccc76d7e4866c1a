use Rattle.std.proofs.Common.{rules, ◌≡◌, ap, ◌∙◌, pos, ◌≤ℤ◌, FitsSigned, to_z, of_z, to_z-of_z}
use Rattle.std.specs.Int.{w128}
use Rattle.int_laws.specs.Root.{IsRoot, IsRootUp, cube_root_of, cube_root_up_of}
use Rattle.flex_interval.specs.Ends.{Ends}
use Rattle.flex_interval.specs.Operations.{cbrt_of}
use Rattle.flex_interval.proofs.EndsLemmas.{small_fits}
use Rattle.flex_interval.proofs.RootLemmas.{shifted_nonnegative, nonnegative_above, root_is_interval, root_encloses, root_within}
use Rattle.flex_interval.proofs.cube_root.cbrt.Goals as goal

pub icbrt-requires : goal.icbrt-requires
icbrt-requires c =
    let fits : FitsSigned w128 c.cube.inside.lo = small_fits c.cube.invariant.lo_small in
    rw (to_z-of_z fits, ap (λ (e : Ends). e.lo) c.cube.view_is, c.in_ok-cube.ensures.lo) (shifted_nonnegative c.args.a.lo c.args.s c.requires.nonnegative)

pub icbrt_up-requires : goal.icbrt_up-requires
icbrt_up-requires c =
    let fits : FitsSigned w128 c.cube.inside.hi = small_fits c.cube.invariant.hi_small in
    let lower : pos 0 ≤ℤ c.cube.inside.lo = rw (ap (λ (e : Ends). e.lo) c.cube.view_is, c.in_ok-cube.ensures.lo) (shifted_nonnegative c.args.a.lo c.args.s c.requires.nonnegative) in
    rw (to_z-of_z fits) (nonnegative_above c.cube.inside.lo c.cube.inside.hi lower c.cube.invariant.ordered)

lower : (c : goal.After-icbrt_up) → IsRoot 3 c.cube.inside.lo (to_z w128 (of_z w128 c.icbrt.result))
lower c =
    let fits : FitsSigned w128 c.cube.inside.lo = small_fits c.cube.invariant.lo_small in
    let answer_fits : FitsSigned w128 c.icbrt.result = search rules in
    rw (to_z-of_z answer_fits) (rw (to_z-of_z fits) at c.icbrt.ensures.meaning)

upper : (c : goal.After-icbrt_up) → IsRootUp 3 c.cube.inside.hi (to_z w128 (of_z w128 c.icbrt_up.result))
upper c =
    let fits : FitsSigned w128 c.cube.inside.hi = small_fits c.cube.invariant.hi_small in
    let answer_fits : FitsSigned w128 c.icbrt_up.result = search rules in
    rw (to_z-of_z answer_fits) (rw (to_z-of_z fits) at c.icbrt_up.ensures.meaning)

lower_is : (c : goal.After-icbrt_up) → to_z w128 (of_z w128 c.icbrt.result) ≡ cube_root_of c.in_ok-cube.cube.lo
lower_is c =
    let fits : FitsSigned w128 c.cube.inside.lo = small_fits c.cube.invariant.lo_small in
    let answer_fits : FitsSigned w128 c.icbrt.result = search rules in
    rw (to_z-of_z answer_fits) (rw (to_z-of_z fits, ap (λ (e : Ends). e.lo) c.cube.view_is) at c.icbrt.ensures.value)

upper_is : (c : goal.After-icbrt_up) → to_z w128 (of_z w128 c.icbrt_up.result) ≡ cube_root_up_of c.in_ok-cube.cube.hi
upper_is c =
    let fits : FitsSigned w128 c.cube.inside.hi = small_fits c.cube.invariant.hi_small in
    let answer_fits : FitsSigned w128 c.icbrt_up.result = search rules in
    rw (to_z-of_z answer_fits) (rw (to_z-of_z fits, ap (λ (e : Ends). e.hi) c.cube.view_is) at c.icbrt_up.ensures.value)

pub returns-clause-value : goal.returns-clause-value
unfolding cbrt_of
returns-clause-value c = rw (lower_is c, upper_is c, ← c.in_ok-cube.ensures.value)

from_zero : (c : goal.After-icbrt_up) → pos 0 ≤ℤ c.cube.inside.lo
from_zero c = rw (ap (λ (e : Ends). e.lo) c.cube.view_is, c.in_ok-cube.ensures.lo) (shifted_nonnegative c.args.a.lo c.args.s c.requires.nonnegative)

pub invariant_of-result : goal.invariant_of-result
invariant_of-result c = root_is_interval 2 {a = record { lo = c.cube.inside.lo; hi = c.cube.inside.hi }} c.cube.invariant (from_zero c) (lower c) (upper c)

pub returns-clause-encloses : goal.returns-clause-encloses
returns-clause-encloses c =
    root_encloses 3 c.args.a c.args.s (invariant_of-result c).ordered
    (ap (λ (e : Ends). e.lo) c.cube.view_is ∙ c.in_ok-cube.ensures.lo) (ap (λ (e : Ends). e.hi) c.cube.view_is ∙ c.in_ok-cube.ensures.hi)
    (lower c) (upper c)

pub returns-clause-within : goal.returns-clause-within
returns-clause-within c = λ y number within. root_within 2 c.args.a _ c.args.s y (returns-clause-encloses c) number within
