use Rattle.std.proofs.Common.{rules, ◌≡◌, ap, ◌∙◌, pos, ◌≤ℤ◌, FitsSigned, to_z, of_z, to_z-of_z}
use Rattle.std.specs.Int.{w128}
use Rattle.int_laws.specs.Root.{IsRoot, IsRootUp, root_of, root_up_of}
use Rattle.flex_interval.specs.Ends.{Ends}
use Rattle.flex_interval.specs.Operations.{sqrt_of}
use Rattle.flex_interval.proofs.EndsLemmas.{small_fits}
use Rattle.flex_interval.proofs.RootLemmas.{shifted_nonnegative, nonnegative_above, root_is_interval, root_encloses, root_within}
use Rattle.flex_interval.proofs.square_root.root.Goals as goal

pub isqrt-requires : goal.isqrt-requires
isqrt-requires c =
    let fits : FitsSigned w128 c.square.inside.lo = small_fits c.square.invariant.lo_small in
    rw (to_z-of_z fits, ap (λ (e : Ends). e.lo) c.square.view_is, c.in_ok-square.ensures.lo) (shifted_nonnegative c.args.a.lo c.args.s c.requires.nonnegative)

pub isqrt_up-requires : goal.isqrt_up-requires
isqrt_up-requires c =
    let fits : FitsSigned w128 c.square.inside.hi = small_fits c.square.invariant.hi_small in
    let lower : pos 0 ≤ℤ c.square.inside.lo = rw (ap (λ (e : Ends). e.lo) c.square.view_is, c.in_ok-square.ensures.lo) (shifted_nonnegative c.args.a.lo c.args.s c.requires.nonnegative) in
    rw (to_z-of_z fits) (nonnegative_above c.square.inside.lo c.square.inside.hi lower c.square.invariant.ordered)

lower : (c : goal.After-isqrt_up) → IsRoot 2 c.square.inside.lo (to_z w128 (of_z w128 c.isqrt.result))
lower c =
    let fits : FitsSigned w128 c.square.inside.lo = small_fits c.square.invariant.lo_small in
    let answer_fits : FitsSigned w128 c.isqrt.result = search rules in
    rw (to_z-of_z answer_fits) (rw (to_z-of_z fits) at c.isqrt.ensures.meaning)

upper : (c : goal.After-isqrt_up) → IsRootUp 2 c.square.inside.hi (to_z w128 (of_z w128 c.isqrt_up.result))
upper c =
    let fits : FitsSigned w128 c.square.inside.hi = small_fits c.square.invariant.hi_small in
    let answer_fits : FitsSigned w128 c.isqrt_up.result = search rules in
    rw (to_z-of_z answer_fits) (rw (to_z-of_z fits) at c.isqrt_up.ensures.meaning)

lower_is : (c : goal.After-isqrt_up) → to_z w128 (of_z w128 c.isqrt.result) ≡ root_of c.in_ok-square.square.lo
lower_is c =
    let fits : FitsSigned w128 c.square.inside.lo = small_fits c.square.invariant.lo_small in
    let answer_fits : FitsSigned w128 c.isqrt.result = search rules in
    rw (to_z-of_z answer_fits) (rw (to_z-of_z fits, ap (λ (e : Ends). e.lo) c.square.view_is) at c.isqrt.ensures.value)

upper_is : (c : goal.After-isqrt_up) → to_z w128 (of_z w128 c.isqrt_up.result) ≡ root_up_of c.in_ok-square.square.hi
upper_is c =
    let fits : FitsSigned w128 c.square.inside.hi = small_fits c.square.invariant.hi_small in
    let answer_fits : FitsSigned w128 c.isqrt_up.result = search rules in
    rw (to_z-of_z answer_fits) (rw (to_z-of_z fits, ap (λ (e : Ends). e.hi) c.square.view_is) at c.isqrt_up.ensures.value)

pub returns-clause-value : goal.returns-clause-value
unfolding sqrt_of
returns-clause-value c = rw (lower_is c, upper_is c, ← c.in_ok-square.ensures.value)

from_zero : (c : goal.After-isqrt_up) → pos 0 ≤ℤ c.square.inside.lo
from_zero c = rw (ap (λ (e : Ends). e.lo) c.square.view_is, c.in_ok-square.ensures.lo) (shifted_nonnegative c.args.a.lo c.args.s c.requires.nonnegative)

pub invariant_of-result : goal.invariant_of-result
invariant_of-result c = root_is_interval 1 {a = record { lo = c.square.inside.lo; hi = c.square.inside.hi }} c.square.invariant (from_zero c) (lower c) (upper c)

pub returns-clause-encloses : goal.returns-clause-encloses
returns-clause-encloses c =
    root_encloses 2 c.args.a c.args.s (invariant_of-result c).ordered
    (ap (λ (e : Ends). e.lo) c.square.view_is ∙ c.in_ok-square.ensures.lo) (ap (λ (e : Ends). e.hi) c.square.view_is ∙ c.in_ok-square.ensures.hi)
    (lower c) (upper c)

pub returns-clause-within : goal.returns-clause-within
returns-clause-within c = λ y number within. root_within 1 c.args.a _ c.args.s y (returns-clause-encloses c) number within
