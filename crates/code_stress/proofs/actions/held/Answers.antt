use Rattle.std.proofs.Common.{◌≡◌, ℕ, ◌+◌, List, length, Result, arith, ap, subst}
use Rattle.std.specs.Result.{IfOk}
use Rattle.flex_interval.specs.Ends.{Ends}
use Rattle.flex_interval.specs.Fraction.{Within}
use Rattle.flex_interval.specs.declared.fault.IvFault.{IvFault}
use Rattle.int_laws.specs.Matrices.{Vector}
use Rattle.member_set.specs.Realisation.{Realisation, IsStiffnessOf, HoldForces, pull_fraction}
use Rattle.member_set.specs.declared.members.Built.{Built}
use Rattle.member_set.specs.declared.members.Law.{Law}
use Rattle.member_set.specs.declared.members.Station.{Station}
use Rattle.model_types.specs.MemberCounts.{restraints_member_count, shape_member_count}
use Rattle.structure.specs.Elements.{element_at, member_count_below}
use Rattle.code_stress.specs.Actions.{count_at, exact_held, first_at, place, row_at}
use Rattle.code_stress.proofs.ActionLemmas.{count_rises}
use Rattle.code_stress.proofs.actions.held.Goals as goal

pub sum_held-requires-clause-members : goal.sum_held-requires-clause-members
sum_held-requires-clause-members c =
    let m = c.args.m.now in
    let b = c.args.b.now in
    let s = c.args.s.now in
    let first : s.first ≡ member_count_below m s.element = ap (λ (t : Station). t.first) c.requires.station.is_so in
    let count : s.count ≡ shape_member_count (element_at m s.element).shape = ap (λ (t : Station). t.count) c.requires.station.is_so in
    let rises = count_rises m s.element (length m.elements) c.requires.station.there in
    let total : length b.members ≡ member_count_below m (length m.elements) + restraints_member_count m.restraints = c.models_have_their_members.ensures m b.members c.requires.structure.members in
    omega (arith, first, count, rises, total)

-- what an interval that is found holds, in every equilibrium
abbrev Holds : Built → List Ends → Result Ends IvFault → ℕ → ℕ → ℕ → Type 0
Holds b forces found first count row =
    IfOk found (λ e. (laws : List Law) (r : Realisation) (u : Vector) → IsStiffnessOf b laws r.stiffness → HoldForces r u forces →
    Within e (pull_fraction r.stiffness.denominator (exact_held r u first count row)))

pub returns-clause-within : goal.returns-clause-within
returns-clause-within c =
    let m = c.args.m.now in
    let b = c.args.b.now in
    let forces = c.args.forces.now in
    let s = c.args.s.now in
    let p = place s.element s.end in
    let first : s.first ≡ first_at m p = ap (λ (t : Station). t.first) c.requires.station.is_so in
    let count : s.count ≡ count_at m p = ap (λ (t : Station). t.count) c.requires.station.is_so in
    let by_row = subst (λ row. Holds b forces c.sum_held.result s.first s.count row) c.row_at.ensures c.sum_held.ensures.within in
    let by_first = subst (λ n. Holds b forces c.sum_held.result n s.count (row_at m p c.args.freedom)) first by_row in
    subst (λ n. Holds b forces c.sum_held.result (first_at m p) n (row_at m p c.args.freedom)) count by_first
