use Rattle.std.proofs.Common.{ℕ, List}
use Rattle.std.proofs.lemmas.Result.{IfOk-weaker}
use Rattle.flex_interval.specs.Ends.{Ends}
use Rattle.flex_interval.specs.Fraction.{Fraction}
use Rattle.load_vectors.specs.Equilibria.{HoldForcesAlways}
use Rattle.load_vectors.specs.Laws.{laws_of}
use Rattle.load_vectors.specs.NodeLoads.{weight_load}
use Rattle.member_set.specs.Realisation.{pull_fraction}
use Rattle.structure.specs.Elements.{element_at}
use Rattle.code_stress.specs.Actions.{EncloseParts, exact_hold, place}
use Rattle.code_stress.specs.Meaning.{EnclosesAction, InCase, exact_range}
use Rattle.code_stress.proofs.ActionLemmas.{stiffness_of_both}
use Rattle.code_stress.proofs.actions.action.Goals as goal

pub returns-clause-holds : goal.returns-clause-holds
returns-clause-holds c =
    let m = c.args.m.now in
    let case = c.args.case.0 in
    let forces = c.args.forces.now in
    let p = place c.args.s.now.element c.args.s.now.end in
    let held = c.in_ok-held.held in
    IfOk-weaker c.difference.result
    (λ (f : List Ends). (x y : ℕ → Fraction) → EncloseParts held x → EncloseParts c.end_load.result y → EnclosesAction f (exact_range x y))
    (λ (f : List Ends). HoldForcesAlways m case forces → InCase m case p (EnclosesAction f))
    (λ f within always b loads r u structure are real equilibrium x reading.
    within
    (λ k. pull_fraction r.stiffness.denominator (exact_hold m r u p k))
    (λ k. (weight_load m case (element_at m p.element) p.at_to).exact x k)
    (c.in_ok-held.ensures.within (laws_of m case) r u (stiffness_of_both m c.args.b.now b (laws_of m case) r.stiffness c.requires.structure structure real.stiffness)
    (always b loads r u structure are real equilibrium))
    (λ k below. c.end_load.ensures.within x reading k below))
    c.difference.ensures.within
