use Rattle.std.proofs.Common.{◌≡◌, Ok, Some, subst}
use Rattle.sif_factors.specs.Factors.{tee_factors_of}
use Rattle.structure.specs.Elements.{no_section}
use Rattle.structure.specs.Tees.{tee_at}
use Rattle.code_stress.specs.Data.{factors_by_tee}
use Rattle.code_stress.proofs.DataLemmas.{at_number, found_tee}
use Rattle.code_stress.proofs.data.factors_at.Goals as goal

pub section-requires : goal.section-requires
section-requires c =
    let there : Some c.in-Some.tee.now ≡ tee_at c.args.m.now c.args.node.0 = rw c.tees.ensures.records at c.in-Some.ensures in
    (found_tee c.args.m.now c.args.node.0 c.in-Some.tee.now c.tees.ensures.model.kept.tees there).known.1.1.0

pub tee_factors-requires-clause-kind : goal.tee_factors-requires-clause-kind
tee_factors-requires-clause-kind c =
    let there : Some c.in-Some.tee.now ≡ tee_at c.args.m.now c.args.node.0 = rw c.tees.ensures.records at c.in-Some.ensures in
    (found_tee c.args.m.now c.args.node.0 c.in-Some.tee.now c.tees.ensures.model.kept.tees there).form

pub returns-in-Some-clause-value : goal.returns-in-Some-clause-value
returns-in-Some-clause-value c =
    let m = c.args.m.now in
    let tee = c.in-Some.tee.now in
    let there : Some tee ≡ tee_at m c.args.node.0 = rw c.tees.ensures.records at c.in-Some.ensures in
    let header = at_number m.sections tee.header.0 c.section.result.now no_section c.section.ensures.found in
    let value = subst (λ s. tee_factors_of s tee.kind ≡ Ok c.tee_factors.result) header c.tee_factors.ensures.value in
    subst (λ o. factors_by_tee m o ≡ Ok c.tee_factors.result) there value
