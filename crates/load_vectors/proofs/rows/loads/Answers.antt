use Rattle.std.proofs.Common.{◌≡◌, ◌*◌, length, arith, sym, ◌∙◌}
use Rattle.std.proofs.lemmas.Result.{err_from_is_err_and}
use Rattle.load_vectors.specs.declared.fault.LoadFault.TheVariants as faults
use Rattle.load_vectors.proofs.RowLemmas.{are_loads, enclose_loads, first_wide_load, same_fault}
use Rattle.load_vectors.proofs.rows.loads.Goals as goal

pub test_limit-requires : goal.test_limit-requires
test_limit-requires c =
    let count : length c.in_ok-loads.loads.items ≡ 6 * length c.args.m.now.nodes = c.in_ok-loads.ensures.one_each in
    rw c.deref.ensures.value (omega (arith, count, c.nodes-nodes.ensures.model.few.nodes))

pub returns-in_err-test_limit-clause-wide : goal.returns-in_err-test_limit-clause-wide
returns-in_err-test_limit-clause-wide c = λ row is.
    let p = err_from_is_err_and c.from_residual-in_err-test_limit.result c.from_residual-in_err-test_limit.ensures.1 in
    let fault = sym p.2 ∙ same_fault c.from_residual-in_err-test_limit.result p.0 (faults.Wide row) p.1 is in
    let first = rw c.deref.ensures.value at (c.test_limit.ensures.wide row (rw fault at c.in_err-test_limit.was)) in
    first_wide_load c.args.m.now c.args.case.0 row c.in_ok-loads.loads.items c.in_ok-loads.ensures first

pub returns-clause-loads : goal.returns-clause-loads
returns-clause-loads c = are_loads c.args.m.now c.args.case.0 c.in_ok-loads.loads.items c.in_ok-loads.ensures (rw c.deref.ensures.value at c.in_ok-test_limit.ensures.limited)

pub returns-clause-within : goal.returns-clause-within
returns-clause-within c = enclose_loads c.args.m.now c.args.case.0 c.in_ok-loads.loads.items c.in_ok-loads.ensures
