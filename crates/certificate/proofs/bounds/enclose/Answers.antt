use Rattle.std.proofs.Common.{◌≡◌, ◌∙◌, List, ℕ, ◌++◌, length, take, arith, to_z-of_z}
use Rattle.std.proofs.lemmas.Grind.{common_steps}
use Rattle.std.proofs.lemmas.Result.{err_from_is_err_and}
use Rattle.certificate.proofs.StatesGiven.{states_given, fault_given}
use Rattle.certificate.proofs.bounds.enclose.Goals as goal

-- a list that is written as a whole has what was written
written : {X : Type 0} (xs ys : List X) (n : ℕ) → n ≡ length xs → take n (xs ++ ys) ≡ xs
written xs ys n e = grind (arith, common_steps)

pub returns-in_err-put_enclosure-clause-fault : goal.returns-in_err-put_enclosure-clause-fault
returns-in_err-put_enclosure-clause-fault c =
    let p = err_from_is_err_and c.from_residual-in_err-put_enclosure.result c.from_residual-in_err-put_enclosure.ensures.1 in
    rw (p.1, p.2) (rw (to_z-of_z c.ranges.lambda) at c.in_err-put_enclosure.ensures.fault)

pub returns-clause-bounds : goal.returns-clause-bounds
returns-clause-bounds c =
    let u_len : c.in_ok-displacements.displacements.len ≡ length c.put_enclosure.new.displacements = omega (arith, c.put_enclosure.auto.displacements, c.deref_mut.ensures.len, c.in_ok-displacements.ensures.len) in
    let force_len : c.in_ok-forces.forces.len ≡ length c.put_enclosure.new.forces = omega (arith, c.put_enclosure.auto.forces, c.deref_mut-2.ensures.len, c.in_ok-forces.ensures.len) in
    let closed_len : c.in_ok-closed.closed.len ≡ length c.put_enclosure.new.closed = omega (arith, c.put_enclosure.auto.closed, c.deref_mut-4.ensures.len, c.in_ok-closed.ensures.len) in
    let u_is : c.new.result ≡ c.put_enclosure.new.displacements = c.new.ensures ∙ written c.put_enclosure.new.displacements _ c.in_ok-displacements.displacements.len u_len in
    let force_is : c.new-2.result ≡ c.put_enclosure.new.forces = c.new-2.ensures ∙ written c.put_enclosure.new.forces _ c.in_ok-forces.forces.len force_len in
    let closed_is : c.new-3.result ≡ c.put_enclosure.new.closed = c.new-3.ensures ∙ written c.put_enclosure.new.closed _ c.in_ok-closed.closed.len closed_len in
    let bounds = rw (to_z-of_z c.ranges.lambda) at c.in_ok-put_enclosure.ensures.bounds in
    rw (u_is, force_is, closed_is) bounds

pub returns-clause-given : goal.returns-clause-given
returns-clause-given c = states_given _ c.args.u.now c.args.lambda _ (returns-clause-bounds c)

pub returns-in_err-put_enclosure-clause-given : goal.returns-in_err-put_enclosure-clause-given
returns-in_err-put_enclosure-clause-given c =
    let p = err_from_is_err_and c.from_residual-in_err-put_enclosure.result c.from_residual-in_err-put_enclosure.ensures.1 in
    rw (p.1, p.2) (fault_given _ c.args.u.now c.args.lambda c.in_err-put_enclosure.field-0.0 (rw (to_z-of_z c.ranges.lambda) at c.in_err-put_enclosure.ensures.fault))
