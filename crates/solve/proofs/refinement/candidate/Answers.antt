use Rattle.std.proofs.Common.{◌≡◌, List, ℕ, ◌++◌, length, take, sym, subst, arith, ℤ}
use Rattle.std.proofs.lemmas.Grind.{common_steps}
use Rattle.solve.specs.Refinement.{problem, IsCandidate}
use Rattle.solve.proofs.refinement.candidate.Goals as goal
use Rattle.factor_data.specs.Columns.{factor_entry}
use Rattle.member_set.specs.Members.{system}

-- a vector that is written as a whole has what was written
written : (xs ys : List ℤ) (n : ℕ) → n ≡ length xs → take n (xs ++ ys) ≡ xs
written xs ys n e = grind (arith, common_steps)

pub returns-clause-ok : goal.returns-clause-ok
returns-clause-ok c =
    let len : c.in_ok-u.u.len ≡ length c.refine.new.u = omega (arith, c.refine.auto.u, c.deref_mut.ensures.len, c.in_ok-u.ensures.len) in
    subst (λ (xs : List ℤ). IsCandidate (problem (system c.args.b.now c.args.laws.now c.args.loads.now) c.args.closed.now c.args.f.now.order (factor_entry c.args.f.now)) xs)
    (sym (written c.refine.new.u _ c.in_ok-u.u.len len)) c.in_ok-refine.ensures.candidate
