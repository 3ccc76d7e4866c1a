use Rattle.std.proofs.Common.{◌≡◌, ◌<◌, ◌/◌, arith}
use Rattle.std.proofs.lemmas.Grind.{common_steps}
use Rattle.member_set.specs.Members.{members_at, built_nodes}
use Rattle.member_set.proofs.Touching.{numbers_in_range, resistance_by_node}
use Rattle.member_set.proofs.residuals.members_at.Goals as goal

pub returns-clause-in_range : goal.returns-clause-in_range
returns-clause-in_range c =
    let numbers : c.as_slice-2.result.now ≡ members_at c.args.b.now (c.args.row / 6) = grind (arith, common_steps) in
    let inside : c.args.row / 6 < built_nodes c.args.b.now = omega arith in
    rw numbers (λ t below. numbers_in_range c.args.b.now c.requires.built (c.args.row / 6) t inside below)

pub returns-clause-sums : goal.returns-clause-sums
returns-clause-sums c = λ weight force none.
    let numbers : c.as_slice-2.result.now ≡ members_at c.args.b.now (c.args.row / 6) = grind (arith, common_steps) in
    let inside : c.args.row / 6 < built_nodes c.args.b.now = omega arith in
    rw numbers (resistance_by_node c.args.b.now c.requires.built c.args.row weight force inside none)
