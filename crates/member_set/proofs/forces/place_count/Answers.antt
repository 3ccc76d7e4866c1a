use Rattle.std.proofs.Common.{arith, ◌≡◌, true, nat_eq, ap, sym, cond}
use Rattle.member_set.proofs.forces.place_count.Goals as goal

pub returns-then-m : goal.returns-then-m
returns-then-m c =
    let same : nat_eq c.args.m.now.n1 c.args.m.now.n2 ≡ true = grind (arith, c.if-m.true) in
    ap (λ b. cond b 6 12) (sym same)
