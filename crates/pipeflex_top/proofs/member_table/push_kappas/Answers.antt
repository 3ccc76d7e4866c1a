use Rattle.std.proofs.Common.{◌<◌, length, arith}
use Rattle.pipeflex_top.proofs.TableLemmas.{member_written}
use Rattle.pipeflex_top.proofs.member_table.push_kappas.Goals as goal

pub loop-member-preserved : goal.loop-member-preserved
loop-member-preserved c =
    let so_far = c.loop-member.invariant in
    let inside : c.loop-member.member-index < length c.args.members.now = omega (arith, c.requires) in
    let out = c.loop-member.out.items in
    let new = c.push_kappa.new.out.items in
    let step = c.in_ok-push_kappa.ensures.bytes in
    record {
      counted = omega arith;
      written = member_written c.args.out.now.items out new c.args.members.now c.loop-member.member-index c.loop-member.number c.member-item.result inside c.member-item.is so_far.counted so_far.written step;
    }
