use Rattle.std.proofs.Common.{arith}
use Rattle.int_laws.proofs.Sums.{int_sums}
use Rattle.assembly.proofs.filling.put.Goals as goal

pub overflow_sub-change : goal.overflow_sub-change
overflow_sub-change c =
    let small = c.get.ensures.kept.small c.args.row c.args.col in
    omega (arith, int_sums, small, c.get.ensures.value, c.requires.small)

pub add-requires-clause-small : goal.add-requires-clause-small
add-requires-clause-small c =
    let small = c.get.ensures.kept.small c.args.row c.args.col in
    omega (arith, int_sums, small, c.get.ensures.value, c.requires.small)

pub returns : goal.returns
returns c =
    let small = c.get.ensures.kept.small c.args.row c.args.col in
    record {
      pattern = c.add.ensures.added.pattern;
      place = omega (arith, int_sums, small, c.get.ensures.value, c.requires.small, c.add.ensures.added.place);
      others = c.add.ensures.added.others;
    }
