use Rattle.std.proofs.Common.{sym, ◌∙◌}
use Rattle.load_vectors.proofs.Sizes.{IsOk-sum, sum_size}
use Rattle.load_vectors.proofs.adding.sum.Goals as goal

pub unwrap-requires : goal.unwrap-requires
unwrap-requires c = rw c.add.ensures.value (IsOk-sum c.args.total c.args.part c.requires.room c.requires.part)

pub returns-clause-size : goal.returns-clause-size
returns-clause-size c = λ n size.
    sum_size n c.args.total c.args.part c.unwrap.result c.requires.room size c.requires.part (sym c.add.ensures.value ∙ c.unwrap.ensures)
