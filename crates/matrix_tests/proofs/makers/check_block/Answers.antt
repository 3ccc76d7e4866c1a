use Rattle.std.proofs.Common.{arith, subst, ℕ, ◌≡◌, ◌+◌, ◌*◌, ◌%◌}
use Rattle.sym_blocks.specs.Matrix.{entry}
use Rattle.matrix_tests.specs.Entries.{IsEntry}
use Rattle.matrix_tests.proofs.makers.check_block.Goals as goal

pub returns : goal.returns
returns g c = λ j at.
    let is : 6 * c.args.node + j % 6 ≡ j = omega (arith, at) in
    let P : ℕ → Type 0 = λ k. IsEntry c.args.signed (entry c.args.matrix.now c.args.row k) in
    subst P is (c.loop-freedom.invariant (j % 6) (omega arith))
