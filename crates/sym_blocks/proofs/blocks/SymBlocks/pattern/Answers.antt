use Rattle.std.proofs.Common.{subst}
use Rattle.sym_blocks.specs.Matrix.{IsSymmetricByBlocks}
use Rattle.sym_blocks.proofs.StorageLemmas.{IsSymmetricByBlocks-stored_matrix}
use Rattle.sym_blocks.proofs.blocks.SymBlocks.pattern.Goals as goal

pub returns-in-Some-clause-kept : goal.returns-in-Some-clause-kept
returns-in-Some-clause-kept c = subst IsSymmetricByBlocks c.self.view_is (IsSymmetricByBlocks-stored_matrix _ _ c.self.invariant)

pub returns-in-None-clause-kept : goal.returns-in-None-clause-kept
returns-in-None-clause-kept c = subst IsSymmetricByBlocks c.self.view_is (IsSymmetricByBlocks-stored_matrix _ _ c.self.invariant)
