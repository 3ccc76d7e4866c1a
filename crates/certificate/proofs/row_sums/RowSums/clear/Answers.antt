use Rattle.std.proofs.Common.{refl, ◌∙◌}
use Rattle.std.proofs.Math.ListN.{length-set}
use Rattle.certificate.proofs.RowSumLemmas.{tracked-popped}
use Rattle.certificate.proofs.row_sums.RowSums.clear.Goals as goal

pub loop-at-preserved : goal.loop-at-preserved
loop-at-preserved c =
    record {
      tracked = (tracked-popped c.loop-at.self-inside.sums.items _ _ _ _ c.in-Some.at _ c.loop-at.invariant.tracked c.in-Some.ensures.items c.in-Some.ensures.capacity refl).1;
      same = length-set c.loop-at.self-inside.sums.items c.in-Some.at _ ∙ c.loop-at.invariant.same;
    }
