use Rattle.model_gen.proofs.Pieces.{row_written}
use Rattle.model_gen.proofs.rows.push_rows.Goals as goal

pub loop-i-preserved : goal.loop-i-preserved
loop-i-preserved c = row_written c.args.row c.loop-i.i c.args.out.now.items c.loop-i.out.items c.push_row.new.out.items c.loop-i.invariant c.in_ok-push_row.ensures
