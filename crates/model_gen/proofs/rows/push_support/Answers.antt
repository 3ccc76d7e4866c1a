use Rattle.model_gen.proofs.Pieces.{support_written}
use Rattle.model_gen.proofs.rows.push_support.Goals as goal

pub returns : goal.returns
returns c = support_written c.args.out.now.items c.push_numbered.new.out.items c.push_numbered-2.new.out.items c.extend_from_slice.new.self.items c.args.i c.in_ok-push_numbered.ensures c.in_ok-push_numbered-2.ensures c.in_ok-extend_from_slice.ensures.items
