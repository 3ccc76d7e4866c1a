use Rattle.model_text.specs.Rows.{words_of}
use Rattle.model_text.proofs.Appended.{append_record}
use Rattle.model_text.proofs.writer.put_all.Goals as goal

pub loop-r-preserved : goal.loop-r-preserved
loop-r-preserved g c =
    append_record (λ x. words_of c.args.model.now (g.T.Lined.as_record x)) c.args.records.now c.loop-r.r-index c.loop-r-test.true c.r-item.result c.r-item.result c.r-item.is c.args.out.now.items c.loop-r.out.items c.put.new.out.items
    c.loop-r.invariant c.in_ok-put.ensures
