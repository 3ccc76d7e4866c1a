use Rattle.model_text.proofs.RoundTrip.{if_reads_back}
use Rattle.model_text.proofs.writer.echo.Goals as goal

pub returns-clause-reads_back : goal.returns-clause-reads_back
returns-clause-reads_back c = if_reads_back c.records_follow.ensures c.tees_are_judged.ensures c.args.model.now (λ text. text.items) c.all_lines.result c.nodes-nodes.ensures.model c.all_lines.ensures
