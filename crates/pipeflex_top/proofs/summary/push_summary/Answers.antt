use Rattle.std.proofs.Common.{◌≡◌, ◌∙◌, sym}
use Rattle.std.specs.Fmt.{decimal}
use Rattle.pipeflex_top.proofs.summary.push_summary.Goals as goal

pub returns-clause-written : goal.returns-clause-written
returns-clause-written c =
    let loops : c.as_bytes-loops.result.now ≡ decimal c.args.loops = c.as_bytes-loops.ensures.value ∙ c.format.ensures.text in
    let nodes : c.as_bytes-nodes.result.now ≡ decimal c.args.nodes = c.as_bytes-nodes.ensures.value ∙ c.format-2.ensures.text in
    let certified : c.as_bytes-certified.result.now ≡ decimal c.args.certified = c.as_bytes-certified.ensures.value ∙ c.format-3.ensures.text in
    let uncertified : c.as_bytes-uncertified.result.now ≡ decimal c.args.uncertified = c.as_bytes-uncertified.ensures.value ∙ c.format-4.ensures.text in
    rw (← loops, ← nodes, ← certified, ← uncertified) c.push_line.ensures.written
