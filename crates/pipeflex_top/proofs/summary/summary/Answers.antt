use Rattle.std.proofs.Common.{◌≡◌, ◌∙◌, List, ℕ, subst}
use Rattle.accepted_text.specs.Accepted.{IsRefusedBy}
use Rattle.model_gen.specs.Text.{generated}
use Rattle.pipeflex_top.specs.Analysis.{Answered, Reports, analysis_of}
use Rattle.pipeflex_top.proofs.summary.summary.Goals as goal

pub unreachable-requires : goal.unreachable-requires
unreachable-requires g c =
    let text : c.deref.result.now ≡ generated c.args.loops = c.deref.ensures.value ∙ c.in_ok-text.ensures in
    let refused = subst (Answered c.deref.result.now) c.in-Refused.is c.in_ok-nodes.ensures in
    let tree = c.generated_has_tree.ensures c.args.loops c.requires.loops.some c.requires.loops.few in
    c.acceptance_is_determined.ensures.never_both (generated c.args.loops) _ tree.0 c.in-Refused.number c.in-Refused.line
    (record { text_is = (c.generated_is_accepted.ensures c.args.loops c.requires.loops.some c.requires.loops.few).accepted; tree = tree.1 })
    (subst (λ (t : List ℕ). IsRefusedBy t c.in-Refused.number c.in-Refused.line) text refused)

pub returns : goal.returns
returns g c =
    let text : c.deref.result.now ≡ generated c.args.loops = c.deref.ensures.value ∙ c.in_ok-text.ensures in
    let told = subst (Answered c.deref.result.now) c.in-Report.is c.in_ok-nodes.ensures in
    let here = subst (λ (t : List ℕ). Reports t c.in-Report.bytes.items c.in-Report.nodes c.in-Report.certified c.in-Report.uncertified) text told in
    record {
      bytes = c.in-Report.bytes.items;
      nodes = c.in-Report.nodes;
      certified = c.in-Report.certified;
      uncertified = c.in-Report.uncertified;
      report = here;
      line_is = c.in_ok-bytes-in-Report.ensures;
      ends = c.ending.ensures (analysis_of here.model here.tree) here.uncertified_are;
    }
