use Rattle.std.proofs.Common.{◌≡◌, ◌++◌, OnOk, subst}
use Rattle.std.specs.List.{flat_map}
use Rattle.report.specs.Factors.{TeeIsTold, tee_lines}
use Rattle.sif_factors.specs.Factors.{tee_factors_of}
use Rattle.structure.specs.Elements.{no_node, no_section}
use Rattle.text_words.specs.Fields.{line}
use Rattle.pipeflex_top.specs.MemberTable.{header_of_tee, node_of_tee}
use Rattle.pipeflex_top.proofs.TableLemmas.{at_number}
use Rattle.pipeflex_top.proofs.member_table.push_tee.Goals as goal

pub returns-clause-bytes : goal.returns-clause-bytes
returns-clause-bytes c =
    let model = c.args.model.now in
    let tee = c.args.tee.now in
    let node = at_number model.nodes tee.node.0 c.node-node.result.now no_node c.node-node.ensures.found in
    let header = at_number model.sections tee.header.0 c.section-header.result.now no_section c.section-header.ensures.found in
    let step = rw c.bytes.ensures.bytes at c.push_tee_factors.ensures.written in
    let on_header = subst (λ s. OnOk c.push_tee_factors.result (c.push_tee_factors.new.out.items ≡ c.args.out.now.items ++ flat_map line (tee_lines c.node-node.result.now.name (tee_factors_of s tee.kind)))) header step in
    subst (λ n. OnOk c.push_tee_factors.result (c.push_tee_factors.new.out.items ≡ c.args.out.now.items ++ flat_map line (tee_lines n.name (tee_factors_of (header_of_tee model tee) tee.kind)))) node on_header

pub returns-clause-told : goal.returns-clause-told
returns-clause-told c =
    let model = c.args.model.now in
    let tee = c.args.tee.now in
    let header = at_number model.sections tee.header.0 c.section-header.result.now no_section c.section-header.ensures.found in
    subst (λ s. TeeIsTold s tee.kind) header c.push_tee_factors.ensures.told
