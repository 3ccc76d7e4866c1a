use Rattle.std.proofs.Common.{◌≡◌, ◌≢◌, ◌<◌, ℕ, List, length, All, IsOkAnd, subst, sym, ap, ◌∙◌}
use Rattle.std.proofs.lemmas.Result.{err_from_is_err_and}
use Rattle.elim_order.specs.Graph.{links}
use Rattle.elim_order.specs.Order.{IsOrderFault}
use Rattle.elim_tree.specs.Tree.{placed, IsTreeFault}
use Rattle.model_text.specs.Grammar.{parsed, IsLineOf}
use Rattle.model_types.specs.Kinds.{node_kind}
use Rattle.model_types.specs.declared.records.Node.{Node}
use Rattle.accepted_text.specs.Accepted.{joined_nodes}
use Rattle.accepted_text.specs.Faults.{tree_fault}
use Rattle.accepted_text.specs.declared.fault.AcceptFault.TheVariants.{Refused}
use Rattle.accepted_text.proofs.GraphLemmas.{pairs_in_range, pairs_apart}
use Rattle.accepted_text.proofs.FaultLemmas.{tree_refused, refused_as, refused_told, broad_known, broad_refused, many_refused}
use Rattle.accepted_text.proofs.reader.model_tree.Goals as goal

abbrev InRange : ℕ → ℕ × ℕ → Type 0
InRange nodes p = (p.0 < nodes) × (p.1 < nodes)

abbrev AreApart : ℕ × ℕ → Type 0
AreApart p = p.0 ≢ p.1

pub order-requires-clause-in_range : goal.order-requires-clause-in_range
order-requires-clause-in_range c =
    let pairs_are = c.deref.ensures.value ∙ c.in_ok-pairs.ensures in
    subst (All (InRange (length c.nodes.result.now))) (sym pairs_are) (subst (λ (ns : List Node). All (InRange (length ns)) (joined_nodes c.args.model.now)) (sym c.nodes.ensures.records) (pairs_in_range c.args.model.now c.nodes.ensures.model))

pub order-requires-clause-apart : goal.order-requires-clause-apart
order-requires-clause-apart c =
    let pairs_are = c.deref.ensures.value ∙ c.in_ok-pairs.ensures in
    subst (All AreApart) (sym pairs_are) (pairs_apart c.args.model.now c.nodes.ensures.model)

pub tree-requires-clause-in_range : goal.tree-requires-clause-in_range
tree-requires-clause-in_range c =
    let pairs_are = c.deref-in-Ok-2.ensures.value ∙ c.in_ok-pairs.ensures in
    let count : length c.deref-in-Ok.result.now ≡ length c.args.model.now.nodes = ap length c.deref-in-Ok.ensures.value ∙ c.in-Ok.ensures.permutation.1 ∙ ap length c.nodes.ensures.records in
    subst (All (InRange (length c.deref-in-Ok.result.now))) (sym pairs_are) (subst (λ count. All (InRange count) (joined_nodes c.args.model.now)) (sym count) (pairs_in_range c.args.model.now c.nodes.ensures.model))

pub tree-requires-clause-apart : goal.tree-requires-clause-apart
tree-requires-clause-apart c =
    let pairs_are = c.deref-in-Ok-2.ensures.value ∙ c.in_ok-pairs.ensures in
    subst (All AreApart) (sym pairs_are) (pairs_apart c.args.model.now c.nodes.ensures.model)

pub returns-in_err-tree-in-Ok-clause-refused : goal.returns-in_err-tree-in-Ok-clause-refused
returns-in_err-tree-in-Ok-clause-refused c = λ number line is.
    let residual = c.from_residual-in_err-tree-in-Ok in
    let p = err_from_is_err_and residual.result residual.ensures.1 in
    let refused : tree_fault c.in_err-tree-in-Ok.field-0.0 ≡ Refused number line = cc (p.1, p.2, is) in
    let told = tree_refused c.in_err-tree-in-Ok.field-0.0 number line refused in
    let pairs_are = c.deref.ensures.value ∙ c.in_ok-pairs.ensures in
    let others_are = c.deref-in-Ok-2.ensures.value ∙ c.in_ok-pairs.ensures in
    let many = subst (IsTreeFault (placed (links c.deref-in-Ok-2.result.now) c.deref-in-Ok.result.now) (length c.deref-in-Ok.result.now)) told.0 c.in_err-tree-in-Ok.ensures in
    refused_as c.args.text.now number line 16 1 told.1 told.2
    (many_refused c.args.text.now c.args.model.now c.nodes.result.now c.deref.result.now c.requires c.nodes.ensures.records pairs_are c.in-Ok.order.items c.in-Ok.ensures.order
    c.deref-in-Ok-2.result.now c.deref-in-Ok.result.now others_are c.deref-in-Ok.ensures.value many)

pub node_line-requires : goal.node_line-requires
node_line-requires c =
    let pairs_are = c.deref.ensures.value ∙ c.in_ok-pairs.ensures in
    let broad = subst (IsOrderFault (length c.nodes.result.now) (links c.deref.result.now)) c.in-Err-Broad.field-0-is c.in-Err-Broad.ensures.order in
    subst (λ node. IsOkAnd (parsed c.args.text.now) (λ model. node < length model.nodes)) (sym c.in-Err-Broad.node-is)
    (broad_known c.args.text.now c.args.model.now c.nodes.result.now c.deref.result.now c.requires c.nodes.ensures.records pairs_are c.in-Err-Broad.node broad)

pub returns-in-Err-Broad-clause-refused : goal.returns-in-Err-Broad-clause-refused
returns-in-Err-Broad-clause-refused c = λ number line is.
    let pairs_are = c.deref.ensures.value ∙ c.in_ok-pairs.ensures in
    let broad = subst (IsOrderFault (length c.nodes.result.now) (links c.deref.result.now)) c.in-Err-Broad.field-0-is c.in-Err-Broad.ensures.order in
    refused_told c.args.text.now number line 16 c.node_line.result is
    (broad_refused c.args.text.now c.args.model.now c.nodes.result.now c.deref.result.now c.requires c.nodes.ensures.records pairs_are c.in-Err-Broad.node c.node_line.result broad
    (subst (λ node. IsLineOf c.args.text.now node_kind node c.node_line.result) c.in-Err-Broad.node-is c.node_line.ensures))
