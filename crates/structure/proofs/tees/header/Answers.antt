use Rattle.std.proofs.Common.{◌≡◌, sym, ◌∙◌}
use Rattle.model_types.specs.Rules.{Keeps}
use Rattle.model_types.specs.Tees.{is_beside}
use Rattle.model_types.specs.declared.records.Element.{Element}
use Rattle.model_types.specs.declared.records.Record.TheVariants as record_of
use Rattle.structure.proofs.TeeLemmas.{found_holds, header_found, header_is, some_of_map, value_of_map}
use Rattle.structure.proofs.tees.header.Goals as goal

pub unwrap-requires : goal.unwrap-requires
unwrap-requires c =
    some_of_map _ _ c.requires.made.first
    ((rw c.elements.ensures.records at c.first_beside.ensures) ∙ header_found c.args.m.now c.args.tee.now c.args.branch.now c.requires.made c.requires.branch)

first : (c : goal.After-unwrap) → c.unwrap.result.now ≡ c.requires.made.first
first c =
    value_of_map _ _ c.unwrap.result c.requires.made.first
    ((rw c.elements.ensures.records at c.first_beside.ensures) ∙ header_found c.args.m.now c.args.tee.now c.args.branch.now c.requires.made c.requires.branch)
    c.unwrap.ensures

pub returns-clause-value : goal.returns-clause-value
returns-clause-value c = first c ∙ sym (header_is c.args.m.now c.args.tee.now c.requires.made)

pub returns-clause-keeps : goal.returns-clause-keeps
returns-clause-keeps c =
    let m = c.args.m.now in
    let test = is_beside c.args.tee.now.node.0 c.args.branch.now.name in
    let holds = found_holds (λ (e : Element). Keeps m (record_of.Element e)) test m.elements c.elements.ensures.model.kept.elements in
    let is = header_found m c.args.tee.now c.args.branch.now c.requires.made c.requires.branch in
    rw (first c) (rw is at holds)
