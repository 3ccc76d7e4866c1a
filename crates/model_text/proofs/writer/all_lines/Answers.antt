use Rattle.std.proofs.Common.{[], ◌∷◌, ◌++◌, codes, ap, ◌∙◌, append_assoc, append-nil}
use Rattle.text_words.specs.Fields.{line}
use Rattle.model_types.specs.declared.records.Record.TheVariants as record_of
use Rattle.model_text.specs.Canonical.{canonical}
use Rattle.model_text.proofs.Appended.{append_kind}
use Rattle.model_text.proofs.writer.all_lines.Goals as goal

-- one kind after the other
pub returns : goal.returns
unfolding canonical
returns c =
    let m = c.args.model.now in
    let header = c.in_ok-push_line.ensures.written ∙ ap (λ l. l ++ line (codes "pipeflex" ∷ codes "1" ∷ [])) c.new-out.ensures.items in
    let materials = append_kind m record_of.Material m.materials c.materials.ensures.records header c.in_ok-put_all.ensures in
    let sections = append_kind m record_of.Section m.sections c.sections.ensures.records materials c.in_ok-put_all-2.ensures in
    let nodes = append_kind m record_of.Node m.nodes c.nodes.ensures.records sections c.in_ok-put_all-3.ensures in
    let elements = append_kind m record_of.Element m.elements c.elements.ensures.records nodes c.in_ok-put_all-4.ensures in
    let tees = append_kind m record_of.Tee m.tees c.tees.ensures.records elements c.in_ok-put_all-5.ensures in
    let restraints = append_kind m record_of.Restraint m.restraints c.restraints.ensures.records tees c.in_ok-put_all-6.ensures in
    let cases = append_kind m record_of.Case m.cases c.cases.ensures.records restraints c.in_ok-put_all-7.ensures in
    let temps = append_kind m record_of.Temp m.temps c.temps.ensures.records cases c.in_ok-put_all-8.ensures in
    let pressures = append_kind m record_of.Pressure m.pressures c.pressures.ensures.records temps c.in_ok-put_all-9.ensures in
    let forces = append_kind m record_of.Force m.forces c.forces.ensures.records pressures c.in_ok-put_all-10.ensures in
    let moves = append_kind m record_of.Move m.moves c.moves.ensures.records forces c.in_ok-put_all-11.ensures in
    let checks = append_kind m record_of.Check m.checks c.checks.ensures.records moves c.in_ok-put_all-12.ensures in
    checks ∙ simp (append_assoc, append-nil)
