use Rattle.std.proofs.Common.{◌≡◌, ◌++◌, get_or, ap, subst, ◌∙◌, take_all}
use Rattle.model_types.specs.declared.records.Tee.{Tee}
use Rattle.model_types.specs.declared.records.TeeKind.TheVariants.{Unreinforced}
use Rattle.std.proofs.lemmas.List.{get_or_default}
use Rattle.std.proofs.lemmas.List.Elements.{All-more}
use Rattle.std.specs.List.{All, flat_map}
use Rattle.pipeflex_top.specs.Enclosure.{PrintsTee}
use Rattle.pipeflex_top.specs.MemberTable.{tee_text}
use Rattle.pipeflex_top.proofs.TableLemmas.{flat_map-taken}
use Rattle.pipeflex_top.proofs.member_table.push_tees.Goals as goal

pub loop-tee-preserved : goal.loop-tee-preserved
loop-tee-preserved c =
    let model = c.args.model.now in
    let tees = c.tees-tees.result.now in
    let i = c.loop-tee.tee-index in
    let none : Tee = record { node = record { 0 = 0 }; branch = record { 0 = 0 }; header = record { 0 = 0 }; kind = Unreinforced } in
    let tee = get_or tees i none in
    let inside = c.loop-tee-test.true in
    let is : tee ≡ get_or tees i tee = get_or_default tees i none tee inside in
    let so_far = c.loop-tee.invariant in
    record {
      written = c.in_ok-push_tee.ensures.bytes ∙ ap (λ bytes. bytes ++ tee_text model tee) so_far.written ∙ flat_map-taken (tee_text model) c.args.out.now.items tees i tee inside is;
      told = All-more (PrintsTee model) tees i tee inside so_far.told (subst (PrintsTee model) is c.push_tee.ensures.told);
    }

pub returns-clause-bytes : goal.returns-clause-bytes
returns-clause-bytes c =
    let whole = take_all c.loop-tee.tee-index c.tees-tees.result.now c.loop-tee-test.false ∙ c.tees-tees.ensures.records in
    c.loop-tee.invariant.written ∙ ap (λ tees. c.args.out.now.items ++ flat_map (tee_text c.args.model.now) tees) whole

pub returns-clause-told : goal.returns-clause-told
returns-clause-told c =
    let whole = take_all c.loop-tee.tee-index c.tees-tees.result.now c.loop-tee-test.false ∙ c.tees-tees.ensures.records in
    subst (All (PrintsTee c.args.model.now)) whole c.loop-tee.invariant.told
