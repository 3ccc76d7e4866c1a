use Rattle.section_data.specs.Tube.{IsTube}
use Rattle.code_stress.proofs.DataLemmas.{has_inside}
use Rattle.code_stress.proofs.data.section_values.Goals as goal

pub returns-clause-inside : goal.returns-clause-inside
returns-clause-inside c =
    let kept = c.section-own.ensures.kept in
    let tube : IsTube c.section-own.result.now = record { form = kept.form; bore = kept.own.bore; sound_wall = kept.own.sound_wall } in
    has_inside c.section-own.result.now c.args.reduced c.section.result tube c.section.ensures.wall_from_zero c.section.ensures.x c.section.ensures.y
