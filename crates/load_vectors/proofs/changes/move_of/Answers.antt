use Rattle.std.proofs.Common.{position, ◌==◌, ◌&&◌}
use Rattle.model_types.specs.Ranges.{MoveInForm}
use Rattle.load_vectors.proofs.RecordLemmas.{kept_found}
use Rattle.load_vectors.proofs.changes.move_of.Goals as goal

pub returns-clause-form : goal.returns-clause-form
returns-clause-form c =
    let m = c.args.m.now in
    let form = kept_found MoveInForm m.moves (position (λ v. v.case.0 == c.args.case.0 && v.anchor.0 == c.args.restraint) m.moves) (λ i d inside. (c.moves.ensures.model.kept.moves i d inside).form) in
    rw (c.move_in.ensures, c.moves.ensures.records) form
