use Rattle.std.proofs.Common.{◌≡◌, ◌*◌, length, rules}
use Rattle.std.specs.Prelude.{replicate}
use Rattle.member_set.specs.Members.{nothing}
use Rattle.load_vectors.proofs.RowLemmas.{no_size, nothing_yet}
use Rattle.load_vectors.proofs.rows.sums.Goals as goal

pub add_all-requires-clause-start : goal.add_all-requires-clause-start
add_all-requires-clause-start c =
    let zeros : c.deref_mut.result.now ≡ replicate (6 * length c.args.m.now.nodes) nothing = search rules in
    nothing_yet c.args.m.now c.deref_mut.result.now zeros

pub add_all-requires-clause-room : goal.add_all-requires-clause-room
add_all-requires-clause-room c =
    let zeros : c.deref_mut.result.now ≡ replicate (6 * length c.args.m.now.nodes) nothing = search rules in
    no_size (6 * length c.args.m.now.nodes) c.deref_mut.result.now zeros
