use Rattle.std.proofs.Common.{to_z-of_z}
use Rattle.std.proofs.lemmas.Result.{err_from_is_err_and}
use Rattle.member_pairs.specs.Lengths.{tangent, tangent_of}
use Rattle.member_pairs.proofs.WayLemmas.{part_fits}
use Rattle.member_pairs.proofs.chord.tangent.Goals as goal

pub returns-in_err-y-clause-value : goal.returns-in_err-y-clause-value
unfolding tangent_of
returns-in_err-y-clause-value c =
    let p = err_from_is_err_and c.from_residual-in_err-y.result c.from_residual-in_err-y.ensures.1 in
    let x = rw (to_z-of_z (part_fits c.args.way.now.x c.requires.x)) at c.in_ok-x.ensures.value in
    let y = rw (to_z-of_z (part_fits c.args.way.now.y c.requires.y)) at c.in_err-y.ensures.value in
    rw (p.1, p.2, ← x, ← y)

pub returns-in_err-z-clause-value : goal.returns-in_err-z-clause-value
unfolding tangent_of
returns-in_err-z-clause-value c =
    let p = err_from_is_err_and c.from_residual-in_err-z.result c.from_residual-in_err-z.ensures.1 in
    let x = rw (to_z-of_z (part_fits c.args.way.now.x c.requires.x)) at c.in_ok-x.ensures.value in
    let y = rw (to_z-of_z (part_fits c.args.way.now.y c.requires.y)) at c.in_ok-y.ensures.value in
    let z = rw (to_z-of_z (part_fits c.args.way.now.z c.requires.z)) at c.in_err-z.ensures.value in
    rw (p.1, p.2, ← x, ← y, ← z)

pub returns-clause-value : goal.returns-clause-value
unfolding tangent_of
returns-clause-value c =
    let x = rw (to_z-of_z (part_fits c.args.way.now.x c.requires.x)) at c.in_ok-x.ensures.value in
    let y = rw (to_z-of_z (part_fits c.args.way.now.y c.requires.y)) at c.in_ok-y.ensures.value in
    let z = rw (to_z-of_z (part_fits c.args.way.now.z c.requires.z)) at c.in_ok-z.ensures.value in
    rw (← x, ← y, ← z)

pub returns-clause-within : goal.returns-clause-within
unfolding tangent
returns-clause-within c = λ l in_l.
    record {
      x = λ _. (rw (to_z-of_z (part_fits c.args.way.now.x c.requires.x)) at c.in_ok-x.ensures.within) l in_l;
      y = λ _. (rw (to_z-of_z (part_fits c.args.way.now.y c.requires.y)) at c.in_ok-y.ensures.within) l in_l;
      z = λ _. (rw (to_z-of_z (part_fits c.args.way.now.z c.requires.z)) at c.in_ok-z.ensures.within) l in_l;
    }
