use Rattle.std.proofs.Common.{◌≡◌, ◌+◌, List, ◌∷◌, ◌++◌, get_or, drop, map, add-one, ap, rules, ℤ, pos, ◌*ℤ◌, ◌^◌, FitsSigned, to_z-of_z}
use Rattle.std.proofs.Math.Seq.{drop-cons}
use Rattle.std.specs.Int.{w128}
use Rattle.int_laws.specs.Division.{nearest_of}
use Rattle.report.specs.Report.{guess_word}
use Rattle.report.specs.Words.{spaced}
use Rattle.report.proofs.LineLemmas.{still_starts, written}
use Rattle.report.proofs.RoundingLaw.{displacement_scale, modest_fits}
use Rattle.report.proofs.rows.push_guess_words.Goals as goal

pub rounded-requires : goal.rounded-requires
rounded-requires c =
    let modest = c.requires c.loop-z.z-index (pos 0) c.loop-z-test.true in
    record { modest = rw (to_z-of_z (modest_fits (get_or c.args.u.now c.loop-z.z-index (pos 0)) modest)) modest; scale = displacement_scale }

pub loop-z-preserved : goal.loop-z-preserved
loop-z-preserved c =
    let u = c.args.u.now in
    let i = c.loop-z.z-index in
    let z = get_or u i (pos 0) in
    let inside = c.loop-z-test.true in
    let z_fits : FitsSigned w128 z = modest_fits z (c.requires i (pos 0) inside) in
    let result_fits : FitsSigned w128 c.rounded.result = search rules in
    let nearest : c.rounded.result ≡ nearest_of (z *ℤ pos (10 ^ 9)) (pos (2 ^ 56)) = rw (to_z-of_z z_fits) at c.rounded.ensures in
    let step = rw (to_z-of_z result_fits) at c.in_ok-push_number.ensures.written in
    let next : drop i u ≡ z ∷ drop (i + 1) u = rw add-one (drop-cons u i (pos 0) inside) in
    record {
      written = written (c.args.out.now.items ++ spaced (map guess_word u)) c.loop-z.out.items c.push_number.new.out.items (32 ∷ guess_word z) (spaced (map guess_word (drop i u))) (spaced (map guess_word (drop (i + 1) u)))
          (ap (λ (left : List ℤ). spaced (map guess_word left)) next) c.loop-z.invariant.written (rw nearest at step);
      kept = still_starts c.args.out.now.items c.loop-z.out.items c.push_number.new.out.items (32 ∷ guess_word z) (rw nearest at step) c.loop-z.invariant.kept;
    }
