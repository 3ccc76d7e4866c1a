use Rattle.std.proofs.Common.{◌≡◌, ◌+◌, ◌*◌, ◌<◌, ◌⊎◌, inl, inr, arith}
use Rattle.std.proofs.lemmas.Result.{err_from_is_err_and}
use Rattle.member_set.specs.States.{under}
use Rattle.assembly.proofs.Kept.{pattern_kept, keeps_more}
use Rattle.assembly.proofs.filling.fill_block.Goals as goal
use Rattle.assembly.proofs.filling.fill_block.Goals.{then-row-col+in_ok-fill, else-row-col}

pub fill-requires-clause-middles_pattern : goal.fill-requires-clause-middles_pattern
fill-requires-clause-middles_pattern c = pattern_kept (under c.args.row.now.b.now c.args.row.now.closed.now) c.args.middles.now c.loop-freedom.middles c.loop-freedom.invariant.kept.middles_pattern c.requires.middles_pattern

pub fill-requires-clause-radii_pattern : goal.fill-requires-clause-radii_pattern
fill-requires-clause-radii_pattern c = pattern_kept (under c.args.row.now.b.now c.args.row.now.closed.now) c.args.radii.now c.loop-freedom.radii c.loop-freedom.invariant.kept.radii_pattern c.requires.radii_pattern

pub returns-in_err-fill-clause-fault : goal.returns-in_err-fill-clause-fault
returns-in_err-fill-clause-fault c =
    let p = err_from_is_err_and c.from_residual.result c.from_residual.ensures.1 in
    let inside = c.requires.node_in_range in
    let freedom = c.loop-freedom-test.true in
    rw p.1 (6 * c.args.node + c.loop-freedom.freedom, c.if-row-col.true, omega (arith, inside, freedom), c.in_err-fill.ensures.fault)

pub loop-freedom-preserved : goal.loop-freedom-preserved
loop-freedom-preserved c =
    elim c.if-row-col.branch [
      | then-row-col+in_ok-fill w ↦
          rw (w.middles-is, w.radii-is)
          record {
            kept = keeps_more _ _ _ _ _ _ _ c.loop-freedom.invariant.kept w.in_ok-fill.ensures.kept;
            filled = λ f below up.
                let side : (f < c.loop-freedom.freedom) ⊎ (f ≡ c.loop-freedom.freedom) = search arith in
                elim side [
                  | inl less ↦ w.in_ok-fill.ensures.kept.filled c.args.row.now.number (6 * c.args.node + f) up (c.loop-freedom.invariant.filled f less up)
                  | inr e ↦ rw e w.in_ok-fill.ensures.filled
                ];
          }
      | else-row-col w ↦
          rw (w.middles-is, w.radii-is)
          record {
            kept = c.loop-freedom.invariant.kept;
            filled = λ f below up.
                let side : (f < c.loop-freedom.freedom) ⊎ (f ≡ c.loop-freedom.freedom) = search arith in
                elim side [
                  | inl less ↦ c.loop-freedom.invariant.filled f less up
                  | inr e ↦ let not_up = w.if-row-col.false in absurd (omega arith)
                ];
          }
    ]

pub returns-clause-filled : goal.returns-clause-filled
returns-clause-filled c = λ f below up. c.loop-freedom.invariant.filled f (omega arith) up
