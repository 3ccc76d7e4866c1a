use Rattle.std.proofs.Common.{◌≡◌, ◌∙◌, ℕ, ◌+◌, ◌*◌, ◌/◌, ◌%◌, ◌<◌, ◌⊎◌, inl, inr, List, [], length, slice_index_or, ap, sym, subst, arith}
use Rattle.std.proofs.lemmas.Grind.{get_or_default_zero}
use Rattle.sym_blocks.specs.Matrix.{pattern_of}
use Rattle.assembly.specs.Filling.{IsFilled}
use Rattle.member_set.specs.States.{under}
use Rattle.assembly.proofs.Kept.{pattern_kept, keeps_more, joined_in_range}
use Rattle.assembly.proofs.filling.fill_blocks.Goals as goal

pub fill_block-requires-clause-node_in_range : goal.fill_block-requires-clause-node_in_range
fill_block-requires-clause-node_in_range c =
    let same : c.pattern.result.now ≡ pattern_of c.args.middles.now (c.args.row.now.number / 6) =
    c.pattern.ensures.value ∙ ap (λ (p : List (List ℕ)). slice_index_or p (c.args.row.now.number / 6) []) c.loop-t.invariant.kept.middles_pattern in
    let inside : c.loop-t.t < length (pattern_of c.args.middles.now (c.args.row.now.number / 6)) = rw (← c.pattern-t-end.ensures.value) c.loop-t-test.true in
    rw same
    (joined_in_range (under c.args.row.now.b.now c.args.row.now.closed.now) (c.states_select_members.ensures.built _ _ c.requires.built) (c.args.row.now.number / 6) _
    ((c.requires.middles_pattern (c.args.row.now.number / 6) _).0 (c.loop-t.t, inside, get_or_default_zero (pattern_of c.args.middles.now (c.args.row.now.number / 6)) c.loop-t.t _ inside)))

pub fill_block-requires-clause-middles_pattern : goal.fill_block-requires-clause-middles_pattern
fill_block-requires-clause-middles_pattern c = pattern_kept (under c.args.row.now.b.now c.args.row.now.closed.now) c.args.middles.now c.loop-t.middles c.loop-t.invariant.kept.middles_pattern c.requires.middles_pattern

pub fill_block-requires-clause-radii_pattern : goal.fill_block-requires-clause-radii_pattern
fill_block-requires-clause-radii_pattern c = pattern_kept (under c.args.row.now.b.now c.args.row.now.closed.now) c.args.radii.now c.loop-t.radii c.loop-t.invariant.kept.radii_pattern c.requires.radii_pattern

pub loop-t-preserved : goal.loop-t-preserved
loop-t-preserved c =
    let same : c.pattern.result.now ≡ pattern_of c.args.middles.now (c.args.row.now.number / 6) =
    c.pattern.ensures.value ∙ ap (λ (p : List (List ℕ)). slice_index_or p (c.args.row.now.number / 6) []) c.loop-t.invariant.kept.middles_pattern in
    record {
      kept = keeps_more _ _ _ _ _ _ _ c.loop-t.invariant.kept c.in_ok-fill_block.ensures.kept;
      filled = λ s col below is up.
          let side : (s < c.loop-t.t) ⊎ (s ≡ c.loop-t.t) = search arith in
          elim side [
            | inl less ↦ c.in_ok-fill_block.ensures.kept.filled c.args.row.now.number col up (c.loop-t.invariant.filled s col less is up)
            | inr e ↦
                let node_is : slice_index_or c.pattern.result.now c.loop-t.t 0 ≡ col / 6 = rw (same, ← e) is in
                let place : 6 * slice_index_or c.pattern.result.now c.loop-t.t 0 + col % 6 ≡ col = omega (arith, node_is) in
                subst (λ (z : ℕ). IsFilled (under c.args.row.now.b.now c.args.row.now.closed.now) c.fill_block.new.middles c.fill_block.new.radii c.args.row.now.number z) place
                (c.in_ok-fill_block.ensures.filled (col % 6) (omega arith) (omega (arith, place, up)))
          ];
    }

pub returns-clause-filled : goal.returns-clause-filled
returns-clause-filled c = λ col found up.
    let inside : found.0 < length c.pattern-t-end.result.now = rw c.pattern-t-end.ensures.value found.1 in
    c.loop-t.invariant.filled found.0 col (omega (arith, inside))
    (sym (get_or_default_zero (pattern_of c.args.middles.now (c.args.row.now.number / 6)) found.0 _ found.1) ∙ found.2) up
