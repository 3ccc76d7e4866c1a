use Rattle.std.proofs.Common.{◌≡◌, ℕ, ◌<◌, ◌⊎◌, inl, inr, ◌∙◌, sym, ap, arith, List, length, ◌++◌, take}
use Rattle.std.proofs.lemmas.Grind.{common_steps}
use Rattle.std.proofs.lemmas.List.{length-replicate}
use Rattle.flex_interval.specs.Ends.{Ends}
use Rattle.member_set.specs.declared.members.Member.{Member}
use Rattle.member_set.specs.States.{under}
use Rattle.assembly.proofs.UnderStates.{pattern_under}
use Rattle.assembly.proofs.Patterns.{pairs_in_range, pattern_of_pairs}
use Rattle.assembly.proofs.Kept.{pattern_kept}
use Rattle.assembly.proofs.Whole.{assembled, all_not_negative, first_wide, on_ok, on_err}
use Rattle.assembly.proofs.matrices.assemble.Goals as goal

-- a list that is written as a whole has what was written
written : (xs ys : List Ends) (n : ℕ) → n ≡ length xs → take n (xs ++ ys) ≡ xs
written xs ys n e = grind (arith, common_steps)

pub new-requires : goal.new-requires
new-requires c = rw c.as_slice.ensures (pairs_in_range c.args.b.now c.requires.built c.deref.result.now (c.deref.ensures.value ∙ c.in_ok-pairs.ensures))

pub new-requires-2 : goal.new-requires-2
new-requires-2 c = rw c.as_slice.ensures (pairs_in_range c.args.b.now c.requires.built c.deref-2.result.now (c.deref-2.ensures.value ∙ c.in_ok-pairs.ensures))

pub loop-row-init : goal.loop-row-init
loop-row-init c =
    record {
      middles_pattern = pattern_under c.args.b.now c.args.closed.now c.in_ok-middles.middles (pattern_of_pairs c.args.b.now c.in_ok-middles.middles _ _ (ap (λ (xs : List (List ℕ)). length xs) c.as_slice.ensures) (c.deref.ensures.value ∙ c.in_ok-pairs.ensures) c.in_ok-middles.ensures.pattern);
      radii_pattern = pattern_under c.args.b.now c.args.closed.now c.in_ok-radii.radii (pattern_of_pairs c.args.b.now c.in_ok-radii.radii _ _ (ap (λ (xs : List (List ℕ)). length xs) c.as_slice.ensures) (c.deref-2.ensures.value ∙ c.in_ok-pairs.ensures) c.in_ok-radii.ensures.pattern);
      one_each = ap (λ (xs : List Ends). length xs) (c.in_ok-scaled.ensures.items_if_clones_equal (λ _ e. e)) ∙ length-replicate (length c.as_slice-2.result.now) c.point.result ∙ ap (λ (xs : List Member). length xs) c.as_slice-2.ensures;
      filled = λ i j below up has. absurd (omega arith);
    }

pub loop-row-preserved : goal.loop-row-preserved
loop-row-preserved c =
    let fine = sym c.is_err.ensures.value ∙ c.if-is_err.false in
    let kept = on_ok c.fill_row.result _ fine c.fill_row.ensures.kept in
    let filled = on_ok c.fill_row.result _ fine c.fill_row.ensures.filled in
    let len : c.loop-row.scaled.len ≡ length c.fill_row.new.scaled = omega (arith, c.fill_row.auto.scaled, c.deref_mut.ensures.len) in
    record {
      one_each = ap (λ (xs : List Ends). length xs) (written c.fill_row.new.scaled _ c.loop-row.scaled.len len) ∙ c.fill_row.ensures.one_each;
      middles_pattern = pattern_kept (under c.args.b.now c.args.closed.now) c.loop-row.middles c.fill_row.new.middles kept.middles_pattern c.loop-row.invariant.middles_pattern;
      radii_pattern = pattern_kept (under c.args.b.now c.args.closed.now) c.loop-row.radii c.fill_row.new.radii kept.radii_pattern c.loop-row.invariant.radii_pattern;
      filled = λ i j below up has.
          let before = rw kept.middles_pattern at has in
          let side : (i < c.loop-row.row) ⊎ (i ≡ c.loop-row.row) = search arith in
          elim side [
            | inl less ↦ kept.filled i j up (c.loop-row.invariant.filled i j less up before)
            | inr e ↦ rw e (filled j (rw e at before) (rw e at up))
          ];
    }

pub returns-then-is_err-clause-fault : goal.returns-then-is_err-clause-fault
returns-then-is_err-clause-fault c =
    let failed = sym c.is_err.ensures.value ∙ c.if-is_err.true in
    first_wide (under c.args.b.now c.args.closed.now) (c.states_select_members.ensures.built _ _ c.requires.built) c.loop-row.middles c.loop-row.radii c.loop-row.invariant.middles_pattern c.loop-row.row
    (omega (arith, ap (λ (xs : List (List ℕ)). length xs) c.as_slice.ensures)) c.loop-row.invariant.filled (on_err c.fill_row.result _ failed c.fill_row.ensures.fault)

pub returns-clause-matrices : goal.returns-clause-matrices
returns-clause-matrices c =
    assembled (under c.args.b.now c.args.closed.now) (c.states_select_members.ensures.built _ _ c.requires.built) c.loop-row.middles c.loop-row.radii c.pattern-middles_nodes.ensures.kept c.pattern-radii_nodes.ensures.kept
    c.loop-row.invariant.middles_pattern c.loop-row.invariant.radii_pattern
    (λ i j inside. c.loop-row.invariant.filled i j (omega (arith, inside, ap (λ (xs : List (List ℕ)). length xs) c.as_slice.ensures)))

pub returns-clause-within : goal.returns-clause-within
returns-clause-within c = λ laws s real i j i_inside j_inside.
    c.assembled_hold.ensures c.args.b.now c.args.closed.now laws s _ _ c.requires.built real (returns-clause-matrices c) i j i_inside j_inside

pub returns-clause-radii : goal.returns-clause-radii
returns-clause-radii c =
    all_not_negative (under c.args.b.now c.args.closed.now) (c.states_select_members.ensures.built _ _ c.requires.built) c.loop-row.middles c.loop-row.radii c.pattern-middles_nodes.ensures.kept c.pattern-radii_nodes.ensures.kept
    c.loop-row.invariant.middles_pattern c.loop-row.invariant.radii_pattern
    (λ i j inside. c.loop-row.invariant.filled i j (omega (arith, inside, ap (λ (xs : List (List ℕ)). length xs) c.as_slice.ensures)))

pub returns-clause-kept : goal.returns-clause-kept
returns-clause-kept c = (c.pattern-middles_nodes.ensures.kept, c.pattern-radii_nodes.ensures.kept)
