use Rattle.std.proofs.Common.{◌≡◌, ◌⊎◌, ℕ, ◌+◌, ◌*◌, ◌^◌, ◌<◌, ◌≤◌, ◌∙◌, refl, sym, subst, arith, get_or, ℤ, pos, inr}
use Rattle.std.specs.Int.RustNames.{unsigned_abs}
use Rattle.std.proofs.lemmas.Int.{ints}
use Rattle.std.proofs.lemmas.List.Elements.{All-take, All-drop}
use Rattle.factor.specs.Gather.{products_at, entry_products}
use Rattle.factor.proofs.GatherLemmas.{raised_more, products_are, taken_off}
use Rattle.factor.proofs.gather.gather_block.Goals as goal

pub loop-t-preserved : goal.loop-t-preserved
loop-t-preserved c =
    let t = c.loop-t.t in
    let at = 36 * c.args.target + t in
    let same = c.loop-t.invariant.1 at (inr (omega arith)) in
    let small : unsigned_abs (get_or c.loop-t.work at (pos 0)) < 2 ^ 126 = rw same (c.requires.work_small t (omega arith)) in
    let taken = c.dot.ensures.value ∙ products_are c.args.entries.now c.args.row c.args.column t c.requires.row_in (omega arith) in
    raised_more c.args.work.now c.loop-t.work (36 * c.args.target) t (entry_products c.args.entries.now c.args.row c.args.column) _ (omega arith) c.loop-t.invariant
    (taken_off (get_or c.loop-t.work at (pos 0)) c.dot.result (products_at c.args.entries.now c.args.row c.args.column t) small c.dot.ensures.small taken)

pub dot-requires-clause-left_small : goal.dot-requires-clause-left_small
dot-requires-clause-left_small c = All-take (λ (x : ℤ). unsigned_abs x < 2 ^ 57) _ _ (All-drop (λ (x : ℤ). unsigned_abs x < 2 ^ 57) _ c.args.entries.now c.requires.entries_small)

pub dot-requires-clause-right_small : goal.dot-requires-clause-right_small
dot-requires-clause-right_small c = All-take (λ (x : ℤ). unsigned_abs x < 2 ^ 57) _ _ (All-drop (λ (x : ℤ). unsigned_abs x < 2 ^ 57) _ c.args.entries.now c.requires.entries_small)

pub overflow_sub-work : goal.overflow_sub-work
overflow_sub-work c =
    let t = c.loop-t.t in
    let same = c.loop-t.invariant.1 (36 * c.args.target + t) (inr (omega arith)) in
    omega (arith, ints, same, c.requires.work_small t c.loop-t-test.true, c.dot.ensures.small)

pub loop-t-init : goal.loop-t-init
loop-t-init c = (λ u below. absurd (omega arith), λ s apart. refl)

pub returns : goal.returns
returns c =
    let whole : c.loop-t.t ≡ 36 = omega arith in
    record {
      raised = λ t below. c.loop-t.invariant.0 t (omega (arith, whole));
      others = λ s apart. c.loop-t.invariant.1 s (subst (λ (n : ℕ). (s < 36 * c.args.target) ⊎ (36 * c.args.target + n ≤ s)) (sym whole) apart);
    }
