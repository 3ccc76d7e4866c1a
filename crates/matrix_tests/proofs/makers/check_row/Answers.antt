use Rattle.std.proofs.Common.{arith, ap, subst, sym, ℕ, ◌/◌, ◌∙◌, List, slice_index, Contains, inl, inr}
use Rattle.std.proofs.lemmas.Bool.{cases_eq}
use Rattle.std.proofs.lemmas.List.{get_or_default}
use Rattle.matrix_tests.proofs.makers.check_row.Goals as goal

pub loop-node-preserved : goal.loop-node-preserved
loop-node-preserved g c = λ k j below at.
    elim (cases_eq k c.loop-node.node-index) [
      | inl e ↦ c.check_block.ensures j (at ∙ ap (λ (x : ℕ). slice_index c.pattern-node-items.result.now x) e)
      | inr apart ↦ c.loop-node.invariant k j (omega (arith, apart)) at
    ]

pub returns : goal.returns
returns g c = λ j block.
    let P : List ℕ → Type 0 = λ nodes. Contains nodes (j / 6) in
    let inside = subst P (sym c.pattern-node-items.ensures.value) block in
    c.loop-node.invariant inside.0 j (omega (arith, inside.1, c.loop-node-test.false))
    (omega (arith, inside.2, get_or_default c.pattern-node-items.result.now inside.0 (j / 6) 0 inside.1))
