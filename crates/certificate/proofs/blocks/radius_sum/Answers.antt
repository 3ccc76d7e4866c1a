use Rattle.std.proofs.Common.{arith, add-one, ap, sym, subst, ◌∙◌, ◌≡◌, ◌≤◌, ◌+◌, ◌*◌, ◌/◌, ◌^◌, length, All, ℕ, List}
use Rattle.std.proofs.lemmas.Int.{ints}
use Rattle.int_laws.specs.Sums.{sum_below}
use Rattle.sym_blocks.specs.Matrix.{entry}
use Rattle.lists.specs.Rows.{freedom_at}
use Rattle.certificate.proofs.PatternLemmas.{pattern-numbered, sum-blocks}
use Rattle.certificate.proofs.blocks.radius_sum.Goals as goal

pub freedom_at-requires-clause-numbered : goal.freedom_at-requires-clause-numbered
freedom_at-requires-clause-numbered c =
    let P : List ℕ → Type 0 = λ nodes. All (λ node. 6 * node + 6 ≤ 2 ^ 32) nodes in
    subst P (sym c.pattern-nodes.ensures.value) (pattern-numbered c.args.radii.now (c.args.row / 6) c.pattern-nodes.ensures.kept c.requires.numbered)

pub returns : goal.returns
returns c =
    let radii = c.args.radii.now in
    let row = c.args.row in
    let end : c.loop-s.s ≡ 6 * length c.pattern-nodes.result.now = omega (arith, c.loop-s.auto.s-end) in
    let sum = λ (nodes : List ℕ) (n : ℕ). sum_below n (λ s. entry radii row (freedom_at nodes s)) in
    c.loop-s.invariant.sum ∙ ap (sum c.pattern-nodes.result.now) end
    ∙ ap (λ (nodes : List ℕ). sum nodes (6 * length nodes)) c.pattern-nodes.ensures.value
    ∙ sum-blocks radii row (entry radii row) c.pattern-nodes.ensures.kept (λ j inside outside. c.pattern-nodes.ensures.kept.outside row j outside)

pub loop-s-preserved : goal.loop-s-preserved
loop-s-preserved c =
    let s = c.loop-s.s in
    let here = c.get.ensures.value ∙ ap (entry c.args.radii.now c.args.row) c.freedom_at.ensures in
    let up = c.requires.not_negative c.args.row c.freedom_at.result in
    let small = c.requires.small c.args.row c.freedom_at.result in
    let same = c.get.ensures.value in
    record {
      sum = rw (add-one s) (omega (arith, ints, c.loop-s.invariant.sum, here, up, same));
      bound = omega (arith, ints, c.loop-s.invariant.bound, up, small, same);
    }
