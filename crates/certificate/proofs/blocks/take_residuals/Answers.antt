use Rattle.std.proofs.Common.{rules, arith, ap, refl, sym, subst, ◌∙◌, ◌≡◌, ◌≤◌, ◌+◌, ◌*◌, ◌/◌, ◌^◌, pos, All, ℕ, List, to_z-of_z}
use Rattle.std.proofs.lemmas.List.{get_or_default}
use mir.Syntax.{w128}
use mir.Val.{SFits}
use Rattle.int_laws.proofs.Sums.{int_sums}
use Rattle.sym_blocks.specs.Matrix.{node_count}
use Rattle.int_laws.specs.Matrices.{absolute}
use Rattle.lists.specs.Rows.{freedom_at}
use Rattle.flex_num.specs.Guarded.{value_at}
use Rattle.certificate.specs.RowResidual.{missed}
use Rattle.lists.proofs.RowLemmas.{column-below, row-below}
use Rattle.certificate.proofs.PatternLemmas.{pattern-numbered}
use Rattle.certificate.proofs.ResidualLemmas.{nodes-spread, taken-step, others-step, missed-whole, missed-part, missed-more}
use Rattle.certificate.proofs.blocks.take_residuals.Goals as goal

pub freedom_at-requires-clause-numbered : goal.freedom_at-requires-clause-numbered
freedom_at-requires-clause-numbered c =
    let P : List ℕ → Type 0 = λ nodes. All (λ node. 6 * node + 6 ≤ 2 ^ 32) nodes in
    subst P (sym c.pattern-nodes.ensures.value) (pattern-numbered c.args.middle.now (c.args.row / 6) c.pattern-nodes.ensures.kept c.requires.numbered)

pub take_residual-missed-requires-clause-column : goal.take_residual-missed-requires-clause-column
take_residual-missed-requires-clause-column c =
    let spread = nodes-spread c.args.middle.now c.pattern-nodes.result.now (c.args.row / 6) c.pattern-nodes.ensures.kept c.pattern-nodes.ensures.value in
    omega (arith, column-below c.pattern-nodes.result.now (node_count c.args.middle.now) c.loop-s.s spread c.loop-s-test.true, c.freedom_at.ensures, c.requires.nodes)

pub take_residual-missed-requires-clause-numbered : goal.take_residual-missed-requires-clause-numbered
take_residual-missed-requires-clause-numbered c = λ k d inside.
    omega (arith, c.requires.places.spread.in_range k inside, c.requires.nodes, get_or_default c.args.places.now k d 0 inside)

pub returns-in_err-total-clause-none : goal.returns-in_err-total-clause-none
returns-in_err-total-clause-none c = λ _.
    let nodes = c.pattern-nodes.result.now in
    let term = ap (λ (k : ℕ). absolute (missed c.args.middle.now (pos c.args.shift) c.args.places.now c.loop-s.sums c.args.row k)) c.freedom_at.ensures in
    let value = ap absolute c.take_residual-missed.ensures.value in
    let fits : SFits w128 c.take_residual-missed.result = search rules in
    let read = ap absolute (to_z-of_z fits) in
    let more = missed-more c.args.middle.now nodes (pos c.args.shift) c.args.places.now c.args.sums.now c.loop-s.sums c.args.row c.loop-s.s (pos c.loop-s.total)
    c.pattern-nodes.ensures.kept c.pattern-nodes.ensures.value c.requires.places c.requires.nodes c.loop-s-test.true c.loop-s.invariant.others c.loop-s.invariant.sum in
    let part = missed-part c.args.middle.now nodes (pos c.args.shift) c.args.places.now c.args.sums.now c.args.row c.loop-s.s c.pattern-nodes.ensures.kept c.pattern-nodes.ensures.value c.loop-s-test.true in
    omega (arith, int_sums, more, part, read, value, term, c.in_err-total.ensures)

pub loop-s-preserved : goal.loop-s-preserved
loop-s-preserved c =
    let nodes = c.pattern-nodes.result.now in
    let n = node_count c.args.middle.now in
    let spread = nodes-spread c.args.middle.now nodes (c.args.row / 6) c.pattern-nodes.ensures.kept c.pattern-nodes.ensures.value in
    let column = c.freedom_at.ensures in
    let here = ap (λ (k : ℕ). value_at c.take_residual-missed.new.sums (freedom_at c.args.places.now k)) (sym column) ∙ c.take_residual-missed.ensures.here in
    let others : (j : ℕ) → (j ≡ freedom_at c.args.places.now (freedom_at c.pattern-nodes.result.now c.loop-s.s) → ⊥) → value_at c.take_residual-missed.new.sums j ≡ value_at c.loop-s.sums j =
    λ j apart. c.take_residual-missed.ensures.others j (λ e. apart (e ∙ ap (freedom_at c.args.places.now) column)) in
    let term = ap (λ (k : ℕ). absolute (missed c.args.middle.now (pos c.args.shift) c.args.places.now c.loop-s.sums c.args.row k)) column in
    let value = ap absolute c.take_residual-missed.ensures.value in
    let fits : SFits w128 c.take_residual-missed.result = search rules in
    let read = ap absolute (to_z-of_z fits) in
    let more = missed-more c.args.middle.now nodes (pos c.args.shift) c.args.places.now c.args.sums.now c.loop-s.sums c.args.row c.loop-s.s (pos c.loop-s.total)
    c.pattern-nodes.ensures.kept c.pattern-nodes.ensures.value c.requires.places c.requires.nodes c.loop-s-test.true c.loop-s.invariant.others c.loop-s.invariant.sum in
    record {
      same = c.take_residual-missed.ensures.length_kept ∙ c.loop-s.invariant.same;
      small = c.in_ok-total.ensures.1;
      sum = omega (arith, int_sums, more, c.in_ok-total.ensures.0, read, value, term);
      taken = taken-step c.args.places.now nodes n c.loop-s.s c.args.sums.now c.loop-s.sums c.take_residual-missed.new.sums c.requires.places c.requires.nodes spread c.loop-s-test.true here others c.loop-s.invariant.taken;
      others = others-step c.args.places.now nodes c.loop-s.s c.args.sums.now c.loop-s.sums c.take_residual-missed.new.sums others c.loop-s.invariant.others;
    }

pub returns-clause-some : goal.returns-clause-some
returns-clause-some c = (
  c.loop-s.invariant.small,
  missed-whole c.args.middle.now c.pattern-nodes.result.now (pos c.args.shift) c.args.places.now c.args.sums.now c.loop-s.sums c.args.row c.loop-s.s (pos c.loop-s.total)
      c.pattern-nodes.ensures.kept c.pattern-nodes.ensures.value c.requires.row c.requires.places c.requires.nodes (c.loop-s.invariant.same ∙ c.requires.positions)
      c.loop-s-test.false c.loop-s.auto.s-end c.loop-s.invariant.sum c.loop-s.invariant.taken c.loop-s.invariant.others,
)

pub freedom_at-requires-clause-inside : goal.freedom_at-requires-clause-inside
freedom_at-requires-clause-inside c = c.loop-s-test.true

pub loop-s-init : goal.loop-s-init
loop-s-init c = record { same = refl; small = omega arith; sum = refl; taken = λ u below. absurd (omega arith); others = λ j apart. refl }

pub take_residual-missed-requires-clause-small : goal.take_residual-missed-requires-clause-small
take_residual-missed-requires-clause-small c = c.requires.small

pub take_residual-missed-requires-clause-inside : goal.take_residual-missed-requires-clause-inside
take_residual-missed-requires-clause-inside c =
    let below = row-below c.args.places.now c.freedom_at.result c.requires.places (take_residual-missed-requires-clause-column c) in
    omega (arith, below, c.requires.nodes, c.requires.positions, c.loop-s.invariant.same)

pub with_size-requires : goal.with_size-requires
with_size-requires c = c.loop-s.invariant.small
