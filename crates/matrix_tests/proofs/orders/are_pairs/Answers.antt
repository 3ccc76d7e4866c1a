use Rattle.std.proofs.Common.{◌≢◌, ◌<◌, ℕ, List, All, subst, arith}
use Rattle.std.proofs.lemmas.List.{take_all}
use Rattle.std.proofs.lemmas.List.Elements.{All-more}
use Rattle.matrix_tests.proofs.orders.are_pairs.Goals as goal

pub loop-pair-preserved : goal.loop-pair-preserved
loop-pair-preserved c =
    let pairs = c.args.pairs.now in
    let i = c.loop-pair.pair-index in
    let holds = c.if-not-joins.false in
    record {
      in_range = All-more (λ (p : ℕ × ℕ). (p.0 < c.args.nodes) × (p.1 < c.args.nodes)) pairs i (0, 0) (omega arith) c.loop-pair.invariant.in_range (c.joins.ensures.first holds, c.joins.ensures.second holds);
      apart = All-more (λ (p : ℕ × ℕ). p.0 ≢ p.1) pairs i (0, 0) (omega arith) c.loop-pair.invariant.apart (c.joins.ensures.apart holds);
    }

pub returns-clause-in_range : goal.returns-clause-in_range
returns-clause-in_range c small =
    let P : List (ℕ × ℕ) → Type 0 = λ ps. All (λ (p : ℕ × ℕ). (p.0 < c.args.nodes) × (p.1 < c.args.nodes)) ps in
    subst P (take_all c.loop-pair.pair-index c.args.pairs.now (omega arith)) c.loop-pair.invariant.in_range

pub returns-clause-apart : goal.returns-clause-apart
returns-clause-apart c small =
    let P : List (ℕ × ℕ) → Type 0 = λ ps. All (λ (p : ℕ × ℕ). p.0 ≢ p.1) ps in
    subst P (take_all c.loop-pair.pair-index c.args.pairs.now (omega arith)) c.loop-pair.invariant.apart
