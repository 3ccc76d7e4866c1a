use Rattle.std.proofs.Common.{not, ap, sym, ◌∙◌, arith}
use Rattle.model_types.specs.Tees.{is_tee}
use Rattle.model_types.proofs.TeeLemmas.{first_position, no_position}
use Rattle.model_types.proofs.tees.first_broken.Goals as goal

pub returns-then-not-is_tee : goal.returns-then-not-is_tee
returns-then-not-is_tee c =
    sym (first_position (λ t. not (is_tee c.args.nodes.now c.args.elements.now t)) c.args.tees.now c.loop-number.number _ c.loop-number-test.true (λ k before. c.loop-number.invariant k _ before)
    (ap not (sym c.is_tee.ensures ∙ c.if-not-is_tee.true)))

pub returns : goal.returns
returns c =
    sym (no_position (λ t. not (is_tee c.args.nodes.now c.args.elements.now t)) c.args.tees.now (λ k d inside. c.loop-number.invariant k d (omega (arith, inside, c.loop-number-test.false))))
