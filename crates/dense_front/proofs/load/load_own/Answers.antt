use Rattle.std.proofs.Common.{◌≡◌, ℕ, ◌+◌, ◌*◌, ◌<◌, length, ◌∙◌, ap, subst, sym, refl, arith, inl, inr, mul-le-mul_left, ℤ, to_z, of_z}
use Rattle.std.specs.Int.{w128}
use Rattle.std.proofs.lemmas.Int.{to_z-of_z}
use Rattle.std.proofs.lemmas.Bool.{cases_eq}
use Rattle.sym_blocks.specs.Matrix.{entry}
use Rattle.cholesky_laws.specs.Recurrence.{scaled_stiffness}
use Rattle.dense_front.specs.Square.{at_square}
use Rattle.dense_front.proofs.SquareLemmas.{column-before}
use Rattle.dense_front.proofs.load.load_own.Goals as goal

pub loop-column-init : goal.loop-column-init
loop-column-init c = (refl, (λ r c' lt rl. absurd (omega arith)), λ r c' le rl. c.clear.ensures.zero _)

pub loop-column-preserved : goal.loop-column-preserved
loop-column-preserved c =
    let size = 6 * length c.args.nodes.now in
    let column = c.loop-column.column in
    let put = c.load_column.ensures.put in
    let shift = to_z w128 (of_z w128 c.args.shift) in (
      c.load_column.ensures.whole ∙ c.loop-column.invariant.0,
      (λ r c' lt rl.
          elim (cases_eq c' column) [
            | inl e ↦
                (let P : ℕ → Type 0 = λ x. at_square size c.load_column.new.square r x ≡ scaled_stiffness (entry c.args.k.now) c.args.nodes.now shift r x in
                subst P (sym e) (put.put r rl))
            | inr apart ↦ put.others (size * c' + r) (inl (column-before size c' column r (omega arith) rl)) ∙ c.loop-column.invariant.1 r c' (omega arith) rl
          ]),
      λ r c' le rl.
          let past = mul-le-mul_left size le in
          put.others (size * c' + r) (inr (omega (arith, past))) ∙ c.loop-column.invariant.2 r c' (omega arith) rl,
    )

pub returns-clause-own : goal.returns-clause-own
returns-clause-own c r c' cl rl =
    c.loop-column.invariant.1 r c' (omega arith) rl ∙ ap (λ (z : ℤ). scaled_stiffness (entry c.args.k.now) c.args.nodes.now z r c') (to_z-of_z w128 c.args.shift c.ranges.shift)
