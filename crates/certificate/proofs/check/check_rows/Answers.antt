use Rattle.std.proofs.Common.{rules, arith, refl, subst, sym, ◌∙◌, ◌≡◌, ◌<◌, ◌+◌, ◌*◌, ◌^◌, ℕ, ℤ, pos, to_z}
use Rattle.std.proofs.lemmas.Int.{ints, to_z_pos}
use mir.Syntax.{w128}
use Rattle.sym_blocks.specs.Matrix.{node_count}
use Rattle.certificate.specs.declared.check.Verdict.TheVariants.{Yes}
use Rattle.bound_laws.specs.Definiteness.{CholeskyTest}
use Rattle.certificate.specs.Checker.{test_of, IsVerdict}
use Rattle.certificate.proofs.CheckLemmas.{PassBelow, pass-more, pass-all, verdict-proves}
use Rattle.certificate.proofs.check.check_rows.Goals as goal

-- the answer after all rows, where lambda is cast
answer : (t : CholeskyTest) (n lambda : ℕ) → 0 < n → n ≡ t.size → PassBelow t n lambda → IsVerdict t (Yes (to_z w128 lambda))
answer t n lambda some size passes =
    let P : ℕ → Type 0 = λ k. PassBelow t k lambda in
    let whole = pass-all t lambda (omega (arith, some, size)) (subst P size passes) in
    let Q : ℤ → Type 0 = λ z. IsVerdict t (Yes z) in
    subst Q (sym (to_z_pos w128 lambda whole.0)) whole.1

pub loop-row-preserved : goal.loop-row-preserved
loop-row-preserved c =
    let P : ℕ → Type 0 = λ n. PassBelow (test_of c.args.middle.now c.args.radii.now c.args.g.now (pos c.args.shift)) (c.loop-row.row + 1) n in
    let small : c.in-Some.margin < 2 ^ 128 = search rules in
    let judged = c.in-Some.ensures.cases.0 in
    record {
      kept = c.in-Some.ensures.kept ∙ c.loop-row.invariant.kept;
      passes = subst P (sym c.min-lambda.ensures)
          (pass-more (test_of c.args.middle.now c.args.radii.now c.args.g.now (pos c.args.shift)) c.loop-row.row c.loop-row.lambda c.in-Some.margin refl c.loop-row.invariant.passes judged.0 judged.1 small);
    }

pub returns-clause-verdict : goal.returns-clause-verdict
returns-clause-verdict c =
    let end : c.loop-row.row ≡ 6 * node_count c.args.middle.now = omega (arith, c.loop-row.auto.row-end, c.requires.rows) in
    answer (test_of c.args.middle.now c.args.radii.now c.args.g.now (pos c.args.shift)) c.loop-row.row c.loop-row.lambda (omega (arith, c.requires.one_row)) end c.loop-row.invariant.passes

pub returns-clause-proof : goal.returns-clause-proof
returns-clause-proof c =
    verdict-proves c.passed_test_is_proof.ensures (test_of c.args.middle.now c.args.radii.now c.args.g.now (pos c.args.shift)) (Yes (to_z w128 c.loop-row.lambda)) (omega (arith, ints)) (returns-clause-verdict c)
