use Rattle.std.proofs.Common.{rules, ◌≡◌, ℕ, ◌+◌, ◌*◌, ◌<◌, length, get_or, set, ◌∙◌, ap, subst, sym, arith, inl, inr, pos, FitsSigned, to_z, of_z, to_z-of_z}
use Rattle.std.specs.Int.{w64}
use Rattle.std.proofs.lemmas.Bool.{cases_eq}
use Rattle.std.proofs.lemmas.List.{get_or-set_same, get_or-set_other, length-set}
use Rattle.std.proofs.lemmas.List.FromFn.{fill_by_all}
use Rattle.dense_front.specs.Square.{by_rows}
use Rattle.dense_front.proofs.columns.fill_column.Goals as goal

pub loop-k-preserved : goal.loop-k-preserved
loop-k-preserved c =
    let cur = c.loop-k.list in
    let at = c.loop-k.k in
    let column = c.args.column in
    let entry = get_or c.args.entries.now (6 * (column + at) + column) (pos 0) in
    let y = to_z w64 (of_z w64 entry) in
    let fits : FitsSigned w64 entry = search rules in (
      length-set cur at y ∙ c.loop-k.invariant.0,
      λ s lt.
          elim (cases_eq s at) [
            | inl e ↦
                (let P : ℕ → Type 0 = λ x. get_or (set cur at y) x (pos 0) ≡ by_rows c.args.entries.now (column + x) column in
                subst P (sym e) (get_or-set_same cur at y (pos 0) (omega (arith, c.loop-k.invariant.0)) ∙ to_z-of_z fits))
            | inr apart ↦ get_or-set_other cur at s y (pos 0) apart ∙ c.loop-k.invariant.1 s (omega arith)
          ],
    )

pub returns : goal.returns
returns c =
    fill_by_all (λ k. by_rows c.args.entries.now (c.args.column + k) c.args.column) c.loop-k.list (length c.args.list.now) (pos 0) c.loop-k.invariant.0 (λ k lt. c.loop-k.invariant.1 k (omega (arith, c.loop-k.invariant.0, lt)))
