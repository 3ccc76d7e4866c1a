use Rattle.std.proofs.Common.{◌≡◌, ◌<◌, ◌++◌, ◌⊎◌, inl, inr, List, ap, ◌∙◌, arith}
use Rattle.member_set.specs.declared.members.Law.{Law}
use Rattle.structure.proofs.Runs.{flat_map_range_more}
use Rattle.load_vectors.specs.Laws.{restraint_laws}
use Rattle.load_vectors.proofs.member_laws.push_restraint_laws.Goals as goal

pub loop-number-preserved : goal.loop-number-preserved
loop-number-preserved c =
    let m = c.args.m.now in
    let n = c.loop-number.number in
    let laws = restraint_laws m c.args.case.0 in
    record {
      value = c.in_ok-push_laws.ensures.value ∙ ap (λ (xs : List Law). xs ++ laws n) c.loop-number.invariant.value ∙ flat_map_range_more laws c.args.laws.now.items n;
      encloses = λ k part below inside.
          let which : (k ≡ n) ⊎ (k < n) = search arith in
          elim which [
            | inl e ↦ rw e (c.in_ok-push_laws.ensures.encloses part (rw e at inside))
            | inr less ↦ c.loop-number.invariant.encloses k part less inside
          ];
    }
