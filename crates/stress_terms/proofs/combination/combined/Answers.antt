use Rattle.std.proofs.lemmas.Result.{IfOk-weaker}
use Rattle.stress_terms.proofs.EnclosureLemmas.{stress_encloses}
use Rattle.stress_terms.proofs.combination.combined.Goals as goal

pub returns-clause-encloses : goal.returns-clause-encloses
returns-clause-encloses c = IfOk-weaker c.root-2.result _ _ (λ e encloses a q t in_a in_q in_t.
    stress_encloses c.args.axial c.args.bending_square c.args.torsion c.in_ok-bending.bending c.in_ok-direct.direct c.in_ok-normal.normal c.in_ok-shear.shear c.in_ok-total.total e a q t
    (record {
      axial_lo = c.requires.axial;
      torsion_lo = c.requires.torsion;
      direct_lo = c.in_ok-direct.ensures.from_zero;
      normal_lo = c.in_ok-normal.ensures.from_zero;
      shear_lo = c.in_ok-shear.ensures.from_zero;
      total_lo = c.in_ok-total.ensures.from_zero;
      root = c.in_ok-bending.ensures.encloses;
      sum = c.in_ok-direct.ensures.within;
      direct_square = c.in_ok-normal.ensures.within;
      torsion_square = c.in_ok-shear.ensures.within;
      squares = c.in_ok-total.ensures.within;
      root_of_total = encloses;
    }) in_a in_q in_t) c.root-2.ensures.encloses

pub returns-clause-from_zero : goal.returns-clause-from_zero
returns-clause-from_zero c = IfOk-weaker c.root-2.result _ _ (λ e encloses. encloses.nonnegative) c.root-2.ensures.encloses
