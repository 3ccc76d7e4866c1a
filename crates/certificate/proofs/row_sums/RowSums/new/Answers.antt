use Rattle.std.proofs.Common.{arith, refl}
use Rattle.certificate.proofs.RowSumLemmas.{tracked-new}
use Rattle.certificate.proofs.row_sums.RowSums.new.Goals as goal

pub invariant_of-result : goal.invariant_of-result
invariant_of-result c =
    let sums = c.in_ok-sums.ensures.items_if_clones_equal (λ _ e. e) in
    rw (sums, c.in_ok-touched.ensures.items) (tracked-new c.args.positions _ _ (omega (arith, c.in_ok-touched.ensures.exact)) refl)
