use Rattle.std.proofs.Common.{◌≡◌, true, ◌&&◌, ap, sym, ◌∙◌, pos, int_le, FitsSigned, to_z-of_z}
use Rattle.std.specs.Int.{w128}
use Rattle.flex_interval.specs.Operations.{holds_zero}
use Rattle.flex_interval.proofs.EndsLemmas.{small_fits}
use Rattle.flex_interval.proofs.order.holds_zero.Goals as goal

pub returns-then-a-le0 : goal.returns-then-a-le0
returns-then-a-le0 c =
    let lo_fits : FitsSigned w128 c.a.inside.lo = small_fits c.a.invariant.lo_small in
    let hi_fits : FitsSigned w128 c.a.inside.hi = small_fits c.a.invariant.hi_small in
    let low : int_le c.a.inside.lo (pos 0) ≡ true = rw (to_z-of_z lo_fits) at c.if-a-le0.true in
    rw (to_z-of_z hi_fits) (ap (λ b. b && int_le (pos 0) c.a.inside.hi) (sym low) ∙ ap holds_zero c.a.view_is)
