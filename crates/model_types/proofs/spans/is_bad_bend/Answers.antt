use Rattle.std.proofs.Common.{rules, ◌≡◌, false, FitsSigned, to_z-of_z, sym, ◌∙◌}
use Rattle.std.specs.Int.{w64}
use Rattle.model_types.specs.Bends.{difference_between, are_parallel}
use Rattle.model_types.proofs.SpanLemmas.{by_first, by_last}
use Rattle.model_types.proofs.spans.is_bad_bend.Goals as goal

pub returns-then-is_under_half : goal.returns-then-is_under_half
returns-then-is_under_half c =
    let d_fits : FitsSigned w64 c.args.section.now.d = search rules in
    let test = rw (to_z-of_z c.ranges.r, to_z-of_z d_fits) at c.is_under_half.ensures in
    by_first _ _ _ _ (sym test ∙ c.if-is_under_half.true)

pub returns : goal.returns
returns c =
    let d_fits : FitsSigned w64 c.args.section.now.d = search rules in
    let under = rw (to_z-of_z c.ranges.r, to_z-of_z d_fits) at c.is_under_half.ensures in
    let line : are_parallel (difference_between c.args.from.now c.args.to.now) c.args.corner.now ≡ false =
    sym (rw c.difference_between.ensures at c.are_parallel.ensures) ∙ c.if-are_parallel.false in
    let last = rw (to_z-of_z c.ranges.r, c.square_distance.ensures) at c.misfits.ensures in
    last ∙ by_last _ _ _ _ (sym under ∙ c.if-is_under_half.false) (sym c.is_far.ensures ∙ c.if-is_far.false) line
