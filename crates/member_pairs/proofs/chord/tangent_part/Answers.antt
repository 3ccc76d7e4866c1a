use Rattle.std.proofs.Common.{FitsSigned, to_z-of_z}
use Rattle.std.proofs.lemmas.Result.{IfOk-weaker}
use Rattle.std.specs.Int.{w64}
use Rattle.member_pairs.proofs.chord.tangent_part.Goals as goal

pub returns-clause-within : goal.returns-clause-within
returns-clause-within c =
    let fits : FitsSigned w64 c.args.part = c.ranges.part in
    IfOk-weaker c.div.result _ _
    (λ e encloses l in_l. encloses _ l (rw (to_z-of_z fits) at c.raised.ensures.within) in_l)
    c.div.ensures.within
