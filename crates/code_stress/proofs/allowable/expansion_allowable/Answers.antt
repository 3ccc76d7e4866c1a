use Rattle.std.proofs.Common.{to_z-of_z}
use Rattle.std.proofs.lemmas.Result.{IfOk-weaker}
use Rattle.code_stress.proofs.allowable.expansion_allowable.Goals as goal

pub returns-clause-within : goal.returns-clause-within
returns-clause-within c =
    let range = rw (to_z-of_z c.ranges.sc, to_z-of_z c.ranges.sh) at c.in_ok-range.ensures.within in
    IfOk-weaker c.mul.result _ _ (λ e encloses x s in_x is_s. encloses x _ in_x (range s is_s)) c.mul.ensures.within
