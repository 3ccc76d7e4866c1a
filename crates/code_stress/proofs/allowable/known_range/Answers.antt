use Rattle.std.proofs.Common.{◌≡◌, sym, ◌∙◌, true, to_z-of_z}
use Rattle.std.proofs.lemmas.Result.{IfOk-weaker}
use Rattle.code_stress.specs.Allowable.{is_below}
use Rattle.code_stress.proofs.allowable.known_range.Goals as goal

pub returns-then-is_below-clause-within : goal.returns-then-is_below-clause-within
returns-then-is_below-clause-within c =
    let same = rw (to_z-of_z c.ranges.sh) at c.is_below.ensures in
    let test : is_below c.args.sl c.args.sh ≡ true = sym same ∙ c.if-is_below.true in
    let full = rw (to_z-of_z c.ranges.sc, to_z-of_z c.ranges.sh) at c.full.ensures.within in
    rw test (IfOk-weaker c.sub.result _ _ (λ e encloses s in_s. encloses _ s full in_s) c.sub.ensures.within)
