use Rattle.std.proofs.Common.{rules, ap, sym, cond, ◌-ℤ◌, FitsSigned, to_z-of_z}
use Rattle.std.specs.Int.{w64}
use Rattle.section_data.proofs.tube.wall.Goals as goal

pub returns-then-reduced-clause-value : goal.returns-then-reduced-clause-value
returns-then-reduced-clause-value c =
    let s = c.args.s.now in
    let wall_fits : FitsSigned w64 s.t = search rules in
    let allowance_fits : FitsSigned w64 s.allowance = search rules in
    let left_fits : FitsSigned w64 (s.t -ℤ s.allowance) = search rules in
    rw (to_z-of_z wall_fits, to_z-of_z allowance_fits, to_z-of_z left_fits) (ap (λ b. cond b (s.t -ℤ s.allowance) s.t) (sym c.if-reduced.true))
