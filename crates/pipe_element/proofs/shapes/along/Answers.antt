use Rattle.std.proofs.Common.{rules, ◌≡◌, FitsSigned, to_z, of_z, to_z-of_z}
use Rattle.std.proofs.lemmas.Result.{err_from_is_err_and}
use Rattle.std.specs.Int.{w64, w128}
use Rattle.pipe_element.specs.Rounded.{along_of}
use Rattle.pipe_element.proofs.shapes.along.Goals as goal

pub returns-in_err-y-clause-value : goal.returns-in_err-y-clause-value
unfolding along_of
returns-in_err-y-clause-value c =
    let x_fits : FitsSigned w64 c.args.way.now.x = search rules in
    let y_fits : FitsSigned w64 c.args.way.now.y = search rules in
    let from_x : FitsSigned w128 c.from.result = search rules in
    let from_y : FitsSigned w128 c.from-2.result = search rules in
    let p = err_from_is_err_and c.from_residual-in_err-y.result c.from_residual-in_err-y.ensures.1 in
    let x = rw (to_z-of_z from_x, c.from.ensures, to_z-of_z x_fits) at c.in_ok-x.ensures.value in
    let y = rw (to_z-of_z from_y, c.from-2.ensures, to_z-of_z y_fits) at c.in_err-y.ensures.value in
    rw (p.1, p.2, ← x, ← y)

pub returns-in_err-z-clause-value : goal.returns-in_err-z-clause-value
unfolding along_of
returns-in_err-z-clause-value c =
    let x_fits : FitsSigned w64 c.args.way.now.x = search rules in
    let y_fits : FitsSigned w64 c.args.way.now.y = search rules in
    let z_fits : FitsSigned w64 c.args.way.now.z = search rules in
    let from_x : FitsSigned w128 c.from.result = search rules in
    let from_y : FitsSigned w128 c.from-2.result = search rules in
    let from_z : FitsSigned w128 c.from-3.result = search rules in
    let p = err_from_is_err_and c.from_residual-in_err-z.result c.from_residual-in_err-z.ensures.1 in
    let x = rw (to_z-of_z from_x, c.from.ensures, to_z-of_z x_fits) at c.in_ok-x.ensures.value in
    let y = rw (to_z-of_z from_y, c.from-2.ensures, to_z-of_z y_fits) at c.in_ok-y.ensures.value in
    let z = rw (to_z-of_z from_z, c.from-3.ensures, to_z-of_z z_fits) at c.in_err-z.ensures.value in
    rw (p.1, p.2, ← x, ← y, ← z)

x_is : (c : goal.In_ok-z) → to_z w128 (of_z w128 c.from.result) ≡ c.args.way.now.x
x_is c =
    let fits : FitsSigned w64 c.args.way.now.x = search rules in
    let from_fits : FitsSigned w128 c.from.result = search rules in
    rw (to_z-of_z from_fits) (rw (to_z-of_z fits) at c.from.ensures)

y_is : (c : goal.In_ok-z) → to_z w128 (of_z w128 c.from-2.result) ≡ c.args.way.now.y
y_is c =
    let fits : FitsSigned w64 c.args.way.now.y = search rules in
    let from_fits : FitsSigned w128 c.from-2.result = search rules in
    rw (to_z-of_z from_fits) (rw (to_z-of_z fits) at c.from-2.ensures)

z_is : (c : goal.In_ok-z) → to_z w128 (of_z w128 c.from-3.result) ≡ c.args.way.now.z
z_is c =
    let fits : FitsSigned w64 c.args.way.now.z = search rules in
    let from_fits : FitsSigned w128 c.from-3.result = search rules in
    rw (to_z-of_z from_fits) (rw (to_z-of_z fits) at c.from-3.ensures)

pub returns-clause-value : goal.returns-clause-value
unfolding along_of
returns-clause-value c =
    let x = rw (x_is c) at c.in_ok-x.ensures.value in
    let y = rw (y_is c) at c.in_ok-y.ensures.value in
    let z = rw (z_is c) at c.in_ok-z.ensures.value in
    rw (← x, ← y, ← z)

pub returns-clause-within : goal.returns-clause-within
returns-clause-within c = λ t within. record {
  x = λ _. rw (x_is c) at (c.in_ok-x.ensures.within t within);
  y = λ _. rw (y_is c) at (c.in_ok-y.ensures.within t within);
  z = λ _. rw (z_is c) at (c.in_ok-z.ensures.within t within);
}
