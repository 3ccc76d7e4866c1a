use Rattle.std.proofs.Common.{arith}
use Rattle.std.proofs.lemmas.Int.{ints}
use Rattle.std.proofs.lemmas.Result.{err_from_is_err_and, IfOk-weaker}
use Rattle.pipe_element.specs.Straight.{straight_of}
use Rattle.pipe_element.proofs.BeamLaw.{members_are_a_beam}
use Rattle.pipe_element.proofs.members.straight.Goals as goal

pub returns-in_err-length-clause-value : goal.returns-in_err-length-clause-value
unfolding straight_of
returns-in_err-length-clause-value c =
    let length = rw c.way_between-way.ensures.value at c.in_err-length.ensures in
    let p = err_from_is_err_and c.from_residual.result c.from_residual.ensures.1 in
    rw (p.1, ← length)

pub returns-in_err-length-clause-beam : goal.returns-in_err-length-clause-beam
returns-in_err-length-clause-beam c = λ pi l within length.
    members_are_a_beam _ _ pi l (omega (arith, ints, c.requires.material.nu.least)) within.defined length

pub returns-in_err-stiffness-clause-value : goal.returns-in_err-stiffness-clause-value
unfolding straight_of
returns-in_err-stiffness-clause-value c =
    let way = c.way_between-way.ensures.value in
    let length = rw way at c.in_ok-length.ensures in
    let stiffness = rw (way, c.round_tube.ensures.value) at c.in_err-stiffness.ensures.value in
    let p = err_from_is_err_and c.from_residual-in_err-stiffness.result c.from_residual-in_err-stiffness.ensures.1 in
    rw (p.1, ← length, ← stiffness)

pub returns-in_err-stiffness-clause-beam : goal.returns-in_err-stiffness-clause-beam
returns-in_err-stiffness-clause-beam c = λ pi l within length.
    members_are_a_beam _ _ pi l (omega (arith, ints, c.requires.material.nu.least)) within.defined length

pub returns-in_err-shapes-clause-value : goal.returns-in_err-shapes-clause-value
unfolding straight_of
returns-in_err-shapes-clause-value c =
    let way = c.way_between-way.ensures.value in
    let length = rw way at c.in_ok-length.ensures in
    let stiffness = rw (way, c.round_tube.ensures.value) at c.in_ok-stiffness.ensures.value in
    let shapes = rw way at c.in_err-shapes.ensures.value in
    let p = err_from_is_err_and c.from_residual-in_err-shapes.result c.from_residual-in_err-shapes.ensures.1 in
    rw (p.1, ← length, ← stiffness, ← shapes)

pub returns-in_err-shapes-clause-beam : goal.returns-in_err-shapes-clause-beam
returns-in_err-shapes-clause-beam c = λ pi l within length.
    members_are_a_beam _ _ pi l (omega (arith, ints, c.requires.material.nu.least)) within.defined length

pub returns-clause-value : goal.returns-clause-value
unfolding straight_of
returns-clause-value c =
    let way = c.way_between-way.ensures.value in
    let length = rw way at c.in_ok-length.ensures in
    let stiffness = rw (way, c.round_tube.ensures.value) at c.in_ok-stiffness.ensures.value in
    let shapes = rw way at c.in_ok-shapes.ensures.value in
    rw (← length, ← stiffness, ← shapes) c.limited.ensures.value

pub returns-clause-within : goal.returns-clause-within
returns-clause-within c =
    let way = c.way_between-way.ensures.value in
    let length = rw way at c.in_ok-length.ensures in
    let stiffness = rw (way, c.round_tube.ensures.value) at c.in_ok-stiffness.ensures.within in
    let shapes = rw way at c.in_ok-shapes.ensures.within in
    IfOk-weaker c.limited.result _ _
    (λ members encloses pi l in_pi in_l.
    let in_length = rw (← length) at in_l in
    encloses _ _ pi l (stiffness pi l in_pi in_length) (shapes l in_length))
    c.limited.ensures.within

pub returns-clause-beam : goal.returns-clause-beam
returns-clause-beam c = λ pi l within length.
    members_are_a_beam _ _ pi l (omega (arith, ints, c.requires.material.nu.least)) within.defined length
