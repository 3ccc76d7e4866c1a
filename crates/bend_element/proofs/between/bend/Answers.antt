use Rattle.std.proofs.lemmas.Result.{IfOk-weaker}
use Rattle.member_pairs.specs.Vectors.{way_of, parts_of}
use Rattle.bend_element.specs.Normal.{normal_to, normal_parts}
use Rattle.bend_element.specs.Vectors.{place_by}
use Rattle.bend_element.proofs.SomeWithin.{length_exists, normal_length_exists}
use Rattle.bend_element.proofs.between.bend.Goals as goal

pub returns-clause-within : goal.returns-clause-within
returns-clause-within c =
    let normal = rw (c.plane_normal.ensures.value, c.way_between-way.ensures.value) at c.in_ok-normal.ensures.value in
    let within = rw (c.round_tube.ensures.value, c.way_between-way.ensures.value) at c.bend_members.ensures.within in
    IfOk-weaker c.bend_members.result _ _
    (λ members encloses x place pi arc frame in_pi. encloses x place pi (rw c.arc_along-arc.ensures.value at arc) (rw (← normal) at frame) in_pi)
    within

pub returns-clause-some : goal.returns-clause-some
returns-clause-some c =
    let arc = c.arc_along-arc.ensures.some in
    let normal = rw (c.plane_normal.ensures.value, c.way_between-way.ensures.value) at c.in_ok-normal.ensures.value in
    let across = rw (c.plane_normal.ensures.value, c.way_between-way.ensures.value) at c.in_ok-normal.ensures.within in
    let place = rw c.way_between-way.ensures.value at c.bend_members.ensures.place in
    let way = way_of c.args.from.now c.args.to.now in
    let corner = c.args.curve.now.corner in
    let l = length_exists (parts_of way) in
    let n = normal_length_exists (normal_parts (normal_to way corner)) in
    IfOk-weaker c.bend_members.result _ _
    (λ members made. (arc.0, place_by way corner l.0 n.0, rw c.arc_along-arc.ensures.value arc.1, rw (← normal) (made l.0 _ l.1 (across n.0 n.1))))
    place
