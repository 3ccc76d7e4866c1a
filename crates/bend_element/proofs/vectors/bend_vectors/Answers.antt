use Rattle.std.proofs.Common.{sym}
use Rattle.member_pairs.specs.Vectors.{way_of}
use Rattle.std.proofs.lemmas.Result.{IfOk-weaker}
use Rattle.bend_element.proofs.MadeVectors.{vectors_made, no_normal, no_frame, vectors_in_frame}
use Rattle.bend_element.proofs.vectors.bend_vectors.Goals as goal

pub returns-clause-within : goal.returns-clause-within
returns-clause-within c =
    let way = c.way_between-way.ensures.value in
    let normal = rw (c.plane_normal.ensures.value, way) at c.in_ok-normal.ensures.value in
    let frame = rw way at c.in_ok-frame.ensures.within in
    let half = c.half-half.ensures.value in
    IfOk-weaker c.vectors_in.result _ _
    (λ v encloses place cos sin in_place in_half.
    encloses place cos sin (frame place (rw (← normal) at in_place)) (rw half.cos at in_half.cosine) (rw half.sin at in_half.sine))
    c.vectors_in.ensures.within

pub returns-clause-place : goal.returns-clause-place
returns-clause-place c =
    let way = c.way_between-way.ensures.value in
    let normal = rw (c.plane_normal.ensures.value, way) at c.in_ok-normal.ensures.value in
    let across = rw (c.plane_normal.ensures.value, way) at c.in_ok-normal.ensures.within in
    let length = rw (c.plane_normal.ensures.value, way) at c.in_ok-normal.ensures.length in
    let frame = rw way at c.in_ok-frame.ensures.place in
    IfOk-weaker c.vectors_in.result _ _
    (λ v encloses chord l in_chord is_l. rw (← normal) (frame chord _ in_chord (across l (length l is_l))))
    c.vectors_in.ensures.within

pub returns-in_err-normal-clause-found : goal.returns-in_err-normal-clause-found
returns-in_err-normal-clause-found c = λ e tube s ok.
    let way = way_of c.args.from.now c.args.to.now in
    let half = c.half-half.ensures.value in
    let fault = rw (c.plane_normal.ensures.value, c.way_between-way.ensures.value) at c.in_err-normal.ensures.value in
    absurd (no_normal way c.args.curve.now _ (sym fault) (vectors_made e tube s way c.args.curve.now _ _ half.cos half.sin ok))

pub returns-in_err-frame-clause-found : goal.returns-in_err-frame-clause-found
returns-in_err-frame-clause-found c = λ e tube s ok.
    let way = way_of c.args.from.now c.args.to.now in
    let half = c.half-half.ensures.value in
    let normal = rw (c.plane_normal.ensures.value, c.way_between-way.ensures.value) at c.in_ok-normal.ensures.value in
    let fault = rw c.way_between-way.ensures.value at c.in_err-frame.ensures.value in
    absurd (no_frame way c.args.curve.now _ _ (sym normal) (sym fault) (vectors_made e tube s way c.args.curve.now _ _ half.cos half.sin ok))

pub returns-clause-found : goal.returns-clause-found
returns-clause-found c = λ e tube s ok.
    let way = way_of c.args.from.now c.args.to.now in
    let half = c.half-half.ensures.value in
    let normal = rw (c.plane_normal.ensures.value, c.way_between-way.ensures.value) at c.in_ok-normal.ensures.value in
    let frame = rw c.way_between-way.ensures.value at c.in_ok-frame.ensures.value in
    rw c.vectors_in.ensures.value
    (vectors_in_frame way c.args.curve.now _ _ _ _ (sym normal) (sym frame) half.cos half.sin (vectors_made e tube s way c.args.curve.now _ _ half.cos half.sin ok))
