use Rattle.std.proofs.Common.{◌≡◌, ℕ, ◌-◌, List, [], length, ◌∙◌, ap, arith, Vec, Global, ℤ}
use Rattle.std.proofs.lemmas.List.{map_push}
use Rattle.lists.specs.Lists.{contents}
use Rattle.dense_front.proofs.RoomLemmas.{pushed}
use Rattle.dense_front.proofs.room.zero_columns.Goals as goal

pub loop-column-init : goal.loop-column-init
loop-column-init c = (ap (λ (vs : List (Vec ℤ Global)). length (contents vs)) c.in_ok-columns.ensures.items, λ c' lt. absurd (omega arith))

pub loop-column-preserved : goal.loop-column-preserved
loop-column-preserved c =
    let is = ap (λ (vs : List (Vec ℤ Global)). contents vs) c.in_ok-push.ensures.items ∙ map_push (λ (v : Vec ℤ Global). v.items) c.loop-column.columns.items c.in_ok-vec.field-0 in
    let long : length c.in_ok-vec.field-0.items ≡ c.args.rows - c.loop-column.column = omega (arith, c.in_ok-vec.ensures.len, c.in_ok-vec.field-0.ok.0) in
    pushed (λ n xs. length xs ≡ c.args.rows - n) (contents c.loop-column.columns.items) (contents c.push.new.self.items) c.in_ok-vec.field-0.items [] c.loop-column.column c.loop-column.invariant.0 is long c.loop-column.invariant.1

pub returns : goal.returns
returns c =
    let end : c.loop-column.column ≡ 6 = omega arith in
    record { count = c.loop-column.invariant.0 ∙ end; long = λ n lt. c.loop-column.invariant.1 n (omega (arith, end, lt)) }
