use Rattle.std.proofs.Common.{◌≡◌, ◌^◌, pos, ◌-ℤ◌, ◌*ℤ◌, to_z, of_z, to_z-of_z, ap, ◌∙◌, arith}
use Rattle.std.specs.Int.{w128}
use Rattle.int_laws.specs.Division.{floor_of, IsFloor}
use Rattle.int_laws.proofs.Sums.{int_sums}
use Rattle.model_types.specs.Bends.{from_zero, shortest_chord}
use Rattle.model_types.proofs.SpanLemmas.{chord_low, chord_high, chord_fits, floor_low, floor_high, less_is, from_zero-small}
use Rattle.model_types.proofs.spans.shortest_chord.Goals as goal

pub returns : goal.returns
unfolding shortest_chord
returns c =
    let p = (pos 2 *ℤ c.args.r) *ℤ c.args.sine in
    let p_low = chord_low c.args.r c.args.sine c.requires.radius c.requires.least in
    let p_high = chord_high c.args.r c.args.sine c.requires.radius c.requires.least c.requires.most in
    let product : c.twice_by.result ≡ p = rw (to_z-of_z c.ranges.r, to_z-of_z c.ranges.sine) at c.twice_by.ensures.value in
    let read : to_z w128 (of_z w128 c.twice_by.result) ≡ p = ap (λ x. to_z w128 (of_z w128 x)) product ∙ to_z-of_z (chord_fits p p_low p_high) in
    let quotient : c.floor_div.result ≡ floor_of p (pos (2 ^ 56)) = rw read at c.floor_div.ensures.value in
    let meaning : IsFloor p (pos (2 ^ 56)) c.floor_div.result = rw read at c.floor_div.ensures.meaning in
    let low = floor_low p c.floor_div.result p_low meaning in
    let high = floor_high p c.floor_div.result p_high meaning in
    let is : c.from_zero.result ≡ from_zero (c.floor_div.result -ℤ pos 1000) = rw (less_is c.floor_div.result low high) at c.from_zero.ensures in
    record {
      value = is ∙ ap (λ q. from_zero (q -ℤ pos 1000)) quotient;
      small = rw is (from_zero-small (c.floor_div.result -ℤ pos 1000) (omega (arith, int_sums, high)));
    }
