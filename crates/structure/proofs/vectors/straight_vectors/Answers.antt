use Rattle.std.proofs.Common.{◌≡◌, Ok, ap, sym, ◌∙◌}
use Rattle.flex_interval.specs.Fraction.{Fraction}
use Rattle.member_pairs.specs.Lengths.{length_of, tangent, IsLengthWithin}
use Rattle.member_pairs.specs.Vectors.{EnclosesVector, parts_of, way_of}
use Rattle.member_pairs.specs.declared.way.Way.{Way}
use Rattle.structure.proofs.StationLemmas.{length_found, tangent_found, straight_end}
use Rattle.structure.proofs.vectors.straight_vectors.Goals as goal

pub unwrap-length-requires : goal.unwrap-length-requires
unwrap-length-requires c =
    length_found c.args.from.now c.args.to.now c.way_between-way.result c.length.result c.requires.found c.way_between-way.ensures.value c.length.ensures

pub unwrap-along-requires : goal.unwrap-along-requires
unwrap-along-requires c =
    (tangent_found c.args.from.now c.args.to.now c.way_between-way.result c.unwrap-length.result c.tangent.result c.requires.found c.way_between-way.ensures.value
    (sym c.length.ensures ∙ c.unwrap-length.ensures) c.tangent.ensures.value).0

pub returns-clause-value : goal.returns-clause-value
returns-clause-value c =
    (tangent_found c.args.from.now c.args.to.now c.way_between-way.result c.unwrap-length.result c.tangent.result c.requires.found c.way_between-way.ensures.value
    (sym c.length.ensures ∙ c.unwrap-length.ensures) c.tangent.ensures.value).1 c.unwrap-along.result c.unwrap-along.ensures

pub returns-clause-holds : goal.returns-clause-holds
returns-clause-holds c = λ m n end.
    let way = way_of c.args.from.now c.args.to.now in
    let same = c.way_between-way.ensures.value in
    let long : length_of (parts_of way) ≡ Ok c.unwrap-length.result = ap (λ (w : Way). length_of (parts_of w)) (sym same) ∙ sym c.length.ensures ∙ c.unwrap-length.ensures in
    let held = rw (c.unwrap-along.ensures, same) at c.tangent.ensures.within in
    let along : (l : Fraction) → IsLengthWithin (parts_of way) l → EnclosesVector c.unwrap-along.result (tangent (parts_of way) l) = λ l inside. held l (rw long at inside) in
    straight_end m n end way c.unwrap-along.result along
