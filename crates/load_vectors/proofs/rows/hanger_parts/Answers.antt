use Rattle.std.proofs.Common.{pos, to_z-of_z}
use Rattle.load_vectors.proofs.PartLemmas.{IsUnits, parts_of_whole}
use Rattle.load_vectors.proofs.rows.hanger_parts.Goals as goal

pub returns : goal.returns
returns c =
    let none : IsUnits (pos 0) c.units-none.result = record { value = c.units-none.ensures.value; within = c.units-none.ensures.within; size = c.units-none.ensures.size } in
    let up : IsUnits c.args.load c.units.result =
    record { value = rw (to_z-of_z c.ranges.load) at c.units.ensures.value; within = rw (to_z-of_z c.ranges.load) at c.units.ensures.within; size = c.units.ensures.size } in
    λ node. parts_of_whole node (pos 0) (pos 0) c.args.load (pos 0) (pos 0) (pos 0) _ _ _ _ _ _ none none up none none none
