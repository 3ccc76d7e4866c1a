use Rattle.std.proofs.Common.{rules, FitsSigned, to_z-of_z}
use Rattle.std.specs.Int.{w64}
use Rattle.load_vectors.proofs.PartLemmas.{IsUnits, parts_of_whole}
use Rattle.load_vectors.proofs.rows.force_parts.Goals as goal

pub returns : goal.returns
returns c =
    let f = c.args.force.now in
    let fx : FitsSigned w64 f.fx = search rules in
    let fy : FitsSigned w64 f.fy = search rules in
    let fz : FitsSigned w64 f.fz = search rules in
    let mx : FitsSigned w64 f.mx = search rules in
    let my : FitsSigned w64 f.my = search rules in
    let mz : FitsSigned w64 f.mz = search rules in
    let a : IsUnits f.fx c.units.result = record { value = rw (to_z-of_z fx) at c.units.ensures.value; within = rw (to_z-of_z fx) at c.units.ensures.within; size = c.units.ensures.size } in
    let b : IsUnits f.fy c.units-2.result = record { value = rw (to_z-of_z fy) at c.units-2.ensures.value; within = rw (to_z-of_z fy) at c.units-2.ensures.within; size = c.units-2.ensures.size } in
    let d : IsUnits f.fz c.units-3.result = record { value = rw (to_z-of_z fz) at c.units-3.ensures.value; within = rw (to_z-of_z fz) at c.units-3.ensures.within; size = c.units-3.ensures.size } in
    let e : IsUnits f.mx c.units-4.result = record { value = rw (to_z-of_z mx) at c.units-4.ensures.value; within = rw (to_z-of_z mx) at c.units-4.ensures.within; size = c.units-4.ensures.size } in
    let g : IsUnits f.my c.units-5.result = record { value = rw (to_z-of_z my) at c.units-5.ensures.value; within = rw (to_z-of_z my) at c.units-5.ensures.within; size = c.units-5.ensures.size } in
    let h : IsUnits f.mz c.units-6.result = record { value = rw (to_z-of_z mz) at c.units-6.ensures.value; within = rw (to_z-of_z mz) at c.units-6.ensures.within; size = c.units-6.ensures.size } in
    parts_of_whole f.node.0 f.fx f.fy f.fz f.mx f.my f.mz _ _ _ _ _ _ a b d e g h
