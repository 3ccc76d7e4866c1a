-- The members of a straight are its own, with their stiffnesses in the limits.
use Rattle.std.proofs.Common.{◌≡◌, ◌^◌, All, true, ◌&&◌, refl, arith, ℤ, pos, ◌≤ℤ◌, ◌<ℤ◌, int_le, int_lt}
use Rattle.std.proofs.lemmas.Bool.{and_parts}
use Rattle.std.proofs.lemmas.List.Elements.{All-from_recursion}
use Rattle.flex_interval.specs.Ends.{Ends}
use Rattle.model_types.specs.declared.records.Element.{Element}
use Rattle.member_pairs.specs.Limits.{is_stiffness}
use Rattle.member_pairs.specs.Pairs.{IsMemberOf}
use Rattle.pipe_element.specs.Rounded.{are_stiffnesses}
use Rattle.pipe_element.specs.Straight.{members_of}
use Rattle.pipe_element.specs.declared.shapes.Shapes.{Shapes}
use Rattle.pipe_element.specs.declared.stiffness.Stiffness.{Stiffness}

at_least : (a b : ℤ) → int_le a b ≡ true → a ≤ℤ b
at_least a b is = search arith

below : (a b : ℤ) → int_lt a b ≡ true → a <ℤ b
below a b is = search arith

bounds : (kappa : Ends) → is_stiffness kappa ≡ true → (pos 1 ≤ℤ kappa.lo) × (kappa.hi <ℤ pos (2 ^ 60))
bounds kappa is =
    let both = and_parts (int_le (pos 1) kappa.lo) (int_lt kappa.hi (pos (2 ^ 60))) is in
    let low = both.0 in
    let high = both.1 in
    (at_least (pos 1) kappa.lo low, below kappa.hi (pos (2 ^ 60)) high)

pub members_are-own : (e : Element) (k : Stiffness) (w : Shapes) → are_stiffnesses k ≡ true → All (IsMemberOf e) (members_of e k w)
members_are-own e k w are =
    let pairs = and_parts (is_stiffness k.axial && is_stiffness k.torsion) (is_stiffness k.bending && is_stiffness k.shear) are in
    let along = and_parts (is_stiffness k.axial) (is_stiffness k.torsion) pairs.0 in
    let across = and_parts (is_stiffness k.bending) (is_stiffness k.shear) pairs.1 in
    let axial = bounds k.axial along.0 in
    let torsion = bounds k.torsion along.1 in
    let bending = bounds k.bending across.0 in
    let shear = bounds k.shear across.1 in
    All-from_recursion (IsMemberOf e) (members_of e k w) (
      record { first_node = refl; second_node = refl; low = axial.0; high = axial.1 },
      (
        record { first_node = refl; second_node = refl; low = torsion.0; high = torsion.1 },
        (
          record { first_node = refl; second_node = refl; low = bending.0; high = bending.1 },
          (
            record { first_node = refl; second_node = refl; low = bending.0; high = bending.1 },
            (
              record { first_node = refl; second_node = refl; low = bending.0; high = bending.1 },
              (
                record { first_node = refl; second_node = refl; low = shear.0; high = shear.1 },
                (
                  record { first_node = refl; second_node = refl; low = shear.0; high = shear.1 },
                  (record { first_node = refl; second_node = refl; low = shear.0; high = shear.1 }, tt),
                ),
              ),
            ),
          ),
        ),
      ),
    )
