-- What the middles and radii enclose, as laws of the definition: of no call.
use Rattle.std.specs.Prelude.{ℕ, ◌<◌, ◌≡◌, List, Bool, Ok}
use Rattle.int_laws.specs.Matrices.{Entries}
use Rattle.member_set.specs.declared.members.Built.{Built}
use Rattle.member_set.specs.declared.members.Law.{Law}
use Rattle.member_set.specs.Members.{IsBuilt, row_count}
use Rattle.member_set.specs.States.{is_included, under}
use Rattle.member_set.specs.Realisation.{Stiffness, IsStiffnessOf, every_member, exact_entry, entry_unit}
use Rattle.sym_blocks.specs.Matrix.{Matrix, entry}
use Rattle.assembly.specs.Stiffness.{matrices_of, AreAssembled, IsWithinRadius}

-- each entry of each stiffness of a structure is within its radius of its middle
abbrev pub MatricesHold : Type 0
MatricesHold = (b : Built) (laws : List Law) (s : Stiffness) (middles radii : Entries) →
    IsBuilt b → IsStiffnessOf b laws s → matrices_of b ≡ Ok (middles, radii) → (i j : ℕ) → i < row_count b → j < row_count b →
    IsWithinRadius (entry_unit s.denominator) (exact_entry every_member s i j) (middles i j) (radii i j)

-- the matrices under given states hold each stiffness of the members that take part
abbrev pub AssembledHold : Type 0
AssembledHold = (b : Built) (closed : List Bool) (laws : List Law) (s : Stiffness) (middles radii : Matrix) →
    IsBuilt b → IsStiffnessOf b laws s → AreAssembled (under b closed) middles radii → (i j : ℕ) → i < row_count b → j < row_count b →
    IsWithinRadius (entry_unit s.denominator) (exact_entry (is_included b closed) s i j) (entry middles i j) (entry radii i j)
