-- What is said of every equilibrium of a case, whatever the stiffnesses are inside the enclosures of the model's formulas.
use Rattle.std.specs.Prelude.{ℕ, List}
use Rattle.flex_interval.specs.Ends.{Ends}
use Rattle.int_laws.specs.Matrices.{Vector}
use Rattle.member_set.specs.declared.members.Built.{Built}
use Rattle.member_set.specs.Members.{system}
use Rattle.member_set.specs.Realisation.{Realisation, IsRealisation, IsEquilibrium, HoldForces}
use Rattle.model_types.specs.Lists.{Lists}
use Rattle.structure.specs.Structure.{IsStructureOf}
use Rattle.load_vectors.specs.Loads.{AreLoads}
use Rattle.load_vectors.specs.Laws.{laws_of}

-- a fact of every equilibrium of every realisation of the model's structure under the loads of the case
abbrev pub OfEquilibria : Lists → ℕ → (Realisation → Vector → Type 0) → Type 0
OfEquilibria m case IsSo =
    (b : Built) (loads : List Ends) (r : Realisation) (exact : Vector) → IsStructureOf m b → AreLoads m case loads →
    IsRealisation (system b (laws_of m case) loads) r → IsEquilibrium r exact → IsSo r exact

-- the force of each member lies in its interval in every equilibrium
abbrev pub HoldForcesAlways : Lists → ℕ → List Ends → Type 0
HoldForcesAlways m case forces = OfEquilibria m case (λ r exact. HoldForces r exact forces)
