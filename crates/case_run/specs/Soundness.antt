-- That the defined answers and forces hold, whatever worked them out, and that there are realisations that they speak of.
use Rattle.std.specs.Prelude.{ℕ, ◌≡◌, ◌<◌, List, length, slice_get, Some}
use Rattle.flex_interval.specs.Ends.{Ends}
use Rattle.member_set.specs.declared.members.Built.{Built}
use Rattle.member_set.specs.Members.{system}
use Rattle.member_set.specs.Realisation.{IsRealisation, lower_ends}
use Rattle.model_types.specs.Lists.{Lists}
use Rattle.model_types.specs.Rules.{IsModel}
use Rattle.structure.specs.Structure.{IsStructureOf}
use Rattle.structure.specs.Enclosure.{EnclosesElements, EnclosesRestraints}
use Rattle.load_vectors.specs.Loads.{AreLoads, EncloseLoads}
use Rattle.case_run.specs.Causes.{Plan}
use Rattle.load_vectors.specs.Laws.{laws_of}
use Rattle.load_vectors.specs.Equilibria.{HoldForcesAlways}
use Rattle.structure.specs.Elements.{element_member_count}
use Rattle.case_run.specs.Answers.{answer_of, answers_of}
use Rattle.case_run.specs.Equilibria.{HoldsAlways, HoldAlways}
use Rattle.case_run.specs.Runs.{AreToldWith, case_forces, forces_of}

-- every equilibrium of every realisation of a case lies within the bounds of the answer of the case, where the order of
-- elimination has as many places as the model has nodes
abbrev pub AnswerHolds : Type 0
AnswerHolds = (m : Lists) (p : Plan) (case : ℕ) → IsModel m → case < length m.cases → length p.order ≡ length m.nodes → HoldsAlways m case (answer_of m p case)

-- the same for all cases of a model
abbrev pub AnswersHold : Type 0
AnswersHold = (m : Lists) (p : Plan) → IsModel m → length p.order ≡ length m.nodes → HoldAlways m (answers_of m p)

-- the forces of each case that has any hold in every equilibrium of every realisation of the case
abbrev pub ForcesHold : Type 0
ForcesHold = (m : Lists) (p : Plan) → IsModel m → length p.order ≡ length m.nodes → (case : ℕ) (forces : List Ends) →
    slice_get (forces_of m p) case ≡ Some (Some forces) → HoldForcesAlways m case forces

-- they are one for each member of the model's structure
abbrev pub OneForceEach : Type 0
OneForceEach = (m : Lists) (p : Plan) (b : Built) → IsStructureOf m b → (case : ℕ) (forces : List Ends) →
    slice_get (forces_of m p) case ≡ Some (Some forces) → length forces ≡ length b.members

-- a case has forces exactly where its answer is certified, and the answer tells those of its restraints
abbrev pub ForcesAreTold : Type 0
ForcesAreTold = (m : Lists) (p : Plan) (case : ℕ) → AreToldWith (element_member_count m) (answer_of m p case) (case_forces m p case)

-- the lower ends of a model's structure and of a case's loads are a realisation, where the members hold the exact straights
-- and restraints, and the loads the exact loads
abbrev pub RealisationsExist : Type 0
RealisationsExist = (m : Lists) (b : Built) (case : ℕ) (loads : List Ends) → IsModel m → case < length m.cases →
    IsStructureOf m b → EnclosesElements m b → EnclosesRestraints m b → AreLoads m case loads → EncloseLoads m case loads →
    IsRealisation (system b (laws_of m case) loads) (lower_ends (system b (laws_of m case) loads))
