-- The structure with the laws and loads of a case is a system.
use Rattle.std.proofs.Common.{◌≡◌, ℕ, ◌+◌, ◌*◌, ap, ◌∙◌, sym, List, length}
use Rattle.flex_interval.specs.Ends.{Ends}
use Rattle.member_set.specs.declared.members.Built.{Built}
use Rattle.member_set.specs.declared.members.Law.{Law}
use Rattle.member_set.specs.Members.{IsSystem, system}
use Rattle.model_types.specs.Lists.{Lists}
use Rattle.model_types.specs.MemberCounts.{restraints_member_count}
use Rattle.structure.specs.Elements.{element_member_count}
use Rattle.structure.specs.Structure.{ModelsHaveTheirMembers, IsStructureOf}
use Rattle.load_vectors.specs.Loads.{AreLoads}

pub is_system : ModelsHaveTheirMembers → (m : Lists) (case : ℕ) (b : Built) (laws : List Law) (loads : List Ends) →
    IsStructureOf m b → length laws ≡ element_member_count m + restraints_member_count m.restraints → AreLoads m case loads → IsSystem (system b laws loads)
is_system counts m case b laws loads structure one_each loaded =
    record {
      built = structure.built;
      one_law_each = one_each ∙ sym (counts m b.members structure.members);
      one_load_each = loaded.one_each ∙ ap (λ n. 6 * n) (sym structure.nodes);
    }
