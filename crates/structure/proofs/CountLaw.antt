-- How many members a model has.
use Rattle.std.proofs.Common.{◌≡◌, ℕ, ◌+◌, List, [], ◌∷◌, ◌++◌, length, refl, ap, ◌∙◌, arith, Ok, Err, true, false, if◌then◌else◌}
use Rattle.std.proofs.lemmas.List.{length-append}
use Rattle.std.proofs.lemmas.List.Sums.{sum_by-cons}
use Rattle.std.specs.List.{flat_map}
use Rattle.member_set.specs.declared.members.Member.{Member}
use Rattle.model_types.specs.MemberCounts.{restraint_member_count, restraints_member_count}
use Rattle.model_types.specs.declared.records.Restraint.{Restraint}
use Rattle.model_types.specs.declared.records.RestraintKind.{RestraintKind}
use Rattle.model_types.specs.declared.records.RestraintKind.TheVariants.{Anchor, Linear, Twist, Oneway, Gap, Hanger}
use Rattle.restraint_law.specs.Directions.{towards, against}
use Rattle.restraint_law.specs.Restraints.{translation_member, is_shut, kind_members, restraint_members}
use Rattle.structure.specs.Elements.{element_member_count}
use Rattle.structure.specs.Structure.{Members, ModelsHaveTheirMembers, element_members, model_members, then_members}
use Rattle.structure.proofs.PlacedLaw.{elements-count}

with_rest : (made : Members) (rest members : List Member) (n : ℕ) → ((xs : List Member) → made ≡ Ok xs → length xs ≡ n)
    → then_members made (λ xs. Ok (xs ++ rest)) ≡ Ok members → length members ≡ n + length rest
with_rest (Ok xs) rest members n count is =
    let same : xs ++ rest ≡ members = cc in
    omega (arith, ap length same, length-append xs rest, count xs refl)
with_rest (Err number) rest members n count is = absurd (cc)

-- a member for each load of a restraint
pub kind_has : (node : ℕ) (kind : RestraintKind) → length (kind_members node kind) ≡ restraint_member_count kind
kind_has node (Anchor kt kr) = refl
kind_has node (Linear dx dy dz k) = refl
kind_has node (Twist dx dy dz k) = refl
kind_has node (Oneway dx dy dz gap k) = refl
kind_has node (Gap dx dy dz gap k) =
    elim (is_shut gap) as (λ t. length (if t then translation_member node k (towards dx dy dz) ∷ [] else translation_member node k (towards dx dy dz) ∷ translation_member node k (against dx dy dz) ∷ []) ≡ (if t then 1 else 2)) [
      | true ↦ refl
      | false ↦ refl
    ]
kind_has node (Hanger rate load) = refl

restraints_have : (restraints : List Restraint) → length (flat_map restraint_members restraints) ≡ restraints_member_count restraints
restraints_have [] = refl
restraints_have (r ∷ restraints) =
    omega (arith, sum_by-cons (λ (x : Restraint). restraint_member_count x.kind) r restraints, length-append (restraint_members r) (flat_map restraint_members restraints), kind_has r.node.0 r.kind, restraints_have restraints)

pub models_have_their_members : ModelsHaveTheirMembers
unfolding model_members
models_have_their_members m members is =
    with_rest (element_members m (length m.elements)) (flat_map restraint_members m.restraints) members (element_member_count m) (elements-count m (length m.elements)) is
    ∙ ap (λ n. element_member_count m + n) (restraints_have m.restraints)
