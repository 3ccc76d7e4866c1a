-- Where the members of a restraint stand among those of a structure, what they hold there, and their numbers.
use Rattle.std.proofs.Common.{◌≡◌, ℕ, zero, suc, ◌+◌, ◌<◌, ◌≤◌, List, [], ◌∷◌, ◌++◌, length, get_or, take, drop, All, sym, ap, ◌∙◌, true, false, if◌then◌else◌, subst, arith, Ok}
use Rattle.std.specs.List.{flat_map}
use Rattle.std.proofs.Math.Seq.{take-append_seam, drop-append-add}
use Rattle.std.proofs.lemmas.List.Sums.{sum_by-cons, sum_by_more}
use Rattle.member_set.specs.declared.members.Member.{Member}
use Rattle.member_set.specs.declared.members.Built.{Built}
use Rattle.model_types.specs.Lists.{Lists}
use Rattle.model_types.specs.MemberCounts.{restraint_member_count, restraints_member_count}
use Rattle.model_types.specs.declared.records.Restraint.{Restraint}
use Rattle.model_types.specs.declared.records.RestraintKind.{RestraintKind}
use Rattle.model_types.specs.declared.records.RestraintKind.TheVariants.{Anchor, Linear, Twist, Oneway, Gap, Hanger}
use Rattle.restraint_law.specs.Enclosures.{EnclosesRestraint}
use Rattle.restraint_law.specs.Restraints.{restraint_members, is_shut}
use Rattle.structure.specs.Elements.{element_member_count}
use Rattle.structure.specs.Enclosure.{HoldsRestraint, EnclosesRestraints}
use Rattle.structure.specs.Restraints.{no_restraint, restraint_at, first_of_restraint, members_of_restraint}
use Rattle.structure.specs.Structure.{element_members, model_members, IsStructureOf}
use Rattle.structure.proofs.CountLaw.{kind_has}
use Rattle.structure.proofs.PlacedLaw.{elements-count}
use Rattle.structure.proofs.StiffLaw.{then_members-ok, whole-is}

-- so many members from a place on
abbrev part_of : ℕ → ℕ → List Member → List Member
part_of count first members = take count (drop first members)

-- among the members of restraints those of the n-th stand behind those of the ones before it
own_members : (rs : List Restraint) (n : ℕ) → n < length rs →
    part_of (restraint_member_count (get_or rs n no_restraint).kind) (restraints_member_count (take n rs)) (flat_map restraint_members rs) ≡ restraint_members (get_or rs n no_restraint)
own_members [] n inside = absurd (omega arith)
own_members (r ∷ rs) zero inside =
    subst (λ (k : ℕ). take k (restraint_members r ++ flat_map restraint_members rs) ≡ restraint_members r) (kind_has r.node.0 r.kind)
    (take-append_seam (restraint_members r) (flat_map restraint_members rs))
own_members (r ∷ rs) (suc n) inside =
    let own = restraint_member_count (get_or rs n no_restraint).kind in
    let before = restraints_member_count (take n rs) in
    let split : restraints_member_count (r ∷ take n rs) ≡ length (restraint_members r) + before =
    sum_by-cons (λ (x : Restraint). restraint_member_count x.kind) r (take n rs) ∙ ap (λ (k : ℕ). k + before) (sym (kind_has r.node.0 r.kind)) in
    ap (λ (k : ℕ). part_of own k (restraint_members r ++ flat_map restraint_members rs)) split
    ∙ ap (λ (xs : List Member). take own xs) (drop-append-add (restraint_members r) (flat_map restraint_members rs) before)
    ∙ own_members rs n (omega arith)

-- in a structure they stand behind those of the elements
pub placed_restraint : (m : Lists) (b : Built) → IsStructureOf m b → (n : ℕ) → n < length m.restraints → members_of_restraint m b n ≡ restraint_members (restraint_at m n)
unfolding model_members
placed_restraint m b structure n inside =
    let own = restraint_member_count (restraint_at m n).kind in
    let before = restraints_member_count (take n m.restraints) in
    let step = then_members-ok (element_members m (length m.elements)) (λ members. Ok (members ++ flat_map restraint_members m.restraints)) b.members structure.members in
    let whole = whole-is step.0 (flat_map restraint_members m.restraints) b.members step.2 in
    let long = elements-count m (length m.elements) step.0 step.1 in
    ap (λ (xs : List Member). part_of own (element_member_count m + before) xs) (sym whole)
    ∙ ap (λ (k : ℕ). part_of own (k + before) (step.0 ++ flat_map restraint_members m.restraints)) (sym long)
    ∙ ap (λ (xs : List Member). take own xs) (drop-append-add step.0 (flat_map restraint_members m.restraints) before)
    ∙ own_members m.restraints n inside

pub encloses_restraints : (m : Lists) (b : Built) → IsStructureOf m b → All HoldsRestraint m.restraints → EnclosesRestraints m b
encloses_restraints m b structure holds n inside =
    subst (EnclosesRestraint (restraint_at m n).kind) (sym (placed_restraint m b structure n inside)) (holds n no_restraint inside)

-- ---- numbers

pub count_few : (kind : RestraintKind) → restraint_member_count kind ≤ 6
count_few (Anchor kt kr) = omega arith
count_few (Linear dx dy dz k) = omega arith
count_few (Twist dx dy dz k) = omega arith
count_few (Oneway dx dy dz gap k) = omega arith
count_few (Gap dx dy dz gap k) = elim (is_shut gap) as (λ t. (if t then 1 else 2) ≤ 6) [ true ↦ omega arith | false ↦ omega arith ]
count_few (Hanger rate load) = omega arith

-- the first member of the next restraint
pub first_more : (m : Lists) (n : ℕ) → n < length m.restraints → first_of_restraint m n + restraint_member_count (restraint_at m n).kind ≡ first_of_restraint m (n + 1)
first_more m n inside =
    omega (arith, sum_by_more (λ (r : Restraint). restraint_member_count r.kind) m.restraints n no_restraint inside)
