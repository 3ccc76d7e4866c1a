-- Where the members of an element stand among those of a structure, and what they hold there.
use Rattle.std.proofs.Common.{◌≡◌, ℕ, zero, suc, ◌<◌, sym, subst, ap, ◌∙◌, arith, inl, inr, List, [], ◌++◌, length, length-append, append-nil, append_assoc, take, drop, Ok}
use Rattle.std.specs.List.{flat_map}
use Rattle.std.proofs.lemmas.Bool.{cases_eq}
use Rattle.std.proofs.Math.Seq.{take-append_seam, drop-append_seam}
use Rattle.member_set.specs.declared.members.Member.{Member}
use Rattle.member_set.specs.declared.members.Built.{Built}
use Rattle.model_types.specs.Lists.{Lists}
use Rattle.model_types.specs.MemberCounts.{shape_member_count}
use Rattle.restraint_law.specs.Restraints.{restraint_members}
use Rattle.structure.specs.Elements.{members_of_element, element_at, member_count_below}
use Rattle.structure.specs.Enclosure.{EachEncloses, EnclosesElements, HoldsElement, members_at}
use Rattle.structure.specs.Structure.{with_element, element_members, model_members, IsStructureOf}
use Rattle.structure.proofs.MemberLemmas.{members-count}
use Rattle.structure.proofs.StiffLaw.{then_members-ok, with_element-ok, whole-is}

pub elements-count : (m : Lists) (n : ℕ) (members : List Member) → element_members m n ≡ Ok members → length members ≡ member_count_below m n
elements-count m zero members is = let none : [] ≡ members = cc in sym (ap length none)
elements-count m (suc n) members is =
    let step = then_members-ok (element_members m n) (with_element n (members_of_element m (element_at m n))) members is in
    let own = with_element-ok n (members_of_element m (element_at m n)) step.0 members step.2 in
    let before = elements-count m n step.0 step.1 in
    let more = members-count m n own.0 own.1 in
    omega (arith, ap length own.2, length-append step.0 own.0, before, more)

-- the members of the n-th of N elements stand behind those of the elements before it
pub placed : (m : Lists) (count : ℕ) (all : List Member) → element_members m count ≡ Ok all → (n : ℕ) → n < count →
    (before own after : List Member) × (length before ≡ member_count_below m n) × (members_of_element m (element_at m n) ≡ Ok own) × (all ≡ before ++ (own ++ after))
placed m zero all is n below = absurd (omega arith)
placed m (suc count) all is n below =
    let step = then_members-ok (element_members m count) (with_element count (members_of_element m (element_at m count))) all is in
    let own = with_element-ok count (members_of_element m (element_at m count)) step.0 all step.2 in
    elim (cases_eq n count) [
      | inl same ↦
          (step.0, own.0, [], rw same (elements-count m count step.0 step.1), rw same own.1, sym own.2 ∙ ap (λ (xs : List Member). step.0 ++ xs) (sym (append-nil own.0)))
      | inr apart ↦
          let earlier = placed m count step.0 step.1 n (omega arith) in
          let before = earlier.0 in
          let here = earlier.1 in
          let after = earlier.2 in (
            before,
            here,
            after ++ own.0,
            earlier.3,
            earlier.4,
            sym own.2 ∙ ap (λ (xs : List Member). xs ++ own.0) earlier.5 ∙ append_assoc before (here ++ after) own.0 ∙ ap (λ (xs : List Member). before ++ xs) (append_assoc here after own.0),
          )
    ]

-- a part of a list that is given by what stands before it and its length
part_is : (before own after all : List Member) (first count : ℕ) → all ≡ before ++ (own ++ after) → length before ≡ first → length own ≡ count → take count (drop first all) ≡ own
part_is before own after all first count is start long =
    let drops : drop (length before) (before ++ (own ++ after)) ≡ own ++ after = drop-append_seam before (own ++ after) in
    rw (is, ← start, ← long, drops) (take-append_seam own after)

-- in a structure they are the element's own
pub placed_element : (m : Lists) (b : Built) → IsStructureOf m b → (n : ℕ) → n < length m.elements →
    (own : List Member) × (members_of_element m (element_at m n) ≡ Ok own) × (members_at m b n ≡ own)
unfolding model_members
placed_element m b structure n inside =
    let rest = flat_map restraint_members m.restraints in
    let step = then_members-ok (element_members m (length m.elements)) (λ members. Ok (members ++ rest)) b.members structure.members in
    let whole = whole-is step.0 rest b.members step.2 in
    let here = placed m (length m.elements) step.0 step.1 n inside in
    let split : b.members ≡ here.0 ++ (here.1 ++ (here.2 ++ rest)) =
    sym whole ∙ ap (λ (xs : List Member). xs ++ rest) here.5 ∙ append_assoc here.0 (here.1 ++ here.2) rest ∙ ap (λ (xs : List Member). here.0 ++ xs) (append_assoc here.1 here.2 rest) in
    (here.1, here.4, part_is here.0 here.1 (here.2 ++ rest) b.members (member_count_below m n) (shape_member_count (element_at m n).shape) split here.3 (members-count m n here.1 here.4))

pub encloses_elements : (m : Lists) (b : Built) → IsStructureOf m b → EachEncloses m → EnclosesElements m b
encloses_elements m b structure each n inside =
    let here = placed_element m b structure n inside in
    let encloses = rw here.1 at (each n inside) in
    subst (HoldsElement m (element_at m n)) (sym here.2) encloses
