-- The tees of a model: the first that passes a test, the header beside a branch, and the table of the unit vectors across them.
use Rattle.std.proofs.Common.{◌≡◌, ℕ, suc, ◌<◌, ◌≤◌, Bool, true, false, refl, sym, ap, ◌∙◌, inl, inr, List, [], ◌∷◌, length, get_or, set, drop, drop-cons, All, Option, Some, subst, arith, pos, ◌<ℤ◌, Result, Ok}
use Rattle.std.specs.Prelude.{IfSome, filter, cond, None, ◌==◌, unwrap_or}
use Rattle.std.specs.List.{find}
use Rattle.std.specs.Option.{IsSome, option_map}
use Rattle.std.proofs.lemmas.Bool.{cases_eq}
use Rattle.std.proofs.lemmas.Bool.Decides.{nat_tests}
use Rattle.std.proofs.lemmas.List.{get_or_default, get_or-set_other, get_or-set_same}
use Rattle.std.proofs.lemmas.List.Elements.{All-head, All-tail}
use Rattle.std.proofs.lemmas.Option.{slice_get-get_or}
use Rattle.flex_interval.specs.Ends.{Ends}
use Rattle.flex_interval.specs.declared.fault.IvFault.{IvFault}
use Rattle.member_pairs.specs.Span.{square_of}
use Rattle.model_types.specs.Bends.{difference_between}
use Rattle.model_types.specs.Lists.{Lists}
use Rattle.model_types.specs.Rules.{Keeps}
use Rattle.model_types.specs.Tees.{IsTee, is_beside, run_of}
use Rattle.model_types.specs.declared.records.Element.{Element}
use Rattle.model_types.specs.declared.records.Record.TheVariants as record_of
use Rattle.model_types.specs.declared.records.Tee.{Tee}
use Rattle.bend_element.specs.Normal.{WaysCross, normal_parts, normal_to}
use Rattle.structure.specs.Elements.{element_at, from_of, no_element, no_node, to_of}
use Rattle.structure.specs.Tees.{HasNormal, found_vector, header_of, normal_across, run_along, tee_normal_of}
use Rattle.structure.proofs.MemberLemmas.{at_number}

chosen_holds : {X : Type 0} (P : X → Type 0) (t : Bool) (x : X) (rest : Option X) → P x → IfSome rest P → IfSome (cond t (Some x) rest) P
chosen_holds P true x rest here behind = here
chosen_holds P false x rest here behind = behind

-- what holds of each holds of the one that is found
pub found_holds : {X : Type 0} (P : X → Type 0) (test : X → Bool) (xs : List X) → All P xs → IfSome (find test xs) P
found_holds P test [] each = tt
found_holds P test (x ∷ xs) each = chosen_holds P (test x) x (find test xs) (All-head P x xs each) (found_holds P test xs (All-tail P x xs each))

chosen_first : {X : Type 0} (t : Bool) (x first : X) (own rest : List X) (found : Option X) → cond t (x ∷ own) own ≡ (first ∷ rest) → (own ≡ (first ∷ rest) → found ≡ Some first) →
    cond t (Some x) found ≡ Some first
chosen_first true x first own rest found is behind = cc
chosen_first false x first own rest found is behind = behind is

-- the first of those that pass a test is found
pub first_found : {X : Type 0} (test : X → Bool) (xs : List X) (first : X) (rest : List X) → filter test xs ≡ (first ∷ rest) → find test xs ≡ Some first
first_found test [] first rest is = absurd (cc)
first_found test (x ∷ xs) first rest is = chosen_first (test x) x first (filter test xs) rest (find test xs) is (first_found test xs first rest)

pub some_of_map : {A B : Type 0} (f : A → B) (o : Option A) (y : B) → option_map f o ≡ Some y → IsSome o
some_of_map f (Some a) y is = refl
some_of_map f None y is = absurd (cc)

pub value_of_map : {A B : Type 0} (f : A → B) (o : Option A) (a : A) (y : B) → option_map f o ≡ Some y → o ≡ Some a → f a ≡ y
value_of_map f o a y is there = let mapped : Option.Some (f a) ≡ Some y = sym (ap (option_map f) there) ∙ is in cc (mapped)

-- ---- the header

pub branch_is : (m : Lists) (t : Tee) (made : IsTee m t) → element_at m t.branch.0 ≡ made.branch
branch_is m t made = sym (at_number m.elements t.branch.0 made.branch no_element made.branch_there)

pub header_found : (m : Lists) (t : Tee) (b : Element) (made : IsTee m t) → b ≡ element_at m t.branch.0 → find (is_beside t.node.0 b.name) m.elements ≡ Some made.first
header_found m t b made same =
    subst (λ (x : Element). find (is_beside t.node.0 x.name) m.elements ≡ Some made.first) (sym (same ∙ branch_is m t made))
    (first_found (is_beside t.node.0 made.branch.name) m.elements made.first (made.second ∷ []) made.beside_it)

pub header_is : (m : Lists) (t : Tee) (made : IsTee m t) → header_of m t ≡ made.first
header_is m t made = ap (λ (o : Option Element). unwrap_or o no_element) (header_found m t (element_at m t.branch.0) made refl)

-- ---- the normal

run_is : (m : Lists) (e : Element) → Keeps m (record_of.Element e) → run_of m.nodes e ≡ Some (difference_between (from_of m e) (to_of m e))
run_is m e keeps = rw (slice_get-get_or m.nodes e.from.0 no_node keeps.known.0, slice_get-get_or m.nodes e.to.0 no_node keeps.known.1.0) refl

pub crossed : (m : Lists) (t : Tee) (made : IsTee m t) → WaysCross → Keeps m (record_of.Element made.branch) → Keeps m (record_of.Element made.first) →
    pos 0 <ℤ square_of (normal_parts (normal_to (run_along m made.branch) (run_along m made.first)))
crossed m t made law branch first =
    let u = difference_between (from_of m made.branch) (to_of m made.branch) in
    let v = difference_between (from_of m made.first) (to_of m made.first) in
    law u v (λ parallel. made.off_line (record { u = u; v = v; u_is = run_is m made.branch branch; v_is = run_is m made.first first; parallel = parallel }))

-- ---- the table

same_node : (a b : ℕ) → a ≡ b → (a == b) ≡ true
same_node a b same = grind (arith, nat_tests)

other_node : (a b : ℕ) → (a ≡ b → ⊥) → (a == b) ≡ false
other_node a b apart = grind (arith, nat_tests)

abbrev Normals : Type 0
Normals = List (Option (List Ends))

-- a tee's normal is noted
pub noted : (m : Lists) (normals : Normals) (t : Tee) (rest : List Tee) (v : List Ends) → tee_normal_of m t ≡ Ok v → t.node.0 < length normals →
    ((node : ℕ) → get_or normals node None ≡ normal_across m (find (λ t. t.node.0 == node) rest)) →
    (node : ℕ) → get_or (set normals t.node.0 (Some v)) node None ≡ normal_across m (find (λ t. t.node.0 == node) (t ∷ rest))
noted m normals t rest v is inside each node =
    let found : normal_across m (Some t) ≡ Some v = ap (λ (r : Result (List Ends) IvFault). Option.Some (found_vector r)) is in
    elim (cases_eq t.node.0 node) [
      | inl same ↦ rw (same_node t.node.0 node same)
          (subst (λ (n : ℕ). get_or (set normals t.node.0 (Some v)) n None ≡ normal_across m (Some t)) same (get_or-set_same normals t.node.0 (Some v) None inside ∙ sym found))
      | inr apart ↦ rw (other_node t.node.0 node apart) (get_or-set_other normals t.node.0 node (Some v) None (λ same. apart (sym same)) ∙ each node)
    ]

-- the tee before those whose normals are noted
pub one_more : (m : Lists) (normals : Normals) (tees : List Tee) (j n : ℕ) (d : Tee) (v : List Ends) → tees ≡ m.tees → suc j ≡ n → j < length m.tees →
    tee_normal_of m (get_or tees j d) ≡ Ok v → (get_or tees j d).node.0 < length normals →
    ((node : ℕ) → get_or normals node None ≡ normal_across m (find (λ t. t.node.0 == node) (drop n m.tees))) →
    (node : ℕ) → get_or (set normals (get_or tees j d).node.0 (Some v)) node None ≡ normal_across m (find (λ t. t.node.0 == node) (drop j m.tees))
one_more m normals tees j n d v same next inside is here each node =
    let list : drop j m.tees ≡ get_or tees j d ∷ drop n m.tees =
    drop-cons m.tees j d inside ∙ ap (λ (x : Tee). x ∷ drop (suc j) m.tees) (ap (λ (ts : List Tee). get_or ts j d) (sym same)) ∙ ap (λ (k : ℕ). get_or tees j d ∷ drop k m.tees) next in
    subst (λ (rest : List Tee). get_or (set normals (get_or tees j d).node.0 (Some v)) node None ≡ normal_across m (find (λ t. t.node.0 == node) rest)) (sym list)
    (noted m normals (get_or tees j d) (drop n m.tees) v is here each node)

pub one_more_holds : (m : Lists) (tees : List Tee) (j n : ℕ) (d : Tee) → tees ≡ m.tees → suc j ≡ n → HasNormal m (get_or tees j d) →
    ((k : ℕ) (e : Tee) → n ≤ k → k < length m.tees → HasNormal m (get_or m.tees k e)) → (k : ℕ) (e : Tee) → j ≤ k → k < length m.tees → HasNormal m (get_or m.tees k e)
one_more_holds m tees j n d same next here behind k e low inside =
    elim (cases_eq j k) [
      | inl at ↦ subst (HasNormal m) (ap (λ (ts : List Tee). get_or ts j d) same ∙ ap (λ (i : ℕ). get_or m.tees i d) at ∙ get_or_default m.tees k d e inside) here
      | inr apart ↦ behind k e (omega (arith, next, low, apart)) inside
    ]
