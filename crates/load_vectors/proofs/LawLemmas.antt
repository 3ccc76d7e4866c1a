-- The laws of a model's members: one for each, which hold one way where those of the restraints do, and begin at numbers.
use Rattle.std.specs.Prelude.{◌^◌, ◌==◌, ◌↔◌, ⊤}
use Rattle.std.proofs.Common.{◌≡◌, ℕ, zero, suc, ◌+◌, ◌<◌, ◌≤◌, inl, inr, Bool, true, false, if◌then◌else◌, List, [], ◌∷◌, ◌++◌, length, length-append, get_or, take, All, Option, Some, None, Result, Ok, Err, IfOk, refl, sym, ap, ◌∙◌, subst, arith, map-id, ℤ, pos, negsuc, ◌+ℤ◌, ◌*ℤ◌, ◌≤ℤ◌}
use Rattle.std.specs.List.{flat_map, range_with_len}
use Rattle.std.proofs.lemmas.Bool.{cases_lt}
use Rattle.std.proofs.lemmas.Int.{ints, clamps}
use Rattle.std.proofs.lemmas.List.{get_or_append_left, get_or-append-add, get_or_past, take_all}
use Rattle.std.proofs.lemmas.List.Concat.{get_or-flat_map}
use Rattle.std.proofs.lemmas.List.Elements.{All-append, All-get_or, All-map, All-nil}
use Rattle.std.proofs.lemmas.List.FromFn.{length-range_with_len, get_or-range_with_len, length-map-range_with_len, get_or-map-range_with_len, take-map-range_with_len}
use Rattle.std.proofs.lemmas.List.Sums.{sum_by_more}
use Rattle.int_laws.proofs.Sums.{int_sums}
use Rattle.int_laws.proofs.Products.{le_of_mul, mul_nonnegative}
use Rattle.int_laws.specs.Division.{floor_of, ceil_of}
use Rattle.int_laws.proofs.DivisionLemmas.{floor_of-is, ceil_of-is}
use Rattle.flex_interval.specs.Ends.{Ends}
use Rattle.flex_interval.specs.Operations.{is_small, small_of, product_of, multiple_of, ratio_of, add_of}
use Rattle.flex_interval.specs.declared.fault.IvFault.TheVariants as fault
use Rattle.lists.specs.Listed.{listed}
use Rattle.lists.specs.Results.{and_then}
use Rattle.member_pairs.specs.declared.way.Way.{Way}
use Rattle.member_set.specs.Interval.{Outcome, found}
use Rattle.member_set.specs.Members.{IsOneway, no_law, nothing, start_of, law_of}
use Rattle.member_set.specs.declared.members.Law.{Law}
use Rattle.model_types.specs.Lists.{Lists}
use Rattle.model_types.specs.MemberCounts.{restraint_member_count, restraints_member_count, shape_member_count}
use Rattle.model_types.specs.Rules.{IsModel, Keeps}
use Rattle.model_types.specs.declared.records.Element.{Element}
use Rattle.model_types.specs.declared.records.Material.{Material}
use Rattle.model_types.specs.declared.records.Record.TheVariants as record_of
use Rattle.model_types.specs.declared.records.Restraint.{Restraint}
use Rattle.model_types.specs.declared.records.Section.{Section}
use Rattle.restraint_law.specs.States.{law_past, law_from, case_law, one_way_gap, movement, micrometres_of}
use Rattle.structure.specs.Elements.{element_at, element_member_count, member_count_below, material_of, no_element, no_material, section_of}
use Rattle.structure.specs.Restraints.{no_restraint, restraint_at, first_of_restraint}
use Rattle.structure.proofs.Runs.{flat_map_range_more}
use Rattle.load_vectors.specs.Cases.{deformation_in, move_of}
use Rattle.load_vectors.specs.Deformations.{deformation_of, thermal_elongation_of, pressure_elongation_of}
use Rattle.load_vectors.specs.Laws.{axial_member, law_along, delta_of, element_laws, restraint_laws, laws_of, LawsSuitModels, LawsHoldNumbers}
use Rattle.load_vectors.specs.Weights.{chord_length_of}
use Rattle.load_vectors.proofs.Listing.{flat_map_take}

-- ---- lists of lists

all_listed : {X : Type 0} (P : X → Type 0) (n : ℕ) (f : ℕ → X) → ((k : ℕ) → P (f k)) → All P (listed n f)
all_listed P n f each = All-map P f (range_with_len 0 n) (λ k d inside. each (get_or (range_with_len 0 n) k d))

all_joined : {X Y : Type 0} (P : Y → Type 0) (f : X → List Y) (xs : List X) → ((x : X) → All P (f x)) → All P (flat_map f xs)
all_joined P f [] each = All-nil P
all_joined P f (x ∷ xs) each = All-append P (f x) (flat_map f xs) (each x) (all_joined P f xs each)

-- ---- one for each member

abbrev elements_laws : Lists → ℕ → List Law
elements_laws m case = flat_map (element_laws m case) m.elements

abbrev restraints_laws : Lists → ℕ → ℕ → List Law
restraints_laws m case n = flat_map (restraint_laws m case) (range_with_len 0 n)

element_count : (m : Lists) (case : ℕ) (e : Element) → length (element_laws m case e) ≡ shape_member_count e.shape
element_count m case e = length-map-range_with_len (law_along e.shape (delta_of m case e)) 0 (shape_member_count e.shape)

elements_below : (m : Lists) (case n : ℕ) → n ≤ length m.elements → length (flat_map (element_laws m case) (take n m.elements)) ≡ member_count_below m n
elements_below m case zero few = refl
elements_below m case (suc n) few =
    let laws = element_laws m case in
    let next : suc n ≡ n + 1 = omega arith in
    ap (λ (k : ℕ). length (flat_map laws (take k m.elements))) next
    ∙ ap (λ (ls : List Law). length ls) (flat_map_take laws m.elements n no_element (omega (arith, few)))
    ∙ omega (arith, length-append (flat_map laws (take n m.elements)) (laws (element_at m n)), elements_below m case n (omega (arith, few)), element_count m case (element_at m n))

elements_count : (m : Lists) (case : ℕ) → length (elements_laws m case) ≡ element_member_count m
elements_count m case =
    ap (λ (es : List Element). length (flat_map (element_laws m case) es)) (sym (take_all (length m.elements) m.elements (omega arith)))
    ∙ elements_below m case (length m.elements) (omega arith)

abbrev count_of : Restraint → ℕ
count_of r = restraint_member_count r.kind

restraint_count : (m : Lists) (case n : ℕ) → length (restraint_laws m case n) ≡ count_of (restraint_at m n)
restraint_count m case n = length-map-range_with_len (case_law (restraint_at m n).kind (move_of m case n)) 0 (count_of (restraint_at m n))

restraints_below : (m : Lists) (case n : ℕ) → n ≤ length m.restraints → length (restraints_laws m case n) ≡ restraints_member_count (take n m.restraints)
restraints_below m case zero few = refl
restraints_below m case (suc n) few =
    let next : suc n ≡ n + 1 = omega arith in
    ap (λ (k : ℕ). length (restraints_laws m case k)) next
    ∙ ap (λ (ls : List Law). length ls) (sym (flat_map_range_more (restraint_laws m case) [] n))
    ∙ omega (arith, length-append (restraints_laws m case n) (restraint_laws m case n), restraints_below m case n (omega (arith, few)), restraint_count m case n, sum_by_more count_of m.restraints n no_restraint (omega (arith, few)))
    ∙ ap (λ (k : ℕ). restraints_member_count (take k m.restraints)) (sym next)

-- ---- one way where the restraints are

first_numbers : (n all : ℕ) → n ≤ all → take n (range_with_len 0 all) ≡ range_with_len 0 n
first_numbers n all few = rw (map-id (range_with_len 0 all), map-id (range_with_len 0 n)) at (take-map-range_with_len (λ (k : ℕ). k) 0 all n few)

-- behind the laws of the restraints before it each member of a restraint has its own
own_law : (m : Lists) (case n part : ℕ) → n < length m.restraints → part < count_of (restraint_at m n) →
    get_or (restraints_laws m case (length m.restraints)) (restraints_member_count (take n m.restraints) + part) no_law ≡ case_law (restraint_at m n).kind (move_of m case n) part
own_law m case n part inside own =
    let laws = restraint_laws m case in
    let all = range_with_len 0 (length m.restraints) in
    let number : get_or all n 0 ≡ n = get_or-range_with_len 0 (length m.restraints) n 0 inside ∙ (let same : 0 + n ≡ n = omega arith in same) in
    let place : restraints_member_count (take n m.restraints) + part ≡ length (flat_map laws (take n all)) + part =
    ap (λ (k : ℕ). k + part) (sym (ap (λ (ns : List ℕ). length (flat_map laws ns)) (first_numbers n (length m.restraints) (omega (arith, inside))) ∙ restraints_below m case n (omega (arith, inside)))) in
    let short : part < length (laws (get_or all n 0)) = subst (λ (k : ℕ). part < length (laws k)) (sym number) (omega (arith, own, restraint_count m case n)) in
    let long : n < length all = omega (arith, inside, length-range_with_len 0 (length m.restraints)) in
    ap (λ (k : ℕ). get_or (flat_map laws all) k no_law) place
    ∙ get_or-flat_map laws all n part 0 no_law long short
    ∙ ap (λ (k : ℕ). get_or (laws k) part no_law) number
    ∙ get_or-map-range_with_len (case_law (restraint_at m n).kind (move_of m case n)) 0 (count_of (restraint_at m n)) part part no_law own (omega arith)

restraint_law : (m : Lists) (case n part : ℕ) → n < length m.restraints → part < restraint_member_count (restraint_at m n).kind →
    law_of (laws_of m case) (first_of_restraint m n + part) ≡ case_law (restraint_at m n).kind (move_of m case n) part
restraint_law m case n part inside own =
    let before = elements_laws m case in
    let rest = restraints_laws m case (length m.restraints) in
    let split : first_of_restraint m n + part ≡ length before + (restraints_member_count (take n m.restraints) + part) = omega (arith, elements_count m case) in
    ap (λ (k : ℕ). get_or (before ++ rest) k no_law) split
    ∙ get_or-append-add before rest (restraints_member_count (take n m.restraints) + part) no_law
    ∙ own_law m case n part inside own

-- a movement changes nothing in the way
one_way_alike : (gap : Option ℤ) (moved : ℤ) → IsOneway (law_from gap moved) ↔ IsOneway (law_past gap)
one_way_alike (Some gap) moved = (λ one. one, λ one. one)
one_way_alike None moved = (λ one. one, λ one. one)

element_both_ways : (m : Lists) (case : ℕ) (e : Element) → All (λ (l : Law). ¬ IsOneway l) (element_laws m case e)
element_both_ways m case e = all_listed (λ (l : Law). ¬ IsOneway l) (shape_member_count e.shape) (law_along e.shape (delta_of m case e)) (λ k one. one)

elements_both_ways : (m : Lists) (case k : ℕ) → k < element_member_count m → ¬ IsOneway (law_of (laws_of m case) k)
elements_both_ways m case k inside =
    let own = elements_laws m case in
    let among : k < length own = omega (arith, inside, elements_count m case) in
    subst (λ (l : Law). ¬ IsOneway l) (sym (get_or_append_left own (restraints_laws m case (length m.restraints)) no_law k among))
    (All-get_or (λ (l : Law). ¬ IsOneway l) own k no_law among (all_joined (λ (l : Law). ¬ IsOneway l) (element_laws m case) m.elements (element_both_ways m case)))

pub laws_suit : LawsSuitModels
laws_suit m case model in_range = record {
  suit = record {
    elements = elements_both_ways m case;
    restraints = λ n part inside own.
        let kind = (restraint_at m n).kind in
        let is = restraint_law m case n part inside own in
        let alike = one_way_alike (one_way_gap kind) (movement kind (move_of m case n) part) in
        (λ one. alike.0 (subst (λ (l : Law). IsOneway l) is one), λ one. subst (λ (l : Law). IsOneway l) (sym is) (alike.1 one));
  };
  one_each =
      let all : restraints_member_count (take (length m.restraints) m.restraints) ≡ restraints_member_count m.restraints =
      ap (λ (rs : List Restraint). restraints_member_count rs) (take_all (length m.restraints) m.restraints (omega arith)) in
      omega (arith, length-append (elements_laws m case) (restraints_laws m case (length m.restraints)), elements_count m case, restraints_below m case (length m.restraints) (omega arith), all);
}

-- ---- numbers

-- the ends are in order
abbrev IsOrdered : Ends → Type 0
IsOrdered e = e.lo ≤ℤ e.hi

-- what each step of a chain keeps, the chain keeps
if_then : {A B E : Type 0} (r : Result A E) (next : A → Result B E) (Q : A → Type 0) (P : B → Type 0) → IfOk r Q → ((a : A) → Q a → IfOk (next a) P) → IfOk (and_then r next) P
if_then (Ok a) next Q P here after = after a here
if_then (Err e) next Q P here after = tt

nothing_ordered : IsOrdered nothing
nothing_ordered = omega (arith, ints)

found_ordered : (o : Outcome) → IfOk o IsOrdered → IsOrdered (found o)
found_ordered (Ok e) ordered = ordered
found_ordered (Err fault) ordered = nothing_ordered

abbrev Anything : {A : Type 0} → A → Type 0
Anything a = ⊤

anything : {A E : Type 0} (r : Result A E) → IfOk r Anything
anything (Ok a) = tt
anything (Err e) = tt

zero_quotients : (x y : ℤ) → x ≤ℤ y → floor_of x (pos 0) ≤ℤ ceil_of y (pos 0)
unfolding floor_of ceil_of
zero_quotients (pos a) (pos zero) below = omega (arith, ints)
zero_quotients (pos a) (pos (suc b)) below = omega (arith, ints)
zero_quotients (pos a) (negsuc b) below = absurd (omega (arith, ints))
zero_quotients (negsuc a) (pos zero) below = omega (arith, ints)
zero_quotients (negsuc a) (pos (suc b)) below = omega (arith, ints)
zero_quotients (negsuc a) (negsuc b) below = omega (arith, ints)

quotients_ordered : (x y d : ℤ) → x ≤ℤ y → pos 0 ≤ℤ d → floor_of x d ≤ℤ ceil_of y d
quotients_ordered x y (pos zero) below from_zero = zero_quotients x y below
quotients_ordered x y (pos (suc d)) below from_zero =
    let floor = floor_of-is x (pos (suc d)) (omega (arith, ints)) in
    let ceiling = ceil_of-is y (pos (suc d)) (omega (arith, ints)) in
    le_of_mul (pos (suc d)) (floor_of x (pos (suc d))) (ceil_of y (pos (suc d))) (omega (arith, ints)) (omega (arith, int_sums, below, floor.at_most, ceiling.at_least))
quotients_ordered x y (negsuc d) below from_zero = absurd (omega (arith, ints))

ratio_ordered : (a : Ends) (n d : ℤ) → pos 0 ≤ℤ d → IfOk (ratio_of a n d) IsOrdered
unfolding ratio_of multiple_of
ratio_ordered a n d from_zero =
    if_then (multiple_of a n) _ IsOrdered IsOrdered
    (if_then (product_of a.lo n) _ Anything IsOrdered (anything (product_of a.lo n)) (λ x _.
    if_then (product_of a.hi n) _ Anything IsOrdered (anything (product_of a.hi n)) (λ y _. omega (arith, int_sums, clamps))))
    (λ e ordered. quotients_ordered e.lo e.hi d ordered from_zero)

tested_is : (t : Bool) (x : ℤ) → IfOk (if t then Ok x else Err fault.Wide) (λ z. z ≡ x)
tested_is true x = refl
tested_is false x = tt

small_is : (x : ℤ) → IfOk (small_of x) (λ z. z ≡ x)
small_is x = tested_is (is_small x) x

add_ordered : (a b : Ends) → IsOrdered a → IsOrdered b → IfOk (add_of a b) IsOrdered
unfolding add_of
add_ordered a b first second =
    if_then (small_of (a.lo +ℤ b.lo)) _ (λ z. z ≡ a.lo +ℤ b.lo) IsOrdered (small_is (a.lo +ℤ b.lo)) (λ lo lo_is.
    if_then (small_of (a.hi +ℤ b.hi)) _ (λ z. z ≡ a.hi +ℤ b.hi) IsOrdered (small_is (a.hi +ℤ b.hi)) (λ hi hi_is. omega (arith, int_sums, first, second, lo_is, hi_is)))

deformation_ordered : (s : Section) (m : Material) (d : Way) (dt p : ℤ) → pos 0 ≤ℤ m.e → IfOk (deformation_of s m d dt p) IsOrdered
unfolding deformation_of thermal_elongation_of pressure_elongation_of
deformation_ordered s m d dt p stiff =
    if_then (chord_length_of d) _ Anything IsOrdered (anything (chord_length_of d)) (λ length _.
    if_then (thermal_elongation_of length m dt) _ IsOrdered IsOrdered (ratio_ordered length _ _ (omega (arith, ints))) (λ heat heat_ordered.
    if_then (pressure_elongation_of length s m p) _ IsOrdered IsOrdered
    (if_then (ratio_of length _ _) _ Anything IsOrdered (anything (ratio_of length _ _)) (λ bore _. ratio_ordered bore _ _ (mul_nonnegative (pos (10 ^ 9)) m.e (omega (arith, ints)) stiff)))
    (λ pressure pressure_ordered. add_ordered heat pressure heat_ordered pressure_ordered)))

-- a material in form is stiff, and what stands for one that isn't there has no stiffness below 0
stiff_at : (m : Lists) → IsModel m → (s : Section) → pos 0 ≤ℤ (material_of m s).e
stiff_at m model s =
    elim (cases_lt s.material.0 (length m.materials)) [
      | inl inside ↦
          let least = (All-get_or (λ r. Keeps m (record_of.Material r)) m.materials s.material.0 no_material inside model.kept.materials).form.e.least in
          omega (arith, ints, least)
      | inr past ↦ subst (λ (r : Material). pos 0 ≤ℤ r.e) (sym (get_or_past m.materials s.material.0 no_material past)) (omega (arith, ints))
    ]

delta_ordered : (m : Lists) (case : ℕ) → IsModel m → (e : Element) → IsOrdered (delta_of m case e)
delta_ordered m case model e =
    found_ordered (deformation_in m case e)
    (deformation_ordered (section_of m e) (material_of m (section_of m e)) _ _ _ (stiff_at m model (section_of m e)))

-- the law begins at an interval that holds a number
abbrev HoldsNumber : Law → Type 0
HoldsNumber law = IsOrdered (start_of law)

element_holds : (m : Lists) (case : ℕ) → IsModel m → (e : Element) → All HoldsNumber (element_laws m case e)
element_holds m case model e =
    let delta = delta_of m case e in
    all_listed HoldsNumber (shape_member_count e.shape) (law_along e.shape delta)
    (λ part. elim (part == axial_member e.shape) as (λ t. IsOrdered (if t then delta else nothing)) [
      | true ↦ delta_ordered m case model e
      | false ↦ nothing_ordered
    ])

micrometres_ordered : (length : ℤ) → IsOrdered (micrometres_of length)
micrometres_ordered length = quotients_ordered (length *ℤ pos (2 ^ 56)) (length *ℤ pos (2 ^ 56)) (pos 1000000) (omega (arith, ints)) (omega (arith, ints))

start_holds : (gap : Option ℤ) (moved : ℤ) → HoldsNumber (law_from gap moved)
start_holds (Some gap) moved = micrometres_ordered gap
start_holds None moved = micrometres_ordered moved

restraint_holds : (m : Lists) (case n : ℕ) → All HoldsNumber (restraint_laws m case n)
restraint_holds m case n =
    let kind = (restraint_at m n).kind in
    let moved = move_of m case n in
    all_listed HoldsNumber (restraint_member_count kind) (case_law kind moved) (λ part. start_holds (one_way_gap kind) (movement kind moved part))

pub laws_hold : LawsHoldNumbers
laws_hold m case model in_range k =
    let laws = laws_of m case in
    elim (cases_lt k (length laws)) [
      | inl inside ↦
          All-get_or HoldsNumber laws k no_law inside
          (All-append HoldsNumber (elements_laws m case) (restraints_laws m case (length m.restraints))
          (all_joined HoldsNumber (element_laws m case) m.elements (element_holds m case model))
          (all_joined HoldsNumber (restraint_laws m case) (range_with_len 0 (length m.restraints)) (restraint_holds m case)))
      | inr past ↦ subst (λ (l : Law). HoldsNumber l) (sym (get_or_past laws k no_law past)) nothing_ordered
    ]
