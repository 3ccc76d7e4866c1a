-- Why the forces hold: an enclosure holds the force of each member in every equilibrium, and has one for each.
use Rattle.std.specs.Prelude.{All, if◌then◌else◌, nat_lt, option_map, replicate}
use Rattle.std.specs.Result.{result_ok}
use Rattle.std.proofs.Common.{◌≡◌, ℕ, ◌<◌, refl, sym, ◌∙◌, ap, ap₂, subst, arith, Bool, Option, Some, None, Result, Ok, Err, List, [], length}
use Rattle.std.proofs.lemmas.List.Elements.{All-from_get_or}
use Rattle.std.proofs.lemmas.List.FromFn.{length-map-range_with_len, get_or-map-range_with_len}
use Rattle.std.proofs.lemmas.Option.{slice_get_within}
use Rattle.flex_interval.specs.Ends.{Ends}
use Rattle.lists.specs.Listed.{listed}
use Rattle.lists.specs.Results.{and_then}
use Rattle.member_set.specs.declared.members.Built.{Built}
use Rattle.member_set.specs.Members.{system}
use Rattle.model_types.specs.Lists.{Lists}
use Rattle.model_types.specs.declared.answers.Cause.{Cause}
use Rattle.certificate.specs.declared.bounds.Enclosure.{Enclosure}
use Rattle.structure.specs.Elements.{element_member_count}
use Rattle.structure.specs.Structure.{structure_of}
use Rattle.load_vectors.specs.Laws.{laws_of}
use Rattle.load_vectors.specs.Equilibria.{HoldForcesAlways}
use Rattle.case_run.specs.Causes.{Plan}
use Rattle.case_run.specs.Reasons.{Reason, because}
use Rattle.case_run.specs.Answers.{Base, base, base_of, enclosure_in, answer_with}
use Rattle.case_run.specs.Runs.{AreForcesOf, AreToldWith, case_forces, forces_of, forces_with, shared_structure}
use Rattle.case_run.specs.Soundness.{ForcesHold, OneForceEach, ForcesAreTold}
use Rattle.case_run.proofs.Chained.{all_same}
use Rattle.case_run.proofs.Fits.{sizes}
use Rattle.case_run.proofs.GivenStructure.{structure_given}
use Rattle.case_run.proofs.Searching.{nat_lt-yes, nat_lt-no}
use Rattle.case_run.proofs.SoundnessLaw.{Laws, value_before, is_base, are_around, certified_holds, stands_at}

-- ---- the laws

-- forces are those of an enclosure
forces_found : (o : Result Enclosure Reason) (forces : List Ends) → forces_with o ≡ Some forces → (e : Enclosure) × (o ≡ Ok e) × (e.force ≡ forces)
forces_found (Ok e) forces is = (e, refl, cc)
forces_found (Err reason) forces is = absurd (cc)

pub forces_hold : Laws → ForcesHold
forces_hold known m p model same case forces is =
    let inside : case < length m.cases = omega (arith, slice_get_within (forces_of m p) case (Some forces) is, length-map-range_with_len (case_forces m p) 0 (length m.cases)) in
    let found = forces_found (and_then (base_of m p) (enclosure_in m p case)) forces (stands_at (length m.cases) (case_forces m p) case (Some forces) is) in
    let holds = certified_holds known m p case found.0 model inside same found.1 in
    subst (HoldForcesAlways m case) found.2 (λ b loads r exact structure loaded real balance. (holds b loads r exact structure loaded real balance).encloses.force)

-- an enclosure of a case has a force for each member of the structure
one_each : (m : Lists) (p : Plan) (case : ℕ) (b : Built) (e : Enclosure) → structure_of m ≡ Ok b → and_then (base_of m p) (enclosure_in m p case) ≡ Ok e →
    length e.force ≡ length b.members
one_each m p case b e structure given =
    let chain = value_before (base_of m p) (enclosure_in m p case) e given in
    let shared = chain.0 in
    let around = are_around m p case shared e chain.2 in
    let size = sizes (system shared.structure (laws_of m case) around.loads) around.u shared.lambda e around.bounds in
    size.forces ∙ ap (λ (c : Built). length c.members) (same_value (structure_of m) shared.structure b (is_base m p shared chain.1).structure structure)
  where
    same_value : (o : Result Built ℕ) (x y : Built) → o ≡ Ok x → o ≡ Ok y → x ≡ y
    same_value o x y one other = cc

pub one_force_each : OneForceEach
one_force_each m p b structure case forces is =
    let found = forces_found (and_then (base_of m p) (enclosure_in m p case)) forces (stands_at (length m.cases) (case_forces m p) case (Some forces) is) in
    sym (ap (λ (es : List Ends). length es) found.2) ∙ one_each m p case b found.0 (structure_given m b structure) found.1

told_with : (first : ℕ) (o : Result Enclosure Reason) → AreToldWith first (answer_with first o) (forces_with o)
told_with first (Ok e) = refl
told_with first (Err reason) = tt

pub forces_are_told : ForcesAreTold
forces_are_told m p case = told_with (element_member_count m) (and_then (base_of m p) (enclosure_in m p case))

-- ---- what the cases come to

sized_with : (b : Built) (o : Result Enclosure Reason) → ((e : Enclosure) → o ≡ Ok e → length e.force ≡ length b.members) → AreForcesOf (Some b) (forces_with o)
sized_with b (Ok e) each = each e refl
sized_with b (Err reason) each = tt

each_sized : (m : Lists) (p : Plan) (structure : Option Built) → ((case : ℕ) → AreForcesOf structure (case_forces m p case)) → All (AreForcesOf structure) (forces_of m p)
each_sized m p structure each =
    All-from_get_or (AreForcesOf structure) (forces_of m p) None
    (λ case inside.
    let below : case < length m.cases = omega (arith, inside, length-map-range_with_len (case_forces m p) 0 (length m.cases)) in
    subst (AreForcesOf structure) (sym (get_or-map-range_with_len (case_forces m p) 0 (length m.cases) case case None below (omega arith))) (each case))

pub sized_by_base : (m : Lists) (p : Plan) (shared : Base) → base_of m p ≡ Ok shared → All (AreForcesOf (Some shared.structure)) (forces_of m p)
sized_by_base m p shared is =
    each_sized m p (Some shared.structure)
    (λ case. sized_with shared.structure (and_then (base_of m p) (enclosure_in m p case)) (λ e given. one_each m p case shared.structure e (is_base m p shared is).structure given))

abbrev forces_from : Lists → Plan → Result Base Reason → ℕ → Option (List Ends)
forces_from m p o case = forces_with (and_then o (enclosure_in m p case))

pub sized_by_reason : (m : Lists) (p : Plan) (cause : Cause) → base_of m p ≡ Err (because cause) → All (AreForcesOf None) (forces_of m p)
sized_by_reason m p cause is =
    each_sized m p None (λ case. subst (AreForcesOf None) (sym (ap (λ (o : Result Base Reason). forces_from m p o case) is)) tt)

pub forces_by_base : (m : Lists) (p : Plan) (shared : Base) → base_of m p ≡ Ok shared → forces_of m p ≡ listed (length m.cases) (λ case. forces_with (enclosure_in m p case shared))
forces_by_base m p shared is = ap (λ (o : Result Base Reason). listed (length m.cases) (forces_from m p o)) is

pub forces_by_reason : (m : Lists) (p : Plan) (cause : Cause) → base_of m p ≡ Err (because cause) → replicate (length m.cases) None ≡ forces_of m p
forces_by_reason m p cause is =
    all_same (length m.cases) None ∙ sym (ap (λ (o : Result Base Reason). listed (length m.cases) (forces_from m p o)) is)

abbrev structure_from : Bool → Result Base Reason → Option Built
structure_from some o = if some then option_map (λ (shared : Base). shared.structure) (result_ok o) else None

pub shared_by : (m : Lists) (p : Plan) (o : Result Base Reason) → 0 < length m.cases → base_of m p ≡ o →
    shared_structure m p ≡ option_map (λ (shared : Base). shared.structure) (result_ok o)
shared_by m p o some is = ap₂ structure_from (nat_lt-yes 0 (length m.cases) some) is

pub none_shared : (m : Lists) (p : Plan) → length m.cases ≡ 0 → shared_structure m p ≡ None
none_shared m p none = ap (λ (some : Bool). structure_from some (base_of m p)) (nat_lt-no 0 (length m.cases) (omega (arith, none)))
