-- How large the entries of the assembled matrices are.
use Rattle.std.proofs.Common.{◌≡◌, ℕ, ◌+◌, ◌*◌, ◌^◌, ◌<◌, ◌≤◌, Bool, true, false, Ok, Err, nat_lt, refl, subst, arith, unsigned_abs, pos, ◌<ℤ◌, ◌≤ℤ◌, if◌then◌else◌}
use Rattle.std.proofs.lemmas.Int.{ints}
use Rattle.std.proofs.lemmas.Bool.Decides.{nat_tests}
use Rattle.flex_interval.specs.Ends.{Ends}
use Rattle.flex_interval.specs.Operations.{middle_of, radius_of}
use Rattle.lists.specs.Results.{and_then}
use Rattle.flex_interval.specs.declared.fault.IvFault.TheVariants.{Wide}
use Rattle.member_set.specs.declared.members.Built.{Built}
use Rattle.member_set.specs.Members.{built_nodes as nodes_of, row_count}
use Rattle.member_set.specs.Interval.{Outcome}
use Rattle.sym_blocks.specs.Matrix.{Matrix, node_count, entry, IsSymmetricByBlocks}
use Rattle.assembly.specs.Stiffness.{AreAssembled, limited_entry, entry_sum}

-- the sizes of an enclosure's middle and radius
abbrev sizes : Ends → ℕ
sizes e = unsigned_abs (middle_of e) + unsigned_abs (radius_of e)

limited_small : (x e : Ends) (t : Bool) → nat_lt (sizes x) (2 ^ 60) ≡ t → (if t then Ok x else Err Wide) ≡ Ok e → sizes e < 2 ^ 60
limited_small x e true is same =
    let equal : x ≡ e = cc in
    let small : sizes x < 2 ^ 60 = grind (arith, nat_tests) in
    subst (λ (z : Ends). sizes z < 2 ^ 60) equal small
limited_small x e false is same = cc

enclosure_small : (o : Outcome) (e : Ends) → and_then o limited_entry ≡ Ok e → sizes e < 2 ^ 60
enclosure_small (Ok x) e same = limited_small x e _ refl same
enclosure_small (Err f) e same = cc

entry_limited : (b : Built) (i j : ℕ) (t : Bool) (e : Ends) →
    (if t then and_then (entry_sum b j i) limited_entry else and_then (entry_sum b i j) limited_entry) ≡ Ok e → sizes e < 2 ^ 60
entry_limited b i j true e same = enclosure_small _ e same
entry_limited b i j false e same = enclosure_small _ e same

-- past the matrix's ends nothing stands
past_rows : (m : Matrix) (i j : ℕ) → IsSymmetricByBlocks m → 6 * node_count m ≤ i → entry m i j ≡ pos 0
past_rows m i j kept past = kept.outside i j (λ block. omega (arith, kept.in_range _ _ (kept.converse _ _ block)))

pub middles_small : (b : Built) (middles radii : Matrix) → IsSymmetricByBlocks middles → AreAssembled b middles radii →
    (i j : ℕ) → unsigned_abs (entry middles i j) < 2 ^ 60
middles_small b middles radii kept assembled i j =
    let same = assembled.middles_nodes in
    elim (nat_lt i (row_count b)) as (λ t. nat_lt i (row_count b) ≡ t → unsigned_abs (entry middles i j) < 2 ^ 60) [
      | false ↦ λ past. rw (past_rows middles i j kept (grind (arith, nat_tests))) (omega arith)
      | true ↦ λ row. elim (nat_lt j (row_count b)) as (λ t. nat_lt j (row_count b) ≡ t → unsigned_abs (entry middles i j) < 2 ^ 60) [
        | false ↦ λ past. rw (kept.symmetric i j, past_rows middles j i kept (grind (arith, nat_tests))) (omega arith)
        | true ↦ λ col.
            let of = assembled.entries i j (grind (arith, nat_tests)) (grind (arith, nat_tests)) in
            let small = entry_limited b i j _ of.enclosure of.value in
            rw of.middle_is (omega arith)
      ] refl
    ] refl

-- a radius is below its limit
pub radii_below : (b : Built) (middles radii : Matrix) → IsSymmetricByBlocks radii → AreAssembled b middles radii →
    (i j : ℕ) → entry radii i j <ℤ pos (2 ^ 60)
radii_below b middles radii kept assembled i j =
    let same = assembled.radii_nodes in
    elim (nat_lt i (row_count b)) as (λ t. nat_lt i (row_count b) ≡ t → entry radii i j <ℤ pos (2 ^ 60)) [
      | false ↦ λ past. rw (past_rows radii i j kept (grind (arith, nat_tests))) (omega arith)
      | true ↦ λ row. elim (nat_lt j (row_count b)) as (λ t. nat_lt j (row_count b) ≡ t → entry radii i j <ℤ pos (2 ^ 60)) [
        | false ↦ λ past. rw (kept.symmetric i j, past_rows radii j i kept (grind (arith, nat_tests))) (omega arith)
        | true ↦ λ col.
            let of = assembled.entries i j (grind (arith, nat_tests)) (grind (arith, nat_tests)) in
            let small = entry_limited b i j _ of.enclosure of.value in
            rw of.radius_is (omega (arith, ints))
      ] refl
    ] refl

pub radii_not_negative : (b : Built) (radii : Matrix) → IsSymmetricByBlocks radii → node_count radii ≡ nodes_of b →
    ((i j : ℕ) → i < row_count b → j < row_count b → pos 0 ≤ℤ entry radii i j) → (i j : ℕ) → pos 0 ≤ℤ entry radii i j
radii_not_negative b radii kept same inside i j =
    elim (nat_lt i (row_count b)) as (λ t. nat_lt i (row_count b) ≡ t → pos 0 ≤ℤ entry radii i j) [
      | false ↦ λ past. rw (past_rows radii i j kept (grind (arith, nat_tests))) (omega arith)
      | true ↦ λ row. elim (nat_lt j (row_count b)) as (λ t. nat_lt j (row_count b) ≡ t → pos 0 ≤ℤ entry radii i j) [
        | false ↦ λ past. rw (kept.symmetric i j, past_rows radii j i kept (grind (arith, nat_tests))) (omega arith)
        | true ↦ λ col. inside i j (grind (arith, nat_tests)) (grind (arith, nat_tests))
      ] refl
    ] refl
