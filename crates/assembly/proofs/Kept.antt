-- What the filling of an entry keeps.
use Rattle.std.proofs.Common.{◌≡◌, ◌≢◌, ℕ, ◌≤◌, ◌⊎◌, inl, inr, List, [], sym, subst, ap, ◌∙◌, arith, Ok, ℤ, pos, ◌+ℤ◌, ◌-ℤ◌, ◌*ℤ◌, ◌≤ℤ◌}
use Rattle.std.proofs.lemmas.Int.{ints}
use Rattle.std.proofs.lemmas.Bool.{cases_eq}
use Rattle.std.specs.Prelude.{◌↔◌, ◌<◌, slice_index_or, Contains}
use Rattle.int_laws.proofs.Sums.{int_sums}
use Rattle.int_laws.proofs.Products.{le_mul, sub-mul, mul_comm}
use Rattle.int_laws.specs.Division.{IsFloor}
use Rattle.flex_interval.specs.Ends.{Ends}
use Rattle.flex_interval.specs.Fraction.{Within}
use Rattle.member_set.specs.declared.members.Built.{Built}
use Rattle.member_set.specs.Members.{IsBuilt, built_nodes}
use Rattle.member_set.specs.Realisation.{fraction}
use Rattle.sym_blocks.specs.Matrix.{Matrix, entry}
use Rattle.assembly.specs.Stiffness.{HasPatternOf, AreJoined, upper_entry, IsWithinRadius}
use Rattle.flex_interval.specs.Operations.{middle_of, radius_of}
use Rattle.assembly.specs.Filling.{PutsAt, IsFilled, KeepsFilled}

-- a number of an interval is at most the radius away from the middle
pub near_of : (e : Ends) (exact unit v w : ℤ) → IsFloor (e.lo +ℤ e.hi) (pos 2) v → w ≡ e.hi -ℤ v → Within e (fraction exact unit) → IsWithinRadius unit exact v w
near_of e exact unit v w floor is within =
    let twice : v *ℤ pos 2 ≡ v +ℤ v = omega (arith, ints) in
    let half : (v -ℤ e.lo) ≤ℤ w = omega (arith, int_sums, twice, floor.at_most, is) in
    let low = le_mul unit (omega (arith, int_sums, within.defined)) half in
    let high = ap (λ (z : ℤ). z *ℤ unit) is in
    omega (arith, int_sums, low, high, within.at_least, within.at_most, sub-mul v e.lo unit, sub-mul e.hi v unit, mul_comm unit v, mul_comm unit w)

pub filled_from : (b : Built) (km rd km_new rd_new : Matrix) (row col : ℕ) (v w : ℤ) (e : Ends) → upper_entry b row col ≡ Ok e →
    v ≡ middle_of e → w ≡ radius_of e → pos 0 ≤ℤ w → PutsAt km km_new row col v → PutsAt rd rd_new row col w → IsFilled b km_new rd_new row col
filled_from b km rd km_new rd_new row col v w e is middle radius not_negative puts puts_too =
    record {
      are = record { enclosure = e; value = is; middle_is = puts.place ∙ middle; radius_is = puts_too.place ∙ radius };
      not_negative = rw puts_too.place not_negative;
    }

-- the same entries are filled
moved : (b : Built) (km rd km_new rd_new : Matrix) (i j : ℕ) → entry km_new i j ≡ entry km i j → entry rd_new i j ≡ entry rd i j →
    IsFilled b km rd i j → IsFilled b km_new rd_new i j
moved b km rd km_new rd_new i j same same_too was =
    record {
      are = record { enclosure = was.are.enclosure; value = was.are.value; middle_is = same ∙ was.are.middle_is; radius_is = same_too ∙ was.are.radius_is };
      not_negative = rw same_too was.not_negative;
    }

pub keeps_from : (b : Built) (km rd km_new rd_new : Matrix) (row col : ℕ) (v w : ℤ) → row ≤ col →
    PutsAt km km_new row col v → PutsAt rd rd_new row col w → IsFilled b km_new rd_new row col → KeepsFilled b km rd km_new rd_new
keeps_from b km rd km_new rd_new row col v w order puts puts_too here =
    record {
      middles_pattern = puts.pattern;
      radii_pattern = puts_too.pattern;
      filled = λ i j up was.
          let other : (i ≢ row) ⊎ (j ≢ col) → IsFilled b km_new rd_new i j =
          λ apart.
          let place : (i ≡ row) × (j ≡ col) → ⊥ = λ same. elim apart [ inl ne ↦ ne same.0 | inr ne ↦ ne same.1 ] in
          let mirror : (i ≡ col) × (j ≡ row) → ⊥ = λ same. place (omega (arith, same.0, same.1), omega (arith, same.0, same.1)) in
          moved b km rd km_new rd_new i j (puts.others i j place mirror) (puts_too.others i j place mirror) was in
          elim (cases_eq i row) [
            | inl e ↦ elim (cases_eq j col) [
              | inl f ↦ rw (e, f) here
              | inr ne ↦ other (inr ne)
            ]
            | inr ne ↦ other (inl ne)
          ];
    }

pub keeps_more : (b : Built) (km rd km_then rd_then km_new rd_new : Matrix) → KeepsFilled b km rd km_then rd_then → KeepsFilled b km_then rd_then km_new rd_new →
    KeepsFilled b km rd km_new rd_new
keeps_more b km rd km_then rd_then km_new rd_new first second =
    record {
      middles_pattern = second.middles_pattern ∙ first.middles_pattern;
      radii_pattern = second.radii_pattern ∙ first.radii_pattern;
      filled = λ i j up was. second.filled i j up (first.filled i j up was);
    }

-- the pattern stays that of the members
pub pattern_kept : (b : Built) (m new : Matrix) → new.pattern ≡ m.pattern → HasPatternOf m b → HasPatternOf new b
pattern_kept b m new same has =
    subst (λ (p : List (List ℕ)). (n k : ℕ) → Contains (slice_index_or p n []) k ↔ AreJoined b n k) (sym same) has

pub joined_in_range : (b : Built) → IsBuilt b → (n k : ℕ) → AreJoined b n k → k < built_nodes b
joined_in_range b built n k joined =
    elim joined [
      | inl own ↦ omega (arith, own.0, own.1)
      | inr by ↦ elim (by.2) [
        | inl ahead ↦ let last = built.second_node by.0 by.1 in omega (arith, ahead.1)
        | inr back ↦ let last = built.first_node by.0 by.1 in omega (arith, back.0)
      ]
    ]
