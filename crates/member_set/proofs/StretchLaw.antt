-- What every law keeps of a change of reach, and which members make the stiffness matrix.
use Rattle.std.proofs.lemmas.Bool.{false≢true}
use Rattle.std.proofs.lemmas.Int.{by_lt_z, clamps}
use Rattle.std.specs.Int.{int_max}
use Rattle.int_laws.proofs.Products.{le_mul, le_mul_negative, zero-mul, mul_comm}
use Rattle.std.proofs.Common.{◌≡◌, refl, ◌≤ℤ◌, ap, arith, ℤ, pos, ◌-ℤ◌, ◌*ℤ◌, if◌then◌else◌}
use Rattle.int_laws.proofs.Sums.{int_sums}
use Rattle.int_laws.proofs.SumLaws.{sum_below-same}
use Rattle.member_set.specs.Realisation.{linear, oneway, past_start, stretch, KeepsStretch, LawsKeepStretch, LinearIsEveryMember}

-- a change that is all of the change of the reach
same_change : (s d : ℤ) → s ≡ d → KeepsStretch linear s d
same_change s d same =
    let square = ap (λ (z : ℤ). s *ℤ z) same in
    record { between = omega (arith, int_sums, square); whole = λ _. same }

-- a change from one number to another, of which what is below 0 doesn't count: s lies between 0 and d
kept_change : (a b s d : ℤ) → s ≡ int_max (pos 0) a -ℤ int_max (pos 0) b → d ≡ a -ℤ b → (s *ℤ s) ≤ℤ (s *ℤ d)
kept_change a b s d s_is d_is =
    by_lt_z (pos 0) s
    (λ up.
    let more : s ≤ℤ d = omega (arith, int_sums, clamps, s_is, d_is) in
    let scaled = le_mul s (omega (arith, int_sums)) more in
    omega (arith, int_sums, scaled, mul_comm d s))
    (λ down. by_lt_z s (pos 0)
    (λ below.
    let less : d ≤ℤ s = omega (arith, int_sums, clamps, s_is, d_is) in
    let scaled = le_mul_negative s down less in
    omega (arith, int_sums, scaled, mul_comm d s))
    (λ none.
    let zero_is : s ≡ pos 0 = omega (arith, int_sums) in
    let own = ap (λ (z : ℤ). z *ℤ s) zero_is in
    let other = ap (λ (z : ℤ). z *ℤ d) zero_is in
    omega (arith, int_sums, own, other, zero-mul s, zero-mul d)))

pub laws_keep_stretch : LawsKeepStretch
laws_keep_stretch q linear offset x y =
    same_change (stretch q linear offset x -ℤ stretch q linear offset y) (x -ℤ y) (omega (arith, int_sums))
laws_keep_stretch q (oneway g) offset x y =
    record {
      between = kept_change (past_start q (oneway g) offset x) (past_start q (oneway g) offset y) _ (x -ℤ y) refl (omega (arith, int_sums));
      whole = λ is. absurd (false≢true is);
    }

pub linear_is_every_member : LinearIsEveryMember
linear_is_every_member s all row col =
    sum_below-same s.members _ _
    (λ k inside. ap (λ b. if b then (s.member k).shape row *ℤ ((s.member k).stiffness *ℤ (s.member k).shape col) else pos 0) (all k inside))
