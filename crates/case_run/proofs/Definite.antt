-- The matrix of every stiffness is within the radii, so what a test proves of all such matrices holds of it.
use Rattle.std.proofs.Common.{◌≡◌, ℕ, ◌<◌, sym, subst, ◌∙◌, ℤ, ◌-ℤ◌, ◌*ℤ◌, ◌≤ℤ◌, List}
use Rattle.member_set.specs.declared.members.Built.{Built}
use Rattle.member_set.specs.declared.members.Law.{Law}
use Rattle.member_set.specs.Members.{row_count}
use Rattle.member_set.specs.Realisation.{exact_entry, entry_unit, Stiffness, IsStiffnessOf, linear_members}
use Rattle.assembly.specs.Stiffness.{IsWithinRadius}
use Rattle.int_laws.specs.Matrices.{absolute}
use Rattle.bound_laws.specs.Definiteness.{CholeskyTest, SymmetricFractions, IsDefiniteWith, EachIsDefiniteWith}
use Rattle.certificate.specs.Bounds.{IsDefiniteStiffness}

-- the same for a matrix of so many rows
definite_at : (t : CholeskyTest) (lambda : ℤ) (rows : ℕ) → t.size ≡ rows → EachIsDefiniteWith t lambda → (k : SymmetricFractions rows) →
    ((i j : ℕ) → i < rows → j < rows → absolute (k.numerator i j -ℤ (k.denominator *ℤ t.middle i j)) ≤ℤ (k.denominator *ℤ t.radius i j)) →
    IsDefiniteWith rows lambda k
definite_at t lambda rows same definite =
    subst
    (λ (n : ℕ). (k : SymmetricFractions n) →
    ((i j : ℕ) → i < n → j < n → absolute (k.numerator i j -ℤ (k.denominator *ℤ t.middle i j)) ≤ℤ (k.denominator *ℤ t.radius i j)) →
    IsDefiniteWith n lambda k)
    same definite

pub definite_stiffness : (b : Built) (laws : List Law) (s : Stiffness) (t : CholeskyTest) (lambda : ℤ) →
    t.size ≡ row_count b → EachIsDefiniteWith t lambda → IsStiffnessOf b laws s →
    ((i j : ℕ) → i < row_count b → j < row_count b → IsWithinRadius (entry_unit s.denominator) (exact_entry (linear_members s) s i j) (t.middle i j) (t.radius i j)) →
    IsDefiniteStiffness s lambda
definite_stiffness b laws s t lambda same definite real near = λ k own.
    definite_at t lambda s.rows (same ∙ sym real.all_rows) definite k
    (λ i j i_in j_in.
    rw (own.entry i j i_in j_in, own.unit)
    (near i j (subst (λ (n : ℕ). i < n) real.all_rows i_in) (subst (λ (n : ℕ). j < n) real.all_rows j_in)))
