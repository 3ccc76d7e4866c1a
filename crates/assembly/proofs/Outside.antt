-- Entries that no member gives.
use Rattle.std.proofs.Common.{◌≡◌, false, ℕ, ◌/◌, ◌∙◌, ap, sym, subst, arith, ℤ, pos, ◌*ℤ◌, ◌<ℤ◌}
use Rattle.std.proofs.lemmas.Bool.Decides.{nat_tests}
use Rattle.int_laws.proofs.Products.{between_zeros, zero-mul, mul_comm}
use Rattle.flex_interval.specs.Fraction.{Within}
use Rattle.member_set.specs.declared.members.Member.{Member}
use Rattle.member_set.specs.Members.{nothing, shape_at, touches}
use Rattle.member_set.specs.Realisation.{fraction, entry_unit}
use Rattle.assembly.proofs.Fractions.{nothing_within}

pub off_node : (m : Member) (row : ℕ) → touches m (row / 6) ≡ false → shape_at m row ≡ nothing
off_node m row apart = grind (arith, nat_tests)

-- a product with 0
pub product_zero : (x y : ℤ) → x *ℤ (y *ℤ pos 0) ≡ pos 0
product_zero x y = ap (λ (z : ℤ). x *ℤ z) (mul_comm y (pos 0) ∙ zero-mul y) ∙ mul_comm x (pos 0) ∙ zero-mul x

-- a member gives nothing to a column of a node that it does not touch
pub untouched : (m : Member) (col : ℕ) (q stiffness first second : ℤ) → pos 0 <ℤ q → touches m (col / 6) ≡ false →
    Within (shape_at m col) (fraction second q) → Within nothing (fraction (first *ℤ (stiffness *ℤ second)) (entry_unit q))
untouched m col q stiffness first second positive apart within =
    let w = rw (off_node m col apart) at within in
    let none = between_zeros second q w.at_least w.at_most in
    let all : first *ℤ (stiffness *ℤ second) ≡ pos 0 = ap (λ (z : ℤ). first *ℤ (stiffness *ℤ z)) none ∙ product_zero first stiffness in
    subst (λ (z : ℤ). Within nothing (fraction z (entry_unit q))) (sym all) (nothing_within q positive)
