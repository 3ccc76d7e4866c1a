-- What a verdict says of the margin as a function of the test.
use Rattle.std.specs.Int.{int_div_euclid}
use Rattle.std.specs.Prelude.{int_lt, int_le}
use Rattle.std.proofs.Common.{◌≡◌, ℕ, inl, inr, refl, ◌∙◌, ap, arith, true, false, Option, Ok, Err, List, length, ℤ, ◌≤ℤ◌, ◌<ℤ◌}
use Rattle.std.proofs.lemmas.Bool.{or_from, or_left, or_right}
use Rattle.std.proofs.lemmas.Int.{ints}
use Rattle.lists.specs.Search.{least_below}
use Rattle.lists.specs.Results.{unless}
use Rattle.sym_blocks.specs.Matrix.{Matrix, node_count, entry as block_entry}
use Rattle.factor_data.specs.Columns.{ColumnLists, factor_entry}
use Rattle.bound_laws.specs.Definiteness.{CholeskyTest, row_margin}
use Rattle.certificate.specs.Checker.{test_of, test_by, RowIsRefused, row_refused, margin_by, IsVerdict}
use Rattle.certificate.specs.declared.check.Verdict.TheVariants.{Yes, No}
use Rattle.case_run.proofs.Searching.{int_lt-yes, int_le-yes, any_none, any_at, first_none, first_at, least-is}

int_le-not : (a b : ℤ) → (a ≤ℤ b → ⊥) → int_le a b ≡ false
int_le-not a b not_le = grind (arith, ints)

int_lt-not : (a b : ℤ) → (a <ℤ b → ⊥) → int_lt a b ≡ false
int_lt-not a b not_lt = grind (arith, ints)

refused-no : (t : CholeskyTest) (i : ℕ) → (RowIsRefused t i → ⊥) → row_refused t i ≡ false
refused-no t i not_refused =
    or_from _ _ (any_none t.size _ (λ j below. int_le-not _ _ (λ le. not_refused (inl (j, below, le))))) (int_lt-not _ _ (λ lt. not_refused (inr lt)))

refused-yes : (t : CholeskyTest) (i : ℕ) → RowIsRefused t i → row_refused t i ≡ true
refused-yes t i (inl large) = or_left _ _ (any_at t.size _ large.0 large.1 (int_le-yes _ _ large.2))
refused-yes t i (inr fails) = or_right _ _ (int_lt-yes _ _ fails)

-- the least quotient, where no row is refused
abbrev whole : CholeskyTest → ℤ
whole t = least_below t.size (λ i. int_div_euclid (row_margin t i) t.scale)

pub yes_given : (t : CholeskyTest) (lambda : ℤ) → IsVerdict t (Yes lambda) → margin_by t ≡ Ok lambda
yes_given t lambda is =
    let reached = is.1.reached in
    ap (λ (o : Option ℕ). unless o (whole t)) (first_none t.size (row_refused t) (λ i below. refused-no t i (is.0 i below)))
    ∙ ap (λ (z : ℤ). Ok z) (least-is t.size (λ i. int_div_euclid (row_margin t i) t.scale) lambda reached.0 is.1.least reached.1 reached.2)

pub no_given : (t : CholeskyTest) (row : ℕ) → IsVerdict t (No row) → margin_by t ≡ Err row
no_given t row is =
    ap (λ (o : Option ℕ). unless o (whole t))
    (first_at t.size (row_refused t) row is.0 (refused-yes t row is.1) (λ i before. refused-no t i (is.2 i before)))

-- the test of matrices by a factor of the same nodes
pub test_is : (middles radii : Matrix) (f : ColumnLists) (shift : ℤ) (order : List ℕ) → node_count middles ≡ length order → f.order ≡ order →
    test_of middles radii f shift ≡ test_by (block_entry middles) (block_entry radii) order (factor_entry f) shift
test_is middles radii f shift order nodes same = rw (nodes, same) refl
