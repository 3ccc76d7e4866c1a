-- The diagonal of a factor is positive: it has the roots of the pivots, which are at least 1.
use Rattle.std.specs.Prelude.{IfOk, MatchResult}
use Rattle.std.proofs.Common.{ℕ, ◌*◌, ◌/◌, ◌<◌, List, Option, Result, Ok, Err, length, ap, arith, ℤ, pos, ◌≤ℤ◌, ◌<ℤ◌}
use Rattle.std.proofs.lemmas.Int.{ints}
use Rattle.int_laws.specs.Root.{root_of}
use Rattle.int_laws.proofs.RootLemmas.{root_of-is}
use Rattle.cholesky_laws.specs.Recurrence.{pivot}
use Rattle.cholesky_laws.specs.Laws.{RecurrenceLaws}
use Rattle.factor_data.specs.Columns.{ColumnLists, HasDiagonal}
use Rattle.factor.specs.Scalar.{IsFactorOf}
use Rattle.factor.specs.declared.fault.ScalarFault.{ScalarFault}

root_positive : (p : ℤ) → pos 1 ≤ℤ p → pos 0 <ℤ root_of p
root_positive p least =
    let root = root_of-is p (omega (arith, ints)) in
    let one = root.greatest (pos 1) (omega (arith, ints)) in
    omega (arith, ints)

pub diagonal_positive : RecurrenceLaws → (a : ℕ → ℕ → ℤ) (order : List ℕ) (parents : List (Option ℕ)) (f : ColumnLists) → IsFactorOf a order parents f → HasDiagonal f
diagonal_positive laws a order parents f factor j below =
    let inside : j < 6 * length order = omega (arith, ap length factor.order_is) in
    let least = (factor.passes (j / 6) (omega arith)).pivots j (omega arith, omega arith) in
    rw (factor.entries j j inside inside, laws.entries.diagonal a j least) (root_positive (pivot a j) least)

-- whatever the answer is
pub answer_diagonal : RecurrenceLaws → (a : ℕ → ℕ → ℤ) (order : List ℕ) (parents : List (Option ℕ)) (Q : ScalarFault → Type 0) (r : Result ColumnLists ScalarFault) →
    MatchResult r (IsFactorOf a order parents) Q → IfOk r HasDiagonal
answer_diagonal laws a order parents Q (Ok f) factor = diagonal_positive laws a order parents f factor
answer_diagonal laws a order parents Q (Err e) fault = tt
