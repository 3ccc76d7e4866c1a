-- The loads of all rows from the sums of all that acts.
use Rattle.std.proofs.Common.{◌≡◌, refl, ap, ℕ, ◌*◌, ◌<◌, List, [], length, arith, pos, sym, ◌∙◌, Ok, Err}
use Rattle.std.specs.Prelude.{Result, replicate}
use Rattle.std.proofs.lemmas.Int.{ints}
use Rattle.std.proofs.lemmas.List.{get_or-replicate, length-replicate}
use Rattle.flex_interval.specs.Fraction.{Within, whole}
use Rattle.load_vectors.specs.Totals.{AreOfLoads}
use Rattle.flex_interval.specs.Ends.{Ends}
use Rattle.member_set.specs.Members.{load_of, nothing}
use Rattle.member_set.specs.Interval.{limited_force}
use Rattle.model_types.specs.Lists.{Lists}
use Rattle.load_vectors.specs.declared.fault.LoadFault.{LoadFault}
use Rattle.load_vectors.specs.declared.fault.LoadFault.TheVariants as faults
use Rattle.load_vectors.specs.NodeLoads.{loads_in}
use Rattle.load_vectors.specs.Loads.{row_load, AreLoads, EncloseLoads, IsFirstWideLoad}
use Rattle.load_vectors.specs.Totals.{AreTotals, IsFirstOver}

row_load-is : (m : Lists) (case row : ℕ) (loads : List Ends) → AreTotals m (loads_in m case) loads → row < 6 * length m.nodes → row_load m case row ≡ limited_force (load_of loads row)
unfolding row_load
row_load-is m case row loads t inside = rw (t.total row inside).value refl

pub are_loads : (m : Lists) (case : ℕ) (loads : List Ends) → AreTotals m (loads_in m case) loads →
    ((row : ℕ) → row < length loads → limited_force (load_of loads row) ≡ Ok (load_of loads row)) → AreLoads m case loads
are_loads m case loads t limited =
    record { one_each = t.one_each; value = λ row inside. row_load-is m case row loads t inside ∙ limited row (omega (arith, t.one_each)) }

pub enclose_loads : (m : Lists) (case : ℕ) (loads : List Ends) → AreTotals m (loads_in m case) loads → EncloseLoads m case loads
enclose_loads m case loads t x reading row inside = (t.total row inside).within x reading

pub first_wide_load : (m : Lists) (case row : ℕ) (loads : List Ends) → AreTotals m (loads_in m case) loads → IsFirstOver loads row → IsFirstWideLoad m case row
first_wide_load m case row loads t first =
    let inside : row < 6 * length m.nodes = omega (arith, t.one_each, first.in_range) in
    record {
      in_range = inside;
      wide = rw (row_load-is m case row loads t inside) first.over;
      before = λ i earlier. rw (row_load-is m case i loads t (omega (arith, inside))) (first.before i earlier);
    }

-- a fault is the same, whatever the result would have been
abbrev fault_of : {A : Type 0} → Result A LoadFault → LoadFault
fault_of (Ok _) = faults.NoMemory
fault_of (Err fault) = fault

pub same_fault : {A : Type 0} (r : Result A LoadFault) (x y : LoadFault) → r ≡ Err x → r ≡ Err y → x ≡ y
same_fault r x y first second = ap fault_of (sym first ∙ second)

-- ---- before anything acts
nothing_within : Within nothing (whole (pos 0))
unfolding whole
nothing_within = record { defined = omega (arith, ints); at_least = omega (arith, ints); at_most = omega (arith, ints) }

nothing_at : (n row : ℕ) (loads : List Ends) → loads ≡ replicate n nothing → row < n → load_of loads row ≡ nothing
nothing_at n row loads is inside = rw is (get_or-replicate n row nothing nothing inside)

pub nothing_yet : (m : Lists) (loads : List Ends) → loads ≡ replicate (6 * length m.nodes) nothing → AreTotals m [] loads
nothing_yet m loads is =
    record {
      one_each = rw is (length-replicate (6 * length m.nodes) nothing);
      total = λ row inside. rw (nothing_at (6 * length m.nodes) row loads is inside) (record { value = refl; within = λ x reading. nothing_within });
    }

pub no_size : (n : ℕ) (loads : List Ends) → loads ≡ replicate n nothing → AreOfLoads 0 loads
no_size n loads is row inside =
    let below : row < n = rw (ap (λ (xs : List Ends). length xs) is ∙ length-replicate n nothing) at inside in
    rw (nothing_at n row loads is below) (record { lo_most = omega arith; hi_most = omega arith })
