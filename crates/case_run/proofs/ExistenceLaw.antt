-- Why a case has a realisation: each interval of the structure, of the laws and of the loads holds a number.
use Rattle.std.proofs.lemmas.Int.{ints}
use Rattle.std.proofs.Common.{arith, ◌≤ℤ◌, pos}
use Rattle.int_laws.proofs.Sums.{int_sums}
use Rattle.int_laws.proofs.Products.{le_of_mul}
use Rattle.flex_interval.specs.Ends.{Ends}
use Rattle.flex_interval.specs.Fraction.{Fraction, Within}
use Rattle.member_set.specs.Members.{system, load_of}
use Rattle.member_set.specs.Realisation.{LowerEndsAreRealisation}
use Rattle.angle_table.specs.Pi.{pi_ends}
use Rattle.member_pairs.specs.Vectors.{parts_of}
use Rattle.structure.specs.Laws.{LengthsExist}
use Rattle.structure.specs.Numbers.{StructuresHoldNumbers}
use Rattle.load_vectors.specs.Loads.{exact_row_load}
use Rattle.load_vectors.specs.NodeLoads.{Reading, IsReading}
use Rattle.load_vectors.specs.Laws.{laws_of, LawsHoldNumbers}
use Rattle.case_run.specs.Soundness.{RealisationsExist}

-- an interval that holds a number has its ends in order
ordered : (e : Ends) (x : Fraction) → Within e x → e.lo ≤ℤ e.hi
ordered e x within = le_of_mul x.den e.lo e.hi within.defined (omega (arith, int_sums, within.at_least, within.at_most))

-- some pi and some lengths are within their enclosures
abbrev reading : LengthsExist → Reading
reading lengths = record { pi = record { num = pi_ends.lo; den = pos 1 }; length = λ d. (lengths (parts_of d)).0 }

is_reading : (lengths : LengthsExist) → IsReading (reading lengths)
is_reading lengths = record {
  pi_within = record { defined = omega (arith, ints); at_least = omega (arith, ints); at_most = omega (arith, ints) };
  length_within = λ d way. (lengths (parts_of d)).1;
}

pub realisations_exist : LowerEndsAreRealisation → LengthsExist → StructuresHoldNumbers → LawsHoldNumbers → RealisationsExist
realisations_exist lower_ends lengths hold_numbers laws_hold m b case loads model in_range structure encloses holds loaded enclosed =
    let hold = hold_numbers m b structure encloses holds in
    lower_ends (system b (laws_of m case) loads)
    (record {
      stiffnesses = λ k inside. (hold k inside).stiffness;
      shapes = λ k row inside. (hold k inside).shape row;
      starts = λ k inside. laws_hold m case model in_range k;
      loads_hold = λ row inside. ordered (load_of loads row) (exact_row_load m case (reading lengths) row) (enclosed (reading lengths) (is_reading lengths) row (omega (arith, structure.nodes)));
    })
