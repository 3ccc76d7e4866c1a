use Rattle.std.proofs.Common.{◌≡◌, refl, arith, pos}
use Rattle.std.proofs.lemmas.Int.{ints}
use Rattle.int_laws.specs.Division.{floor_of}
use Rattle.flex_interval.specs.Ends.{Ends}
use Rattle.code_stress.specs.Direct.{inside_square}
use Rattle.model_tests.proofs.stresses.section.Goals as goal

inside_is : (area modulus weight : Ends) → inside_square (record { x = pos 6400000000; y = pos 51400000000; area = area; modulus = modulus; weight = weight }) ≡ pos 22500000000
unfolding inside_square floor_of
inside_is area modulus weight = refl

pub returns-clause-inside : goal.returns-clause-inside
returns-clause-inside c =
    let same = inside_is c.point.result c.point-2.result c.point-3.result in
    record { wall = omega (arith, ints); even = rw same refl; low = rw same (omega (arith, ints)); high = rw same (omega (arith, ints)) }

pub returns-clause-area : goal.returns-clause-area
returns-clause-area c = rw c.point.ensures.value (omega (arith, ints))

pub returns-clause-modulus : goal.returns-clause-modulus
returns-clause-modulus c = rw c.point-2.ensures.value (omega (arith, ints))
