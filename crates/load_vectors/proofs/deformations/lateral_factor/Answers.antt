use Rattle.std.proofs.Common.{rules, ◌≡◌, ◌≤ℤ◌, ℤ, pos, ◌-ℤ◌, ◌*ℤ◌, arith, FitsSigned, to_z, of_z, to_z-of_z}
use Rattle.std.specs.Int.{w64, w128}
use Rattle.std.proofs.lemmas.Int.{ints}
use Rattle.int_laws.proofs.Sums.{int_sums}
use Rattle.int_laws.proofs.Products.{mul_nonnegative, product_most}
use Rattle.load_vectors.proofs.deformations.lateral_factor.Goals as goal

value : (c : goal.After-from-2) → to_z w128 (of_z w128 (to_z w128 (of_z w128 c.from.result) *ℤ to_z w128 (of_z w128 c.from-2.result))) ≡ c.args.p *ℤ (pos 1000 -ℤ pos 2 *ℤ c.args.nu)
value c =
    let p_fits : FitsSigned w128 c.from.result = search rules in
    let rest_fits : FitsSigned w128 c.from-2.result = search rules in
    let twice_fits : FitsSigned w64 (pos 2 *ℤ c.args.nu) = omega (arith, ints, c.requires.nu.least, c.requires.nu.most) in
    let part_fits : FitsSigned w64 (pos 1000 -ℤ pos 2 *ℤ c.args.nu) = omega (arith, ints, c.requires.nu.least, c.requires.nu.most) in
    let p : c.from.result ≡ c.args.p = rw (to_z-of_z c.ranges.p) at c.from.ensures in
    let rest : c.from-2.result ≡ pos 1000 -ℤ pos 2 *ℤ c.args.nu = rw (to_z-of_z c.ranges.nu, to_z-of_z twice_fits, to_z-of_z part_fits) at c.from-2.ensures in
    let fits : FitsSigned w128 (c.args.p *ℤ (pos 1000 -ℤ pos 2 *ℤ c.args.nu)) = search rules in
    rw (to_z-of_z p_fits, to_z-of_z rest_fits, p, rest, to_z-of_z fits)

pub returns-clause-value : goal.returns-clause-value
returns-clause-value c = value c

low : (nu : ℤ) → nu ≤ℤ pos 499 → pos 0 ≤ℤ (pos 1000 -ℤ pos 2 *ℤ nu)
low nu most = omega (arith, ints)

high : (nu : ℤ) → pos 0 ≤ℤ nu → (pos 1000 -ℤ pos 2 *ℤ nu) ≤ℤ pos 1000
high nu least = omega (arith, ints)

pub returns-clause-low : goal.returns-clause-low
returns-clause-low c = rw (value c) (mul_nonnegative c.args.p (pos 1000 -ℤ pos 2 *ℤ c.args.nu) c.requires.pressure.least (low c.args.nu c.requires.nu.most))

pub returns-clause-high : goal.returns-clause-high
returns-clause-high c =
    let most = product_most c.args.p (pos 1000 -ℤ pos 2 *ℤ c.args.nu) (pos 100000000) (pos 1000) (omega (arith, ints)) (low c.args.nu c.requires.nu.most) c.requires.pressure.most (high c.args.nu c.requires.nu.least) in
    rw (value c) (omega (arith, int_sums, most))
