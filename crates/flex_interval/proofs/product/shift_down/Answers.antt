use Rattle.std.proofs.Common.{refl, ℕ, negsuc, ◌≡◌, ◌^◌, ℤ, pos, FitsSigned, to_z-of_z}
use Rattle.std.specs.Int.{w128}
use Rattle.int_laws.specs.Division.{floor_of}
use Rattle.flex_interval.proofs.EndsLemmas.{small_fits}
use Rattle.flex_interval.proofs.FractionLemmas.{floor_small}
use lib.Signed.{shr_z}
use Rattle.flex_interval.proofs.product.shift_down.Goals as goal

shift-floor : (n : ℤ) (s : ℕ) → shr_z n (2 ^ s) ≡ floor_of n (pos (2 ^ s))
unfolding floor_of
shift-floor (pos n) s = refl
shift-floor (negsuc n) s = refl

pub returns-clause-value : goal.returns-clause-value
returns-clause-value c =
    let floor_fits : FitsSigned w128 (floor_of c.args.n (pos (2 ^ c.args.s))) = small_fits (floor_small c.args.n c.args.s c.requires.size) in
    rw (to_z-of_z c.ranges.n, shift-floor c.args.n c.args.s, to_z-of_z floor_fits)

pub returns-clause-size : goal.returns-clause-size
returns-clause-size c = rw (returns-clause-value c) (floor_small c.args.n c.args.s c.requires.size)
