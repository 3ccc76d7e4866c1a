use Rattle.std.proofs.Common.{◌≡◌, ◌+◌, ◌-◌, ◌*◌, ◌^◌, ◌<◌, ◌≤◌, arith, get_or, subst, true, false, pos, negsuc, neg_ℤ, ◌≤ℤ◌, ◌<ℤ◌, int_le, inl, inr, ℕ, ℤ, to_z, of_z, unsigned_abs}
use Rattle.std.specs.Int.{w128}
use Rattle.std.proofs.lemmas.Bool.{cases_lt}
use Rattle.std.proofs.lemmas.Int.{ints}
use Rattle.dense_front.specs.Square.{at_square}
use Rattle.dense_front.proofs.CastLemmas.{wide_is}
use Rattle.dense_front.proofs.update.has_low_row.Goals as goal

low_is : (x : ℤ) → unsigned_abs x < 2 ^ 127 → int_le (to_z w128 (of_z w128 x)) (negsuc (2 ^ 113 - 1)) ≡ true → pos (2 ^ 113) ≤ℤ neg_ℤ x
low_is x small test = let t = rw (wide_is x small) at test in omega (arith, ints, t)

high_is : (x : ℤ) → unsigned_abs x < 2 ^ 127 → int_le (to_z w128 (of_z w128 x)) (negsuc (2 ^ 113 - 1)) ≡ false → neg_ℤ x <ℤ pos (2 ^ 113)
high_is x small test = let t = rw (wide_is x small) at test in omega (arith, ints, t)

pub returns-then-square-size : goal.returns-then-square-size
returns-then-square-size c =
    let r = c.loop-row.row in
    (r, omega arith, omega arith, low_is (at_square c.args.size c.args.square.now r r) (c.requires.small r (omega arith) (omega arith)) c.if-square-size.true)

pub loop-row-preserved : goal.loop-row-preserved
loop-row-preserved c r from lt =
    let row = c.loop-row.row in
    elim (cases_lt r row) [
      | inl before ↦ c.loop-row.invariant r from before
      | inr here ↦
          let same : row ≡ r = omega arith in
          subst (λ (k : ℕ). neg_ℤ (at_square c.args.size c.args.square.now k k) <ℤ pos (2 ^ 113)) same
          (high_is (at_square c.args.size c.args.square.now row row) (c.requires.small row (omega arith) (omega arith)) c.if-square-size.false)
    ]

pub loop-row-init : goal.loop-row-init
loop-row-init c r from lt = absurd (omega arith)

pub returns : goal.returns
returns c r from lt = c.loop-row.invariant r from (omega arith)
