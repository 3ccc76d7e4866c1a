-- Where generated nodes lie: each 3 m from the one before.
use Rattle.std.proofs.Common.{◌≡◌, ◌⊎◌, ℕ, ◌+◌, ◌*◌, ◌≤◌, pos, ◌-ℤ◌, unsigned_abs, inl, inr, ap, ◌∙◌, arith}
use Rattle.std.proofs.lemmas.Bool.Decides.{nat_tests}
use Rattle.std.proofs.lemmas.Int.{ints}
use Rattle.model_types.specs.Rules.{IsSpan, square_difference, square_distance}
use Rattle.model_gen.specs.Text.{east, north}
use Rattle.model_gen.specs.GeneratedModel.{node}

pub east_below : (i : ℕ) → i ≤ 1600 → east i ≤ 2406000000
east_below i few = grind (arith, nat_tests)

pub north_below : (i : ℕ) → north i ≤ 3000000
north_below i = grind (arith, nat_tests)

square_same : (a : ℕ) → square_difference (pos a) (pos a) ≡ 0
square_same a = let none : unsigned_abs (pos a -ℤ pos a) ≡ 0 = omega (arith, ints) in ap (λ d. d * d) none

square_apart : (a b : ℕ) → b ≡ a + 3000000 → square_difference (pos a) (pos b) ≡ 9000000000000
square_apart a b is = let apart : unsigned_abs (pos b -ℤ pos a) ≡ 3000000 = omega (arith, ints, is) in ap (λ d. d * d) apart

square_back : (a b : ℕ) → a ≡ b + 3000000 → square_difference (pos a) (pos b) ≡ 9000000000000
square_back a b is = let apart : unsigned_abs (pos b -ℤ pos a) ≡ 3000000 = omega (arith, ints, is) in ap (λ d. d * d) apart

-- the next node lies 3 m on along one axis
step : (i : ℕ) → ((east (i + 1) ≡ east i + 3000000) × (north (i + 1) ≡ north i)) ⊎ ((east (i + 1) ≡ east i) × ((north (i + 1) ≡ north i + 3000000) ⊎ (north i ≡ north (i + 1) + 3000000)))
step i = grind (arith, nat_tests)

next_square : (i : ℕ) → square_distance (node i) (node (i + 1)) ≡ 9000000000000
next_square i =
    elim (step i) [
      | inl (along, same) ↦ sum (square_apart (east i) (east (i + 1)) along) (ap (square_difference (pos (north i))) (ap pos same) ∙ square_same (north i))
      | inr (same, inl up) ↦ sum (ap (square_difference (pos (east i))) (ap pos same) ∙ square_same (east i)) (square_apart (north i) (north (i + 1)) up)
      | inr (same, inr down) ↦ sum (ap (square_difference (pos (east i))) (ap pos same) ∙ square_same (east i)) (square_back (north i) (north (i + 1)) down)
    ]
  where
    sum : {a b : ℕ} → square_difference (pos (east i)) (pos (east (i + 1))) ≡ a → square_difference (pos (north i)) (pos (north (i + 1))) ≡ b → square_distance (node i) (node (i + 1)) ≡ a + b + 0
    sum x y = omega (arith, x, y)

-- a straight may run to the next node
pub next_span : (i : ℕ) → IsSpan (node i) (node (i + 1))
next_span i = record { apart = omega (arith, next_square i); near = omega (arith, next_square i) }
