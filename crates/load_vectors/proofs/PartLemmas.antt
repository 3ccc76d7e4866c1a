-- Six intervals as the parts of a load.
use Rattle.std.proofs.Common.{◌≡◌, ℕ, zero, suc, ◌<◌, [], ◌∷◌, ◌++◌, List, length, arith, Ok, ℤ}
use Rattle.std.specs.List.{slice_index_or}
use Rattle.flex_interval.specs.Ends.{Ends}
use Rattle.flex_interval.specs.Fraction.{Within}
use Rattle.member_set.specs.Members.{nothing}
use Rattle.load_vectors.specs.NodeLoads.{by_freedom, in_units, units_of, whole_load}
use Rattle.load_vectors.specs.Totals.{ArePartsOf, IsOfLoads}

-- what holds in each freedom
pub in_each : (P : ℕ → Type 0) → P 0 → P 1 → P 2 → P 3 → P 4 → P 5 → (freedom : ℕ) → freedom < 6 → P freedom
in_each P a b c d e f zero below = a
in_each P a b c d e f (suc zero) below = b
in_each P a b c d e f (suc (suc zero)) below = c
in_each P a b c d e f (suc (suc (suc zero))) below = d
in_each P a b c d e f (suc (suc (suc (suc zero)))) below = e
in_each P a b c d e f (suc (suc (suc (suc (suc zero))))) below = f
in_each P a b c d e f (suc (suc (suc (suc (suc (suc n)))))) below = absurd (omega arith)

-- the interval of a part in mN
pub record IsUnits (part : ℤ) (e : Ends) : Type 0 where
  pub value : units_of part ≡ Ok e
  pub within : Within e (in_units part)
  pub size : IsOfLoads 1 e

pub parts_of_whole : (node : ℕ) (x y z rx ry rz : ℤ) (a b c d e f : Ends) → IsUnits x a → IsUnits y b → IsUnits z c → IsUnits rx d → IsUnits ry e → IsUnits rz f →
    ArePartsOf (whole_load node (λ freedom. by_freedom x y z rx ry rz freedom)) (a ∷ b ∷ c ∷ d ∷ e ∷ f ∷ [])
parts_of_whole node x y z rx ry rz a b c d e f p q r s t u =
    record {
      value = in_each _ p.value q.value r.value s.value t.value u.value;
      within = λ _ _. in_each _ p.within q.within r.within s.within t.within u.within;
      size = in_each _ p.size q.size r.size s.size t.size u.size;
    }

-- what holds of the parts of two vectors of three
pub of_vectors : (v w : List Ends) → length v ≡ 3 → length w ≡ 3 → (P : ℕ → Ends → Type 0) →
    P 0 (slice_index_or v 0 nothing) → P 1 (slice_index_or v 1 nothing) → P 2 (slice_index_or v 2 nothing) →
    P 3 (slice_index_or w 0 nothing) → P 4 (slice_index_or w 1 nothing) → P 5 (slice_index_or w 2 nothing) →
    (freedom : ℕ) → freedom < 6 → P freedom (slice_index_or (v ++ w) freedom nothing)
of_vectors [] w three also P p q r s t u = absurd (omega arith)
of_vectors (x ∷ []) w three also P p q r s t u = absurd (omega arith)
of_vectors (x ∷ y ∷ []) w three also P p q r s t u = absurd (omega arith)
of_vectors (x ∷ y ∷ z ∷ l ∷ ls) w three also P p q r s t u = absurd (omega arith)
of_vectors (x ∷ y ∷ z ∷ []) [] three also P p q r s t u = absurd (omega arith)
of_vectors (x ∷ y ∷ z ∷ []) (a ∷ []) three also P p q r s t u = absurd (omega arith)
of_vectors (x ∷ y ∷ z ∷ []) (a ∷ b ∷ []) three also P p q r s t u = absurd (omega arith)
of_vectors (x ∷ y ∷ z ∷ []) (a ∷ b ∷ c ∷ l ∷ ls) three also P p q r s t u = absurd (omega arith)
of_vectors (x ∷ y ∷ z ∷ []) (a ∷ b ∷ c ∷ []) three also P p q r s t u = in_each (λ k. P k (slice_index_or (x ∷ y ∷ z ∷ a ∷ b ∷ c ∷ []) k nothing)) p q r s t u
