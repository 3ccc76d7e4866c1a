-- Lists with an item for each end of an element.
use Rattle.std.proofs.Common.{◌≡◌, ℕ, zero, suc, ◌+◌, ◌*◌, ◌<◌, ◌≤◌, Bool, false, true, List, [], ◌∷◌, map, length, All, Some, refl, ap, subst, arith}
use Rattle.std.specs.Prelude.{slice_get}
use Rattle.std.specs.List.{flat_map, range_with_len}
use Rattle.std.proofs.lemmas.List.Elements.{All-nil, All-cons, All-append}
use Rattle.std.proofs.lemmas.Option.{get_or_from_slice_get, slice_get_within}
use Rattle.code_stress.specs.Checks.{end_place}

-- the items of the two ends of an element
abbrev pub both : {X : Type 0} → (ℕ → Bool → X) → ℕ → List X
both f n = f n false ∷ f n true ∷ []

pub ends-all : {X : Type 0} (P : X → Type 0) (f : ℕ → Bool → X) (a k : ℕ) → ((n : ℕ) (e : Bool) → a ≤ n → n < a + k → P (f n e)) →
    All P (flat_map (both f) (range_with_len a k))
ends-all P f a zero each = All-nil P
ends-all P f a (suc k) each =
    All-append P (both f a) (flat_map (both f) (range_with_len (a + 1) k))
    (All-cons P (f a false) (f a true ∷ []) (each a false (omega arith) (omega arith)) (All-cons P (f a true) [] (each a true (omega arith) (omega arith)) (All-nil P)))
    (ends-all P f (a + 1) k (λ n e low high. each n e (omega arith) (omega arith)))

pub ends-map : {X Y : Type 0} (g : X → Y) (f : ℕ → Bool → X) (ns : List ℕ) → map g (flat_map (both f) ns) ≡ flat_map (both (λ n e. g (f n e))) ns
ends-map g f [] = refl
ends-map g f (n ∷ ns) = ap (λ (ys : List _). g (f n false) ∷ g (f n true) ∷ ys) (ends-map g f ns)

pub ends-length : {X : Type 0} (f : ℕ → Bool → X) (ns : List ℕ) → length (flat_map (both f) ns) ≡ 2 * length ns
ends-length f [] = refl
ends-length f (n ∷ ns) = omega (arith, ends-length f ns)

pub ends-at : {X : Type 0} (f : ℕ → Bool → X) (a k n j : ℕ) (e : Bool) → a + n ≡ j → n < k →
    slice_get (flat_map (both f) (range_with_len a k)) (2 * n + end_place e) ≡ Some (f j e)
ends-at f a zero n j e is inside = absurd (omega arith)
ends-at f a (suc k) zero j false is inside = ap (λ (n : ℕ). Some (f n false)) (let same : a ≡ j = omega arith in same)
ends-at f a (suc k) zero j true is inside = ap (λ (n : ℕ). Some (f n true)) (let same : a ≡ j = omega arith in same)
ends-at f a (suc k) (suc n) j e is inside =
    let place : 2 * suc n + end_place e ≡ suc (suc (2 * n + end_place e)) = omega arith in
    rw place (ends-at f (a + 1) k n j e (omega arith) (omega arith))

-- what holds of all holds at each end
pub ends-each : {X : Type 0} (P : X → Type 0) (f : ℕ → Bool → X) (k n : ℕ) (e : Bool) → n < k → All P (flat_map (both f) (range_with_len 0 k)) → P (f n e)
ends-each P f k n e inside all =
    let at = ends-at f 0 k n n e (omega arith) inside in
    let xs = flat_map (both f) (range_with_len 0 k) in
    subst P (get_or_from_slice_get xs (2 * n + end_place e) (f n e) (f n e) at) (all (2 * n + end_place e) (f n e) (slice_get_within xs (2 * n + end_place e) (f n e) at))
