-- Lists made place by place, and one after the other.
use Rattle.std.proofs.Common.{◌≡◌, ℕ, ◌+◌, List, [], ◌∷◌, ◌++◌, sym, ap, ◌∙◌, append_assoc, arith, map-id}
use Rattle.std.specs.List.{flat_map, range_with_len}
use Rattle.std.proofs.lemmas.List.{flat_map_more}
use Rattle.lists.specs.Listed.{listed}
use Rattle.std.proofs.lemmas.List.FromFn.{map-range_with_len_more}

range_more : (n : ℕ) → range_with_len 0 (n + 1) ≡ range_with_len 0 n ++ n ∷ []
range_more n =
    let step = map-range_with_len_more (λ (k : ℕ). k) 0 n n (omega arith) in
    rw (map-id (range_with_len 0 (n + 1)), map-id (range_with_len 0 n)) at step

-- the lists of one more number
pub flat_map_range_more : {X : Type 0} (f : ℕ → List X) (old : List X) (n : ℕ) →
    (old ++ flat_map f (range_with_len 0 n)) ++ f n ≡ old ++ flat_map f (range_with_len 0 (n + 1))
flat_map_range_more f old n = flat_map_more f old (range_with_len 0 n) n ∙ ap (λ (ns : List ℕ). old ++ flat_map f ns) (sym (range_more n))

-- one more place behind another list
pub listed_onto : {X : Type 0} (n : ℕ) (f : ℕ → X) (old xs new : List X) (a : X) → new ≡ xs ++ a ∷ [] → xs ≡ old ++ listed n f → a ≡ f n →
    new ≡ old ++ listed (n + 1) f
listed_onto n f old xs new a pushed before here = rw (pushed, before, here) (append_assoc old (listed n f) (f n ∷ []) ∙ ap (λ (ys : List _). old ++ ys) (sym (map-range_with_len_more f 0 n n (omega arith))))
