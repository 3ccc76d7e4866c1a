-- Lists that grow by one place.
use Rattle.std.proofs.Common.{◌≡◌, ◌+◌, ◌<◌, ◌∷◌, [], ◌++◌, ℕ, List, length, take, get_or, ap, sym, ◌∙◌, arith}
use Rattle.std.specs.List.{flat_map}
use Rattle.std.proofs.lemmas.List.{append_assoc, take_more, flat_map_more}
use Rattle.std.proofs.lemmas.List.FromFn.{map-range_with_len_more}
use Rattle.lists.specs.Listed.{listed}

pub listed_onto : {X : Type 0} (n : ℕ) (f : ℕ → X) (old xs new : List X) (a : X) → new ≡ xs ++ a ∷ [] → xs ≡ old ++ listed n f → a ≡ f n → new ≡ old ++ listed (n + 1) f
listed_onto n f old xs new a pushed before here =
    rw (pushed, before, here) (append_assoc old (listed n f) (f n ∷ []) ∙ ap (λ (ys : List _). old ++ ys) (sym (map-range_with_len_more f 0 n n (omega arith))))

pub flat_map_take : {X Y : Type 0} (f : X → List Y) (xs : List X) (i : ℕ) (d : X) → i < length xs → flat_map f (take (i + 1) xs) ≡ flat_map f (take i xs) ++ f (get_or xs i d)
flat_map_take f xs i d inside = ap (λ (ys : List _). flat_map f ys) (take_more xs i d inside) ∙ sym (flat_map_more f [] (take i xs) (get_or xs i d))
