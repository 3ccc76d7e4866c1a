use Rattle.std.proofs.Common.{◌≡◌, ℕ, zero, suc, ◌+◌, ◌*◌, ◌^◌, ◌<◌, ◌≤◌, List, ◌∷◌, length, get_or, replicate, Contains, ◌∙◌, ap, ap₂, sym, subst, arith, inl, inr, ℤ, pos}
use Rattle.std.specs.Int.RustNames.{unsigned_abs}
use Rattle.std.proofs.lemmas.Bool.{cases_lt}
use Rattle.std.proofs.lemmas.List.{get_or_default, get_or_past, get_or-replicate, length-replicate, get_or-map, length-map}
use Rattle.lists.specs.Lists.{contents, list_of}
use Rattle.elim_tree.specs.Fronts.{Fronts, IsAssemblyTree}
use Rattle.dense_front.specs.Value.{blank}
use Rattle.dense_front.specs.Tree.{nodes_at}
use Rattle.dense_front.specs.Space.{AreColumnsFor, space_of}
use Rattle.dense_front.proofs.SpaceLemmas.{blank-is}
use Rattle.dense_front.proofs.front.FrontSpace.new.Goals as goal

-- a front's places are places of the order
places-below : (t : Fronts) (f k d : ℕ) → IsAssemblyTree t → f < length t.order → k < length (f ∷ list_of t.later f) → get_or (f ∷ list_of t.later f) k d < length t.order
places-below t f zero d a lt in' = lt
places-below t f (suc k) d a lt in' =
    omega (arith, (a.above f (get_or (list_of t.later f) k 0) (k, omega (arith, in'), get_or_default (list_of t.later f) k (get_or (list_of t.later f) k 0) 0 (omega (arith, in')))).1, get_or_default (list_of t.later f) k d 0 (omega (arith, in')))

-- and their nodes are nodes of it
nodes-small : (t : Fronts) (f k d : ℕ) → IsAssemblyTree t → f < length t.order → k < length (nodes_at t.order (f ∷ list_of t.later f)) → get_or (nodes_at t.order (f ∷ list_of t.later f)) k d < 8000
nodes-small t f k d a lt in' =
    let places = f ∷ list_of t.later f in
    let by = λ (p : ℕ). get_or t.order p 0 in
    let inside : k < length places = omega (arith, in', length-map places by) in
    omega (arith, get_or-map by places k 0 d inside, a.permutation.spread.in_range (get_or places k 0) (places-below t f k 0 a lt inside), a.few)

zeros : (n : ℕ) (xs : List ℤ) → xs ≡ replicate n (pos 0) → (s : ℕ) → get_or xs s (pos 0) ≡ pos 0
zeros n xs is s =
    ap (λ (ys : List ℤ). get_or ys s (pos 0)) is
    ∙ elim (cases_lt s n) [
      | inl lt ↦ get_or-replicate n s (pos 0) (pos 0) lt
      | inr past ↦ get_or_past (replicate n (pos 0)) s (pos 0) (omega (arith, past, length-replicate n (pos 0)))
    ]

small-zeros : (n : ℕ) (xs : List ℤ) → xs ≡ replicate n (pos 0) → (k : ℕ) (d : ℤ) → k < length xs → unsigned_abs (get_or xs k d) < 2 ^ 57
small-zeros n xs is k d in' = omega (arith, ap unsigned_abs (get_or_default xs k d (pos 0) in' ∙ zeros n xs is k))

pub nodes_of-requires : goal.nodes_of-requires
nodes_of-requires c k d in' =
    let t = c.args.t.now in
    let places_are = c.deref.ensures.value ∙ c.in_ok-places.ensures ∙ ap (λ (ls : List ℕ). c.args.f ∷ ls) c.later.ensures.value in
    let P : List ℕ → Type 0 = λ ps. get_or ps k d < length t.order in
    let below = places-below t c.args.f k d c.later.ensures.kept c.requires (omega (arith, in', ap (λ (ps : List ℕ). length ps) places_are)) in
    let here = subst P (sym places_are) below in
    omega (arith, here, ap (λ (xs : List ℕ). length xs) c.order.ensures)

pub invariant_of-result : goal.invariant_of-result
invariant_of-result c =
    let t = c.args.t.now in
    let f = c.args.f in
    let later = list_of t.later f in
    let later_is = c.in_ok-from_slice.ensures.items ∙ c.later-2.ensures.value in
    let count = ap (λ (xs : List ℕ). length xs) later_is in
    let places_are = c.in_ok-places.ensures ∙ ap (λ (ls : List ℕ). f ∷ ls) c.later.ensures.value in
    let nodes_are = c.in_ok-nodes.ensures ∙ ap₂ nodes_at c.order.ensures (c.deref.ensures.value ∙ places_are) in
    let rows : 6 * c.len-size.result ≡ 6 * length c.in_ok-from_slice.field-0.items + 6 = omega (arith, c.len-size.ensures, c.in_ok-places.places.ok.0, ap (λ (xs : List ℕ). length xs) places_are, count) in
    record {
      places_are = places_are ∙ ap (λ (ls : List ℕ). f ∷ ls) (sym later_is);
      few = omega (arith, count, c.later.ensures.kept.narrow f);
      nodes_whole = omega (arith, count, ap (λ (xs : List ℕ). length xs) nodes_are, length-map (f ∷ later) (λ (p : ℕ). get_or t.order p 0));
      nodes_small = subst (λ (ns : List ℕ). (k d : ℕ) → k < length ns → get_or ns k d < 8000) (sym nodes_are) (λ k d in'. nodes-small t f k d c.later.ensures.kept c.requires in');
      matched_whole = omega (arith, c.in_ok-vec.ensures.len, c.in_ok-vec.field-0.ok.0);
      square_whole = sym c.in_ok-vec-2.field-0.ok.0 ∙ c.in_ok-vec-2.ensures.len ∙ ap₂ (λ (x y : ℕ). x * y) rows rows;
      entries_whole = sym c.in_ok-vec-3.field-0.ok.0 ∙ c.in_ok-vec-3.ensures.len ∙ ap (λ (x : ℕ). 6 * x) rows;
      entries_small = small-zeros _ c.in_ok-vec-3.field-0.items (c.in_ok-vec-3.ensures.items_if_clones_equal (λ _ e. e));
      columns_whole = subst (λ (n : ℕ). AreColumnsFor n (contents c.in_ok-zero_columns.field-0.items)) rows c.in_ok-zero_columns.ensures;
    }

pub returns-clause-blank : goal.returns-clause-blank
returns-clause-blank c =
    let t = c.args.t.now in
    let f = c.args.f in
    let later_is = c.in_ok-from_slice.ensures.items ∙ c.later-2.ensures.value in
    let places_are = c.in_ok-places.ensures ∙ ap (λ (ls : List ℕ). f ∷ ls) c.later.ensures.value in
    let nodes_are = c.in_ok-nodes.ensures ∙ ap₂ nodes_at c.order.ensures (c.deref.ensures.value ∙ places_are) in
    blank-is c.fronts_follow_the_recurrence.ensures.triangles f c.in_ok-nodes.nodes.items c.in_ok-from_slice.field-0.items c.in_ok-vec-2.field-0.items (zeros _ c.in_ok-vec-2.field-0.items (c.in_ok-vec-2.ensures.items_if_clones_equal (λ _ e. e)))
    ∙ ap₂ (blank f) nodes_are later_is
