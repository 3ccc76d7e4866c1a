use Rattle.std.proofs.Common.{◌≡◌, ◌<◌, ℕ, List, [], length, get_or, replicate, ◌∙◌, sym, ap, subst, arith, All}
use Rattle.std.proofs.lemmas.List.{length-replicate}
use Rattle.std.proofs.lemmas.Result.{on_ok_weaker}
use Rattle.lists.specs.Rising.{IsRising}
use Rattle.lists.specs.Lists.{contents, list_of}
use Rattle.lists.proofs.ListsLemmas.{length-contents}
use Rattle.lists.proofs.PlaceLemmas.{length-places}
use Rattle.elim_order.specs.Graph.{links}
use Rattle.elim_tree.specs.Tree.{placed, AreLater}
use Rattle.elim_tree.specs.Parts.{ListsHigher, higher}
use Rattle.elim_tree.proofs.HeadLemmas.{empty_at}
use Rattle.elim_tree.proofs.PlacedLemmas.{higher_is, higher_above, are_later_same, place_within, places_apart}
use Rattle.elim_tree.proofs.build.fill_later.Goals as goal

-- as many lists as nodes
many : (size : ℕ) (lists : List (List ℕ)) → lists ≡ replicate size [] → length lists ≡ size
many size lists e = ap (λ (xs : List (List ℕ)). length xs) e ∙ length-replicate size (let e : List ℕ = [] in e)

pub list_higher-requires-clause-places : goal.list_higher-requires-clause-places
list_higher-requires-clause-places c k d lt =
    let long = ap (λ (xs : List ℕ). length xs) c.places.ensures.value ∙ length-places c.args.order.now in
    omega (arith, place_within c.args.order.now c.places.result.now k d c.requires.order c.places.ensures.value (omega (arith, lt, long)), many (length c.args.order.now) (contents c.args.later.now) c.requires.empty, length-contents c.args.later.now)

pub list_higher-requires-clause-in_range : goal.list_higher-requires-clause-in_range
list_higher-requires-clause-in_range c =
    let long = ap (λ (xs : List ℕ). length xs) c.places.ensures.value ∙ length-places c.args.order.now in
    let P : ℕ → Type 0 = λ n. All (λ (p : ℕ × ℕ). (p.0 < n) × (p.1 < n)) c.args.pairs.now in
    subst P (sym long) c.requires.in_range

pub list_higher-requires-clause-apart : goal.list_higher-requires-clause-apart
list_higher-requires-clause-apart c k d lt e =
    let both = c.requires.in_range k d lt in
    c.requires.apart k d lt (places_apart c.args.order.now c.places.result.now (get_or c.args.pairs.now k d).0 (get_or c.args.pairs.now k d).1 c.requires.order c.places.ensures.value both.0 both.1 e)

pub list_higher-requires-clause-rising : goal.list_higher-requires-clause-rising
list_higher-requires-clause-rising c p =
    let P : List (List ℕ) → Type 0 = λ ls. IsRising (list_of ls p) in
    subst P (sym c.requires.empty) (subst IsRising (sym (empty_at (length c.args.order.now) p)) (λ i j d il jl. absurd (omega arith)))

pub hand_up-requires : goal.hand_up-requires
hand_up-requires c =
    let order = c.args.order.now in
    let L : List (List ℕ) → Type 0 = λ ls. ListsHigher c.args.pairs.now c.places.result.now ls (contents c.list_higher.new.lists) in
    let listed = subst L c.requires.empty c.in_ok-list_higher.ensures in
    higher_above c.args.pairs.now order c.places.result.now (contents c.list_higher.new.lists) c.requires.order c.places.ensures.value c.requires.in_range listed (c.in_ok-list_higher.ensures.count ∙ many (length order) (contents c.args.later.now) c.requires.empty)

pub returns : goal.returns
returns c =
    let order = c.args.order.now in
    let first = contents c.list_higher.new.lists in
    let L : List (List ℕ) → Type 0 = λ ls. ListsHigher c.args.pairs.now c.places.result.now ls first in
    let listed = subst L c.requires.empty c.in_ok-list_higher.ensures in
    let size : length c.list_higher.new.lists ≡ length order = sym (length-contents c.list_higher.new.lists) ∙ c.in_ok-list_higher.ensures.count ∙ many (length order) (contents c.args.later.now) c.requires.empty in
    let same = λ (p q : ℕ) (lt : p < q). higher_is c.args.pairs.now order c.places.result.now first p q c.requires.order c.places.ensures.value c.requires.in_range listed lt in
    let A : ℕ → Type 0 = λ n. AreLater (placed (links c.args.pairs.now) order) n (contents c.hand_up.new.lists) in
    on_ok_weaker c.hand_up.result (λ are. subst A size (are_later_same (higher first) (placed (links c.args.pairs.now) order) (length c.list_higher.new.lists) (contents c.hand_up.new.lists) same are)) c.hand_up.ensures
