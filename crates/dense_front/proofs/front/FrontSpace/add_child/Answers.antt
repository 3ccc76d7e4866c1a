use Rattle.std.proofs.Common.{◌≡◌, ℕ, suc, ◌+◌, ◌*◌, ◌^◌, ◌<◌, ◌≤◌, List, ◌∷◌, length, Contains, ◌∙◌, ap, sym, subst, arith, ℤ, ◌+ℤ◌}
use Rattle.std.specs.Int.RustNames.{unsigned_abs}
use Rattle.std.specs.Vec.{with_items}
use Rattle.std.proofs.lemmas.List.{with_items_is}
use Rattle.lists.specs.Rising.{IsRising}
use Rattle.lists.specs.Rows.{freedom_at}
use Rattle.cholesky_laws.specs.Fronts.{Front, Space, Update, update_entry, added, space_places, IsNextChild}
use Rattle.dense_front.specs.Square.{at_square}
use Rattle.dense_front.specs.Space.{space_of}
use Rattle.dense_front.proofs.SpaceLemmas.{small-before, added-is}
use Rattle.dense_front.proofs.front.FrontSpace.add_child.Goals as goal

pub add_to-requires-clause-rising : goal.add_to-requires-clause-rising
add_to-requires-clause-rising c =
    let (base, d, next) = c.requires in
    let up = c.fronts_follow_the_recurrence.ensures.shapes.rising base d c.args.self.now c.args.update.now next in
    let here : IsRising (c.self.inside.front ∷ c.self.inside.later.items) = subst (λ (s : Space). IsRising (space_places s)) (sym c.self.view_is) up in
    subst IsRising (sym (c.deref.ensures.value ∙ c.self.invariant.places_are)) here

pub add_to-requires-clause-listed : goal.add_to-requires-clause-listed
add_to-requires-clause-listed c q in' =
    let (base, d, next) = c.requires in
    let listed = c.fronts_follow_the_recurrence.ensures.shapes.child base d c.args.self.now c.args.update.now next q in' in
    let here : Contains (c.self.inside.front ∷ c.self.inside.later.items) q = subst (λ (s : Space). Contains (space_places s) q) (sym c.self.view_is) listed in
    subst (λ (ps : List ℕ). Contains ps q) (sym (c.deref.ensures.value ∙ c.self.invariant.places_are)) here

pub add_to-requires-clause-small : goal.add_to-requires-clause-small
add_to-requires-clause-small c =
    let (base, d, next) = c.requires in
    let s = c.self.inside in
    let P : Space → Type 0 = λ x. IsNextChild base d x c.args.update.now in
    let small = small-before c.fronts_follow_the_recurrence.ensures base d s.front s.nodes.items s.later.items s.square.items c.args.update.now (subst P (sym c.self.view_is) next) in
    let count : 6 * length s.later.items + 6 ≡ 6 * length c.deref.result.now = omega (arith, ap (λ (ps : List ℕ). length ps) (c.deref.ensures.value ∙ c.self.invariant.places_are)) in
    let Q : ℕ → List ℤ → Type 0 = λ n square. (r c : ℕ) → c ≤ r → r < n → unsigned_abs (at_square n square r c) < 2 ^ 126 in
    subst (λ (n : ℕ). Q n c.deref_mut.result.now) count (subst (Q (6 * length s.later.items + 6)) (sym c.deref_mut.ensures.value) small)

pub add_to-requires-clause-update_small : goal.add_to-requires-clause-update_small
add_to-requires-clause-update_small c =
    let (base, d, next) = c.requires in
    let small = c.fronts_follow_the_recurrence.ensures.sizes.update base d c.args.self.now c.args.update.now next in
    let P : List ℕ → Type 0 = λ ps. (r c' : ℕ) → c' ≤ r → r < 6 * length ps → unsigned_abs (update_entry c.args.update.now (freedom_at ps r) (freedom_at ps c')) < 2 ^ 113 in
    let here : P (c.self.inside.front ∷ c.self.inside.later.items) = subst (λ (s : Space). P (space_places s)) (sym c.self.view_is) small in
    subst P (sym (c.deref.ensures.value ∙ c.self.invariant.places_are)) here

pub returns-clause-exact : goal.returns-clause-exact
returns-clause-exact c =
    let s = c.self.inside in
    let u = c.args.update.now in
    let P : ℕ → List ℕ → List ℤ → Type 0 = λ n ps old. (r c' : ℕ) → c' ≤ r → r < n → at_square n c.add_to.new.square r c' ≡ at_square n old r c' +ℤ update_entry u (freedom_at ps r) (freedom_at ps c') in
    let places_are = c.deref.ensures.value ∙ c.self.invariant.places_are in
    let count : 6 * length c.deref.result.now ≡ 6 * length s.later.items + 6 = omega (arith, ap (λ (ps : List ℕ). length ps) places_are) in
    let adds = subst (P (6 * length s.later.items + 6) (s.front ∷ s.later.items)) c.deref_mut.ensures.value (subst (λ (ps : List ℕ). P (6 * length s.later.items + 6) ps c.deref_mut.result.now) places_are (subst (λ (n : ℕ). P n c.deref.result.now c.deref_mut.result.now) count c.add_to.ensures.added)) in
    let after : (with_items s.square c.add_to.new.square).items ≡ c.add_to.new.square = with_items_is s.square c.add_to.new.square (omega (arith, c.add_to.auto.square, c.deref_mut.ensures.len, s.square.ok.0)) in
    ap (λ (xs : List ℤ). space_of s.front s.nodes.items s.later.items xs) after
    ∙ added-is c.fronts_follow_the_recurrence.ensures.triangles s.front s.nodes.items s.later.items s.square.items c.add_to.new.square u adds
    ∙ ap (λ (x : Space). added x u) c.self.view_is

pub returns-clause-value : goal.returns-clause-value
returns-clause-value c base d next = returns-clause-exact c ∙ c.fronts_follow_the_recurrence.ensures.assembly.next base d c.args.self.now c.args.update.now next
