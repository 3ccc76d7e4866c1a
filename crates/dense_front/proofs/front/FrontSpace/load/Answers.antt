use Rattle.std.proofs.Common.{◌≡◌, ℕ, suc, ◌+◌, ◌*◌, ◌<◌, ◌≤◌, List, ◌∷◌, length, ◌∙◌, ap, ap₂, sym, subst, arith, ℤ, pos, to_z, of_z}
use Rattle.std.specs.Int.{w128}
use Rattle.std.proofs.lemmas.Int.{to_z-of_z}
use Rattle.cholesky_laws.specs.Recurrence.{scaled_stiffness}
use Rattle.std.specs.Vec.{with_items}
use Rattle.std.proofs.lemmas.List.{with_items_is}
use Rattle.sym_blocks.specs.Matrix.{entry}
use Rattle.cholesky_laws.specs.Fronts.{Space, loaded}
use Rattle.dense_front.specs.Square.{at_square}
use Rattle.dense_front.specs.Space.{space_of}
use Rattle.dense_front.specs.Value.{front_with}
use Rattle.dense_front.specs.Tree.{nodes_at}
use Rattle.dense_front.proofs.SpaceLemmas.{loaded-is}
use Rattle.dense_front.proofs.front.FrontSpace.load.Goals as goal

pub returns-clause-exact : goal.returns-clause-exact
returns-clause-exact c =
    let s = c.self.inside in
    let k = c.args.k.now in
    let new = c.load_own.new.square in
    let nodes_are = c.deref.ensures.value in
    let after : (with_items s.square new).items ≡ new = with_items_is s.square new (omega (arith, c.load_own.auto.square, c.deref_mut.ensures.len, s.square.ok.0)) in
    let P : List ℕ → ℤ → Type 0 = λ ns z. (r c : ℕ) → c < 6 → r < 6 * length ns → at_square (6 * length ns) new r c ≡ scaled_stiffness (entry k) ns z r c in
    let own = subst (P s.nodes.items) (to_z-of_z w128 c.args.shift c.ranges.shift) (subst (λ (ns : List ℕ). P ns (to_z w128 (of_z w128 c.args.shift))) nodes_are c.load_own.ensures.own) in
    let Q : List ℕ → Type 0 = λ ns. (r c : ℕ) → 6 ≤ c → r < 6 * length ns → at_square (6 * length ns) new r c ≡ pos 0 in
    let none = subst Q nodes_are c.load_own.ensures.zero in
    ap (λ (xs : List ℤ). space_of s.front s.nodes.items s.later.items xs) after
    ∙ loaded-is c.fronts_follow_the_recurrence.ensures.triangles k c.args.shift s.front s.nodes.items s.later.items new c.self.invariant.nodes_whole own none
    ∙ ap (λ (x : Space). loaded x.front (front_with k c.args.shift x.nodes x.later)) c.self.view_is

pub returns-clause-value : goal.returns-clause-value
returns-clause-value c t of =
    let s = c.args.self.now in
    let nodes_are = of.nodes ∙ ap (λ (ls : List ℕ). nodes_at t.order (s.front ∷ ls)) of.later in
    returns-clause-exact c ∙ ap₂ (λ (ns ls : List ℕ). loaded s.front (front_with c.args.k.now c.args.shift ns ls)) nodes_are of.later
    ∙ c.tree_fronts_are_a_base.ensures.loaded_is t c.args.k.now c.args.shift s.front of.tree c.requires of.front
