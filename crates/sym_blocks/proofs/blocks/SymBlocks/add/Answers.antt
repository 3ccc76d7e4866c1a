use Rattle.lists.specs.Lists.{contents, list_of}
use Rattle.std.proofs.Common.{◌≡◌, ◌/◌, ◌+ℤ◌, ◌^◌, ◌<◌, ◌≤◌, ℕ, ℤ, List, Contains, sym, ap, ◌∙◌, subst, arith, Vec, Global, to_z, of_z}
use Rattle.std.specs.Int.{w128}
use Rattle.std.specs.Int.RustNames.{unsigned_abs}
use Rattle.std.specs.Vec.{with_items}
use Rattle.std.proofs.lemmas.List.{with_items_is}
use Rattle.std.proofs.lemmas.Int.{to_z-of_z}
use Rattle.sym_blocks.specs.Matrix.{Matrix, entry, pattern_of, AddsAt, IsSymmetricByBlocks}
use Rattle.sym_blocks.specs.Storage.{lower_entry, stored_matrix, IsStorage, AddsToLower}
use Rattle.sym_blocks.proofs.StorageLemmas.{lower-stored_matrix, entry-stored_matrix, stored_symmetric, IsSymmetricByBlocks-stored_matrix}
use Rattle.sym_blocks.proofs.AddLemmas.{AddsAt-below, AddsAt-mirror}
use Rattle.sym_blocks.proofs.blocks.SymBlocks.add.Goals as goal

-- the sum below the diagonal that the matrix shows
below : (lists : List (List ℕ)) (triangle : List (List ℤ)) (m : Matrix) (row col : ℕ) (v : ℤ) → IsStorage lists triangle → stored_matrix lists triangle ≡ m → col ≤ row → unsigned_abs (entry m row col +ℤ v) < 2 ^ 126 → unsigned_abs (lower_entry lists triangle row col +ℤ v) < 2 ^ 126
below lists triangle m row col v ok view le small =
    let P : Matrix → Type 0 = λ x. unsigned_abs (entry x row col +ℤ v) < 2 ^ 126 in
    let Q : ℤ → Type 0 = λ z. unsigned_abs (z +ℤ v) < 2 ^ 126 in
    subst Q (lower-stored_matrix lists triangle row col ok le) (subst P (sym view) small)

-- the mirror of an entry
mirror : (lists : List (List ℕ)) (triangle : List (List ℤ)) (m : Matrix) (row col : ℕ) → IsStorage lists triangle → stored_matrix lists triangle ≡ m → entry m row col ≡ entry m col row
mirror lists triangle m row col ok view =
    let P : Matrix → Type 0 = λ x. entry x row col ≡ entry x col row in
    subst P view (entry-stored_matrix lists triangle ok row col ∙ stored_symmetric lists triangle row col ∙ sym (entry-stored_matrix lists triangle ok col row))

pub add_lower-requires-clause-listed : goal.add_lower-requires-clause-listed
add_lower-requires-clause-listed c =
    let P : Matrix → Type 0 = λ m. Contains (pattern_of m (c.args.row / 6)) (c.args.col / 6) in
    rw c.deref.ensures.value (c.self.invariant.pattern.converse (c.args.row / 6) (c.args.col / 6) (subst P (sym c.self.view_is) c.requires.in_pattern))

pub add_lower-requires-clause-small : goal.add_lower-requires-clause-small
add_lower-requires-clause-small c =
    let s = c.self.inside in
    let same = mirror (contents s.neighbours.items) (contents s.triangle.items) c.args.self.now c.args.row c.args.col c.self.invariant c.self.view_is in
    rw (c.deref.ensures.value, c.deref_mut.ensures.value, to_z-of_z w128 c.args.v c.ranges.v)
    (below (contents s.neighbours.items) (contents s.triangle.items) c.args.self.now c.args.col c.args.row c.args.v c.self.invariant c.self.view_is (omega (arith, c.if-row-col.true)) (rw same at c.requires.small))

pub add_lower-requires-else-row-col-clause-storage : goal.add_lower-requires-else-row-col-clause-storage
add_lower-requires-else-row-col-clause-storage c = rw (c.deref-else-row-col.ensures.value, c.deref_mut-else-row-col.ensures.value) c.self.invariant

pub add_lower-requires-else-row-col-clause-small : goal.add_lower-requires-else-row-col-clause-small
add_lower-requires-else-row-col-clause-small c =
    let s = c.self.inside in
    rw (c.deref-else-row-col.ensures.value, c.deref_mut-else-row-col.ensures.value, to_z-of_z w128 c.args.v c.ranges.v)
    (below (contents s.neighbours.items) (contents s.triangle.items) c.args.self.now c.args.row c.args.col c.args.v c.self.invariant c.self.view_is (omega (arith, c.if-row-col.false)) c.requires.small)

-- the rows after the call
rows_after : (c : goal.After-self-1) → (with_items c.self.inside.triangle c.add_lower.new.triangle).items ≡ c.add_lower.new.triangle
rows_after c = with_items_is c.self.inside.triangle c.add_lower.new.triangle (omega (arith, c.add_lower.auto.triangle, c.deref_mut.ensures.len, c.self.inside.triangle.ok.0))

rows_after-else : (c : goal.After-self-else-row-col-1) → (with_items c.self.inside.triangle c.add_lower-else-row-col.new.triangle).items ≡ c.add_lower-else-row-col.new.triangle
rows_after-else c = with_items_is c.self.inside.triangle c.add_lower-else-row-col.new.triangle (omega (arith, c.add_lower-else-row-col.auto.triangle, c.deref_mut-else-row-col.ensures.len, c.self.inside.triangle.ok.0))

pub returns-then-row-col-clause-added : goal.returns-then-row-col-clause-added
returns-then-row-col-clause-added c =
    let s = c.self.inside in
    let added = rw (c.deref.ensures.value, c.deref_mut.ensures.value, to_z-of_z w128 c.args.v c.ranges.v) at c.add_lower.ensures.added in
    let storage = rw c.deref.ensures.value at c.add_lower.ensures.storage in
    let P : Matrix → Type 0 = λ m. AddsAt m (stored_matrix (contents s.neighbours.items) (contents (with_items s.triangle c.add_lower.new.triangle).items)) c.args.row c.args.col c.args.v in
    subst P c.self.view_is (rw (rows_after c) (AddsAt-mirror _ _ _ c.args.row c.args.col c.args.v (AddsAt-below _ _ _ c.args.col c.args.row c.args.v c.self.invariant storage (omega (arith, c.if-row-col.true)) added)))

pub returns-then-row-col-clause-kept : goal.returns-then-row-col-clause-kept
returns-then-row-col-clause-kept c = rw (rows_after c) (IsSymmetricByBlocks-stored_matrix _ _ (rw c.deref.ensures.value at c.add_lower.ensures.storage))

pub returns-else-row-col-clause-added : goal.returns-else-row-col-clause-added
returns-else-row-col-clause-added c =
    let s = c.self.inside in
    let added = rw (c.deref-else-row-col.ensures.value, c.deref_mut-else-row-col.ensures.value, to_z-of_z w128 c.args.v c.ranges.v) at c.add_lower-else-row-col.ensures.added in
    let storage = rw c.deref-else-row-col.ensures.value at c.add_lower-else-row-col.ensures.storage in
    let P : Matrix → Type 0 = λ m. AddsAt m (stored_matrix (contents s.neighbours.items) (contents (with_items s.triangle c.add_lower-else-row-col.new.triangle).items)) c.args.row c.args.col c.args.v in
    subst P c.self.view_is (rw (rows_after-else c) (AddsAt-below _ _ _ c.args.row c.args.col c.args.v c.self.invariant storage (omega (arith, c.if-row-col.false)) added))

pub returns-else-row-col-clause-kept : goal.returns-else-row-col-clause-kept
returns-else-row-col-clause-kept c = rw (rows_after-else c) (IsSymmetricByBlocks-stored_matrix _ _ (rw c.deref-else-row-col.ensures.value at c.add_lower-else-row-col.ensures.storage))
