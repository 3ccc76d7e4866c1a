use Rattle.lists.specs.Lists.{contents, list_of}
use Rattle.std.proofs.Common.{◌≡◌, ◌/◌, ◌<◌, ℕ, length, get_or, ◌∙◌, sym, ap, arith, to_z, of_z, List, ℤ}
use Rattle.std.specs.Int.{w128}
use Rattle.std.proofs.lemmas.Int.{to_z-of_z}
use Rattle.sym_blocks.specs.Storage.{lower_entry, stored_matrix}
use Rattle.sym_blocks.specs.Matrix.{Matrix, entry, pattern_of}
use Rattle.sym_blocks.proofs.StorageLemmas.{lower-stored_matrix}
use Rattle.sym_blocks.proofs.AddLemmas.{entry_read, rising_least, fits_small}
use Rattle.sym_blocks.proofs.blocks.SymBlocks.lower.Goals as goal

-- the list of a node, as the pattern gives it
list_read : (lists : List (List ℕ)) (triangle : List (List ℤ)) {m : Matrix} {list : List ℕ} {n k : ℕ} → list ≡ pattern_of m n → stored_matrix lists triangle ≡ m → n ≡ k → list ≡ list_of lists k
list_read lists triangle {m} {list} {n} {k} read view node = read ∙ ap (λ (x : Matrix). pattern_of x n) (sym view) ∙ ap (λ (x : ℕ). list_of lists x) node

pub index-requires-in-Some : goal.index-requires-in-Some
index-requires-in-Some c =
    let list_is = list_read (contents c.self.inside.neighbours.items) (contents c.self.inside.triangle.items) c.pattern.ensures.value c.self.view_is c.node_of.ensures in
    let found = rw (list_is, c.node_of-2.ensures) at c.in-Some.ensures in
    omega (arith, rising_least _ c.in-Some.place (c.self.invariant.pattern.rising (c.args.row / 6)) found.0, found.1, c.ranges.col)

pub index-requires-in-Some-2 : goal.index-requires-in-Some-2
index-requires-in-Some-2 c =
    let lists = contents c.self.inside.neighbours.items in
    let list_is = list_read (contents c.self.inside.neighbours.items) (contents c.self.inside.triangle.items) c.pattern.ensures.value c.self.view_is c.node_of.ensures in
    let row_is = c.index.ensures ∙ ap (λ (k : ℕ). get_or c.self.inside.triangle.items k c.index.result.now) c.node_of-in-Some.ensures in
    let e = entry_read {lists = lists} {row = c.args.row} {col = c.args.col} c.self.invariant c.requires (rw (list_is, c.node_of-2.ensures) at c.in-Some.ensures) row_is in
    omega (arith, c.index-in-Some.ensures, e.inside, c.index.result.now.ok.0)

pub returns-in-Some-clause-value : goal.returns-in-Some-clause-value
returns-in-Some-clause-value c =
    let lists = contents c.self.inside.neighbours.items in
    let triangle = contents c.self.inside.triangle.items in
    let list_is = list_read (contents c.self.inside.neighbours.items) (contents c.self.inside.triangle.items) c.pattern.ensures.value c.self.view_is c.node_of.ensures in
    let row_is = c.index.ensures ∙ ap (λ (k : ℕ). get_or c.self.inside.triangle.items k c.index.result.now) c.node_of-in-Some.ensures in
    let e = entry_read {lists = lists} {row = c.args.row} {col = c.args.col} c.self.invariant c.requires (rw (list_is, c.node_of-2.ensures) at c.in-Some.ensures) row_is in
    let old = lower_entry lists triangle c.args.row c.args.col in
    let read = c.index-in-Some-2.ensures ∙ ap (λ (k : ℕ). get_or c.index.result.now.items k c.index-in-Some-2.result.now) c.index-in-Some.ensures ∙ e.value c.index-in-Some-2.result.now in
    ap (λ z. to_z w128 (of_z w128 z)) read
    ∙ to_z-of_z w128 old (fits_small old (c.self.invariant.small c.args.row c.args.col))
    ∙ sym (lower-stored_matrix lists triangle c.args.row c.args.col c.self.invariant c.requires)
    ∙ ap (λ (m : Matrix). entry m c.args.row c.args.col) c.self.view_is
