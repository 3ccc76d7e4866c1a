use Rattle.lists.specs.Lists.{contents, list_of}
use Rattle.std.proofs.Common.{◌/◌, ◌+ℤ◌, get_or, sym, ap, ◌∙◌, arith, ℕ, ℤ, List, Vec, Global}
use Rattle.std.specs.Int.{w128}
use Rattle.std.proofs.lemmas.Int.{to_z-of_z}
use Rattle.sym_blocks.specs.Storage.{lower_entry}
use Rattle.sym_blocks.proofs.StorageLemmas.{IsStorage-written}
use Rattle.sym_blocks.proofs.AddLemmas.{list_at, entry_read, rising_least, fits_small, sum_is, AddsToLower-written}
use Rattle.sym_blocks.proofs.blocks.add_lower.Goals as goal

pub find_rising-requires : goal.find_rising-requires
find_rising-requires c =
    let list_is = list_at c.args.lists.now c.node_of.result (c.args.row / 6) c.index-lists-node_of.result (c.args.col / 6) c.node_of.ensures c.requires.listed c.index-lists-node_of.is in
    rw (c.deref.ensures.value, list_is) (c.requires.storage.pattern.rising (c.args.row / 6))

pub index-requires : goal.index-requires
index-requires c =
    let list_is = list_at c.args.lists.now c.node_of.result (c.args.row / 6) c.index-lists-node_of.result (c.args.col / 6) c.node_of.ensures c.requires.listed c.index-lists-node_of.is in
    let found = rw (c.deref.ensures.value, list_is, c.node_of-2.ensures) at c.in-Some.ensures in
    omega (arith, rising_least _ c.in-Some.place (c.requires.storage.pattern.rising (c.args.row / 6)) found.0, found.1, c.ranges.col)

pub index_mut-requires : goal.index_mut-requires
index_mut-requires c =
    let list_is = list_at c.args.lists.now c.node_of.result (c.args.row / 6) c.index-lists-node_of.result (c.args.col / 6) c.node_of.ensures c.requires.listed c.index-lists-node_of.is in
    let row_is = c.index-triangle-node_of.is ∙ ap (λ (k : ℕ). get_or c.args.triangle.now k c.index-triangle-node_of.result) c.node_of-in-Some.ensures in
    let e = entry_read {row = c.args.row} {col = c.args.col} c.requires.storage c.requires.lower (rw (c.deref.ensures.value, list_is, c.node_of-2.ensures) at c.in-Some.ensures) row_is in
    rw (← c.index-triangle-node_of.is) (omega (arith, c.index.ensures, e.inside, c.index-triangle-node_of.result.ok.0))

pub overflow_add-index_mut : goal.overflow_add-index_mut
overflow_add-index_mut c =
    let list_is = list_at c.args.lists.now c.node_of.result (c.args.row / 6) c.index-lists-node_of.result (c.args.col / 6) c.node_of.ensures c.requires.listed c.index-lists-node_of.is in
    let row_is = c.index-triangle-node_of.is ∙ ap (λ (k : ℕ). get_or c.args.triangle.now k c.index-triangle-node_of.result) c.node_of-in-Some.ensures in
    let e = entry_read {row = c.args.row} {col = c.args.col} c.requires.storage c.requires.lower (rw (c.deref.ensures.value, list_is, c.node_of-2.ensures) at c.in-Some.ensures) row_is in
    let read = (rw (← c.index-triangle-node_of.is, c.index.ensures) at c.index_mut.ensures.value) ∙ e.value c.index_mut.result.now in
    let old = lower_entry (contents c.args.lists.now) (contents c.args.triangle.now) c.args.row c.args.col in
    rw (read, to_z-of_z w128 old (fits_small old (c.requires.storage.small c.args.row c.args.col)), to_z-of_z w128 c.args.v c.ranges.v)
    (fits_small (old +ℤ c.args.v) c.requires.small)

pub returns-in-Some-clause-storage : goal.returns-in-Some-clause-storage
returns-in-Some-clause-storage c =
    let list_is = list_at c.args.lists.now c.node_of.result (c.args.row / 6) c.index-lists-node_of.result (c.args.col / 6) c.node_of.ensures c.requires.listed c.index-lists-node_of.is in
    let row_is = c.index-triangle-node_of.is ∙ ap (λ (k : ℕ). get_or c.args.triangle.now k c.index-triangle-node_of.result) c.node_of-in-Some.ensures in
    let e = entry_read {row = c.args.row} {col = c.args.col} c.requires.storage c.requires.lower (rw (c.deref.ensures.value, list_is, c.node_of-2.ensures) at c.in-Some.ensures) row_is in
    let read = (rw (← c.index-triangle-node_of.is, c.index.ensures) at c.index_mut.ensures.value) ∙ e.value c.index_mut.result.now in
    rw (← c.index-triangle-node_of.is, c.node_of-in-Some.ensures, c.index.ensures, e.after _, sum_is _ _ c.args.v read (c.requires.storage.small c.args.row c.args.col) c.ranges.v c.requires.small)
    (IsStorage-written (contents c.args.lists.now) (contents c.args.triangle.now) c.args.row c.args.col c.in-Some.place _ c.requires.storage e.target c.requires.small)

pub returns-in-Some-clause-added : goal.returns-in-Some-clause-added
returns-in-Some-clause-added c =
    let list_is = list_at c.args.lists.now c.node_of.result (c.args.row / 6) c.index-lists-node_of.result (c.args.col / 6) c.node_of.ensures c.requires.listed c.index-lists-node_of.is in
    let row_is = c.index-triangle-node_of.is ∙ ap (λ (k : ℕ). get_or c.args.triangle.now k c.index-triangle-node_of.result) c.node_of-in-Some.ensures in
    let e = entry_read {row = c.args.row} {col = c.args.col} c.requires.storage c.requires.lower (rw (c.deref.ensures.value, list_is, c.node_of-2.ensures) at c.in-Some.ensures) row_is in
    let read = (rw (← c.index-triangle-node_of.is, c.index.ensures) at c.index_mut.ensures.value) ∙ e.value c.index_mut.result.now in
    rw (← c.index-triangle-node_of.is, c.node_of-in-Some.ensures, c.index.ensures, e.after _, sum_is _ _ c.args.v read (c.requires.storage.small c.args.row c.args.col) c.ranges.v c.requires.small)
    (AddsToLower-written (contents c.args.lists.now) (contents c.args.triangle.now) c.args.row c.args.col c.in-Some.place c.args.v c.requires.storage e.target)

pub returns-in_default : goal.returns-in_default
returns-in_default c =
    let list_is = list_at c.args.lists.now c.node_of.result (c.args.row / 6) c.index-lists-node_of.result (c.args.col / 6) c.node_of.ensures c.requires.listed c.index-lists-node_of.is in
    absurd ((rw (c.deref.ensures.value, list_is, c.node_of-2.ensures) at c.in_default.ensures) c.requires.listed)
