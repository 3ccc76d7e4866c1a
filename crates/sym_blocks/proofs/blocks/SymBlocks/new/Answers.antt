use Rattle.lists.proofs.ListsLemmas.{length-contents}
use Rattle.lists.specs.Lists.{contents, LinksLists}
use Rattle.std.proofs.Common.{◌≡◌, ◌∙◌, ap, sym, arith, length}
use Rattle.std.specs.Vec.{with_items}
use Rattle.std.proofs.lemmas.List.{with_items_is}
use Rattle.sym_blocks.specs.Storage.{own_lists_of, zero_triangle_of}
use Rattle.sym_blocks.proofs.StorageLemmas.{IsSymmetricByBlocks-stored_matrix}
use Rattle.sym_blocks.proofs.NewLemmas.{length-own_lists_of, IsPattern-linked, IsStorage-zero, IsRising-own, entry-zero, members_linked}
use Rattle.sym_blocks.proofs.blocks.SymBlocks.new.Goals as goal

pub link_pairs-requires-clause-in_range : goal.link_pairs-requires-clause-in_range
link_pairs-requires-clause-in_range c =
    let count : length c.deref_mut.result.now ≡ c.args.nodes =
    ap length c.deref_mut.ensures.value ∙ sym (length-contents c.in_ok-neighbours.neighbours.items) ∙ ap length c.in_ok-neighbours.ensures ∙ length-own_lists_of c.args.nodes
    in
    rw count c.requires

pub link_pairs-requires-clause-rising : goal.link_pairs-requires-clause-rising
link_pairs-requires-clause-rising c n = rw (c.deref_mut.ensures.value, c.in_ok-neighbours.ensures) (IsRising-own c.args.nodes n)

pub zero_triangle-requires-clause-count : goal.zero_triangle-requires-clause-count
zero_triangle-requires-clause-count c =
    let lists = with_items_is c.in_ok-neighbours.neighbours c.link_pairs.new.lists (omega (arith, c.link_pairs.auto.lists, c.deref_mut.ensures.len, c.in_ok-neighbours.neighbours.ok.0)) in
    let links : LinksLists (own_lists_of c.args.nodes) (contents c.link_pairs.new.lists) c.args.pairs.now = rw (c.deref_mut.ensures.value, c.in_ok-neighbours.ensures) at c.in_ok-link_pairs.ensures in
    rw (c.deref.ensures.value, lists) (omega (arith, length-contents c.link_pairs.new.lists, links.count, length-own_lists_of c.args.nodes, c.ranges.nodes))

pub zero_triangle-requires-clause-pattern : goal.zero_triangle-requires-clause-pattern
zero_triangle-requires-clause-pattern c =
    let lists = with_items_is c.in_ok-neighbours.neighbours c.link_pairs.new.lists (omega (arith, c.link_pairs.auto.lists, c.deref_mut.ensures.len, c.in_ok-neighbours.neighbours.ok.0)) in
    let links : LinksLists (own_lists_of c.args.nodes) (contents c.link_pairs.new.lists) c.args.pairs.now = rw (c.deref_mut.ensures.value, c.in_ok-neighbours.ensures) at c.in_ok-link_pairs.ensures in
    rw (c.deref.ensures.value, lists) (IsPattern-linked c.args.nodes _ c.args.pairs.now c.requires links)

-- the lists and rows that were made
record IsMade (c : goal.In_ok-triangle) : Type 0 where
  lists : (with_items c.in_ok-neighbours.neighbours c.link_pairs.new.lists).items ≡ c.link_pairs.new.lists
  links : LinksLists (own_lists_of c.args.nodes) (contents c.link_pairs.new.lists) c.args.pairs.now
  rows : contents c.in_ok-triangle.triangle.items ≡ zero_triangle_of (contents c.link_pairs.new.lists)

made : (c : goal.In_ok-triangle) → IsMade c
made c =
    let lists = with_items_is c.in_ok-neighbours.neighbours c.link_pairs.new.lists (omega (arith, c.link_pairs.auto.lists, c.deref_mut.ensures.len, c.in_ok-neighbours.neighbours.ok.0)) in
    record {
      lists = lists;
      links = rw (c.deref_mut.ensures.value, c.in_ok-neighbours.ensures) at c.in_ok-link_pairs.ensures;
      rows = c.in_ok-triangle.ensures ∙ ap (λ ls. zero_triangle_of (contents ls)) (c.deref.ensures.value ∙ lists);
    }

pub invariant_of-result : goal.invariant_of-result
invariant_of-result c =
    let m = made c in
    rw (m.lists, m.rows) (IsStorage-zero _ (IsPattern-linked c.args.nodes _ c.args.pairs.now c.requires m.links))

pub returns-clause-nodes : goal.returns-clause-nodes
returns-clause-nodes c =
    let m = made c in
    ap (λ ls. length (contents ls)) m.lists ∙ m.links.count ∙ length-own_lists_of c.args.nodes

pub returns-clause-pattern : goal.returns-clause-pattern
returns-clause-pattern c n k =
    let m = made c in
    rw m.lists (members_linked c.args.nodes (contents c.link_pairs.new.lists) c.args.pairs.now m.links n k)

pub returns-clause-zero : goal.returns-clause-zero
returns-clause-zero c i j =
    let m = made c in
    rw (m.lists, m.rows) (entry-zero (contents c.link_pairs.new.lists) (IsPattern-linked c.args.nodes _ c.args.pairs.now c.requires m.links) i j)

pub returns-clause-kept : goal.returns-clause-kept
returns-clause-kept c =
    let m = made c in
    rw (m.lists, m.rows) (IsSymmetricByBlocks-stored_matrix _ _ (IsStorage-zero _ (IsPattern-linked c.args.nodes _ c.args.pairs.now c.requires m.links)))
