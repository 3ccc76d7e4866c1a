use Rattle.lists.specs.Lists.{contents, list_of}
use Rattle.lists.specs.Listed.{listed}
use Rattle.lists.specs.Order.{place_of}
use Rattle.lists.proofs.ListsLemmas.{contents-read, length-contents}
use Rattle.lists.proofs.PlaceLemmas.{length-rising, place_of-inside}
use Rattle.std.proofs.Common.{◌≡◌, ◌∷◌, [], ◌++◌, ◌*◌, ◌<◌, ℕ, suc, ℤ, List, length, replicate, pos, Vec, Global, ap, sym, ◌∙◌, arith}
use Rattle.std.proofs.lemmas.List.{map_push}
use Rattle.std.proofs.lemmas.List.FromFn.{map-range_with_len_more}
use Rattle.sym_blocks.specs.Storage.{zero_row_of, zero_triangle_of}
use Rattle.sym_blocks.proofs.blocks.zero_triangle.Goals as goal

pub loop-node-init : goal.loop-node-init
loop-node-init c = ap (λ (vs : List (Vec ℤ Global)). contents vs) c.in_ok-triangle.ensures.items

pub count_up_to-blocks-requires-clause-rising : goal.count_up_to-blocks-requires-clause-rising
count_up_to-blocks-requires-clause-rising c =
    rw (c.deref.ensures.value, ← contents-read c.args.lists.now c.loop-node.node c.index-lists-node.result (omega (arith, c.loop-node-test.true)) c.index-lists-node.is) (c.requires.pattern.rising c.loop-node.node)

pub count_up_to-blocks-requires-clause-listed : goal.count_up_to-blocks-requires-clause-listed
count_up_to-blocks-requires-clause-listed c =
    rw (c.deref.ensures.value, ← contents-read c.args.lists.now c.loop-node.node c.index-lists-node.result (omega (arith, c.loop-node-test.true)) c.index-lists-node.is)
    (c.requires.pattern.own c.loop-node.node (omega (arith, c.loop-node-test.true, length-contents c.args.lists.now)))

pub overflow_mul-blocks : goal.overflow_mul-blocks
overflow_mul-blocks c =
    let lists = contents c.args.lists.now in
    let node = c.loop-node.node in
    let inside : node < length lists = omega (arith, c.loop-node-test.true, length-contents c.args.lists.now) in
    let list_is = c.deref.ensures.value ∙ sym (contents-read c.args.lists.now node c.index-lists-node.result (omega (arith, c.loop-node-test.true)) c.index-lists-node.is) in
    let most = length-rising (list_of lists node) (length lists) (c.requires.pattern.rising node) (c.requires.pattern.in_range node) in
    let place = place_of-inside (list_of lists node) node (c.requires.pattern.own node inside) in
    rw (c.count_up_to-blocks.ensures, list_is) (omega (arith, most, place, length-contents c.args.lists.now, c.requires.count))

pub loop-node-preserved : goal.loop-node-preserved
loop-node-preserved c =
    let lists = contents c.args.lists.now in
    let node = c.loop-node.node in
    let list_is = c.deref.ensures.value ∙ sym (contents-read c.args.lists.now node c.index-lists-node.result (omega (arith, c.loop-node-test.true)) c.index-lists-node.is) in
    let row_is : c.in_ok-vec.field-0.items ≡ zero_row_of lists node =
    c.in_ok-vec.ensures.items_if_clones_equal (λ _ e. e)
    ∙ ap (λ (n : ℕ). replicate (36 * n) (pos 0)) (c.count_up_to-blocks.ensures ∙ ap (λ (xs : List ℕ). suc (place_of node xs)) list_is)
    in
    ap (λ (vs : List (Vec ℤ Global)). contents vs) c.in_ok-push.ensures.items
    ∙ map_push (λ (v : Vec ℤ Global). v.items) c.loop-node.triangle.items c.in_ok-vec.field-0
    ∙ ap (λ (xs : List (List ℤ)). xs ++ c.in_ok-vec.field-0.items ∷ []) c.loop-node.invariant
    ∙ ap (λ (x : List ℤ). listed node (zero_row_of lists) ++ x ∷ []) row_is
    ∙ sym (map-range_with_len_more (zero_row_of lists) 0 node node (omega arith))

pub returns : goal.returns
returns c =
    let all : c.loop-node.node ≡ length (contents c.args.lists.now) = omega (arith, c.loop-node-test.false, c.loop-node.auto.node-end, length-contents c.args.lists.now) in
    c.loop-node.invariant ∙ ap (λ (n : ℕ). listed n (zero_row_of (contents c.args.lists.now))) all
