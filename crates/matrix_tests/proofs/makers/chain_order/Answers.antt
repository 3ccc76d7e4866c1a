use Rattle.std.proofs.Common.{arith, ◌≡◌, ◌<◌, ◌+◌, ◌∙◌, ℕ, List, length, slice_index}
use Rattle.std.proofs.lemmas.List.{get_or_default}
use Rattle.lists.specs.Order.{IsOrder}
use Rattle.matrix_tests.proofs.makers.chain_order.Goals as goal

own_order : (order : List ℕ) (nodes : ℕ) → length order ≡ nodes → ((k : ℕ) → k < nodes → slice_index order k ≡ 0 + k) → IsOrder order
own_order order nodes size at =
    record {
      spread = record {
        in_range = λ k h. omega (arith, at k (omega (arith, size)), size);
        apart = λ k l pk pl e. omega (arith, at k (omega (arith, size)), at l (omega (arith, size)), e);
      };
      complete = λ node h. (node, h, get_or_default order node node 0 h ∙ (omega (arith, at node (omega (arith, size)))));
    }

pub returns-clause-order : goal.returns-clause-order
returns-clause-order c =
    own_order c.in_ok-order.order.items c.args.nodes (omega (arith, c.in_ok-order.ensures.0)) (λ k h. c.in_ok-order.ensures.1 k (omega arith))
