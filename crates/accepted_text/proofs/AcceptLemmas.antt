-- A text is accepted with one model and one tree, or refused by one number at one line, and never both.
use Rattle.std.proofs.Common.{◌≡◌, ℕ, List, length, Ok, Err, subst, refl, sym, ap}
use Rattle.elim_order.specs.Determined.{LinkAlike, OneOrder, OneBroadNode, NeverBoth}
use Rattle.elim_order.specs.Order.{IsFirstBroad}
use Rattle.elim_tree.specs.Fronts.{Fronts}
use Rattle.elim_tree.specs.Laws.{OneTree, NeverTooMany}
use Rattle.elim_tree.specs.Tree.{placed, IsTreeOf, HasManyEntries}
use Rattle.model_text.specs.Grammar.{Refusal, parsed, IsLineOf, LinesAreDetermined}
use Rattle.model_types.specs.Kinds.{node_kind}
use Rattle.model_types.specs.Lists.{Lists}
use Rattle.accepted_text.specs.Accepted.{joined_nodes, model_graph, IsModelOrder, IsModelTree, by_grammar, too_broad, too_many, OneModelTree, OneModelAndTree, OneRefusal, NeverAcceptedAndRefused}

-- a text is that of one model, or is refused
one_model : (text : List ℕ) (m n : Lists) → parsed text ≡ Ok m → parsed text ≡ Ok n → m ≡ n
one_model text m n a b = cc (a, b)

not_both : (text : List ℕ) (m : Lists) (refusal : Refusal) → parsed text ≡ Ok m → parsed text ≡ Err refusal → ⊥
not_both text m refusal a b = cc (a, b)

one_refusal_of : (text : List ℕ) (a b : Refusal) → parsed text ≡ Err a → parsed text ≡ Err b → a ≡ b
one_refusal_of text a b is also = cc (is, also)

-- a model's pairs link what they link
alike : (m : Lists) → LinkAlike (joined_nodes m) (joined_nodes m)
alike m n k = (λ l. l, λ l. l)

module _ (one_order : OneOrder) where
  same_order : (m n : Lists) (a b : List ℕ) → m ≡ n → IsModelOrder m a → IsModelOrder n b → a ≡ b
  same_order m n a b same x y = one_order (length m.nodes) (joined_nodes m) (joined_nodes m) a b (alike m) x (subst (λ l. IsModelOrder l b) (sym same) y)

  module _ (one_tree : OneTree) where
    pub same_tree : OneModelTree
    same_tree m t u a b =
        let same = same_order m m t.order u.order refl a.order b.order in
        one_tree (joined_nodes m) (joined_nodes m) t.order t u (alike m) a.tree (subst (λ o. IsTreeOf (placed (model_graph m) o) o u) (sym same) b.tree)

    pub one_model_and_tree : OneModelAndTree
    one_model_and_tree text m n t u a b =
        let same = one_model text m n a.text_is b.text_is in
        (same, same_tree m t u a.tree (subst (λ l. IsModelTree l u) (sym same) b.tree))

  module _ (one_broad : OneBroadNode) (never_both : NeverBoth) where
    -- a model has an order, or a node that is too broad
    broad_or_order : (m n : Lists) (node : ℕ) (order : List ℕ) → m ≡ n → IsFirstBroad (length m.nodes) (model_graph m) node → IsModelOrder n order → ⊥
    broad_or_order m n node order same broad is =
        never_both (length m.nodes) (joined_nodes m) (joined_nodes m) order node (alike m) (subst (λ l. IsModelOrder l order) (sym same) is) broad

    module _ (one_line : LinesAreDetermined) where
      same_line : (text : List ℕ) (m n : Lists) (node other line at : ℕ) → m ≡ n → IsFirstBroad (length m.nodes) (model_graph m) node → IsFirstBroad (length n.nodes) (model_graph n) other
          → IsLineOf text node_kind node line → IsLineOf text node_kind other at → line ≡ at
      same_line text m n node other line at same a b here there =
          let node_is = one_broad (length m.nodes) (joined_nodes m) (joined_nodes m) node other (alike m) a (subst (λ l. IsFirstBroad (length l.nodes) (model_graph l) other) (sym same) b) in
          one_line text node_kind node line at here (subst (λ k. IsLineOf text node_kind k at) (sym node_is) there)

      pub one_refusal : OneRefusal
      one_refusal text _ _ _ _ (by_grammar number line a) (by_grammar other at b) =
          let same = one_refusal_of text (record { number = number; line = line }) (record { number = other; line = at }) a b in
          (ap (λ r. r.number) same, ap (λ r. r.line) same)
      one_refusal text _ _ _ _ (by_grammar number line a) (too_broad n other at b broad there) = absurd (not_both text n _ b a)
      one_refusal text _ _ _ _ (by_grammar number line a) (too_many n order b is many) = absurd (not_both text n _ b a)
      one_refusal text _ _ _ _ (too_broad m node line a broad here) (by_grammar other at b) = absurd (not_both text m _ a b)
      one_refusal text _ _ _ _ (too_broad m node line a broad here) (too_broad n other at b also there) =
          (refl, same_line text m n node other line at (one_model text m n a b) broad also here there)
      one_refusal text _ _ _ _ (too_broad m node line a broad here) (too_many n order b is many) = absurd (broad_or_order m n node order (one_model text m n a b) broad is)
      one_refusal text _ _ _ _ (too_many m order a is many) (by_grammar other at b) = absurd (not_both text m _ a b)
      one_refusal text _ _ _ _ (too_many m order a is many) (too_broad n other at b broad there) = absurd (broad_or_order n m other order (one_model text n m b a) broad is)
      one_refusal text _ _ _ _ (too_many m order a is many) (too_many n other b also more) = (refl, refl)

    module _ (never_too_many : NeverTooMany) where
      many_or_tree : (m n : Lists) (t : Fronts) (order : List ℕ) → m ≡ n → IsModelTree m t → IsModelOrder n order → HasManyEntries (placed (model_graph n) order) (length order) → ⊥
      many_or_tree m n t order same tree is many =
          let order_is = same_order m n t.order order same tree.order is in
          let back = subst (λ l. HasManyEntries (placed (model_graph l) order) (length order)) (sym same) many in
          never_too_many (joined_nodes m) (joined_nodes m) t.order t (alike m) tree.tree (subst (λ o. HasManyEntries (placed (model_graph m) o) (length o)) (sym order_is) back)

      pub never_accepted_and_refused : NeverAcceptedAndRefused
      never_accepted_and_refused text m t _ _ accepted (by_grammar number line e) = not_both text m _ accepted.text_is e
      never_accepted_and_refused text m t _ _ accepted (too_broad n node line e broad here) =
          broad_or_order n m node t.order (one_model text n m e accepted.text_is) broad accepted.tree.order
      never_accepted_and_refused text m t _ _ accepted (too_many n order e is many) =
          many_or_tree m n t order (one_model text m n accepted.text_is e) accepted.tree is many
