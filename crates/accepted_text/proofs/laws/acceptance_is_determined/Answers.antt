use Rattle.accepted_text.proofs.AcceptLemmas.{same_tree, one_model_and_tree, one_refusal, never_accepted_and_refused}
use Rattle.accepted_text.proofs.laws.acceptance_is_determined.Goals as goal

pub returns-clause-one_tree : goal.returns-clause-one_tree
returns-clause-one_tree c = same_tree c.orders_are_determined.ensures.one_order c.trees_are_determined.ensures.one_tree

pub returns-clause-one_model : goal.returns-clause-one_model
returns-clause-one_model c = one_model_and_tree c.orders_are_determined.ensures.one_order c.trees_are_determined.ensures.one_tree

pub returns-clause-one_refusal : goal.returns-clause-one_refusal
returns-clause-one_refusal c =
    let orders = c.orders_are_determined.ensures in
    one_refusal orders.one_order orders.one_broad orders.never_both c.lines_are_determined.ensures.one

pub returns-clause-never_both : goal.returns-clause-never_both
returns-clause-never_both c =
    let orders = c.orders_are_determined.ensures in
    never_accepted_and_refused orders.one_order orders.one_broad orders.never_both c.trees_are_determined.ensures.never_too_many
