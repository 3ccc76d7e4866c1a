use Rattle.std.proofs.Common.{◌≡◌, ◌∷◌, [], ◌++◌, ◌∙◌, ℕ, List, Option, length, ap, sym, arith}
use Rattle.std.specs.List.{slice_get}
use Rattle.lists.specs.Lists.{contents, list_of}
use Rattle.lists.proofs.ListsLemmas.{contents-read}
use Rattle.lists.specs.Listed.{listed}
use Rattle.elim_tree.proofs.HeadLemmas.{listed_more}
use Rattle.elim_tree.proofs.parts.parents_of.Goals as goal

pub loop-front-preserved : goal.loop-front-preserved
loop-front-preserved c =
    let vs = c.args.later.now in
    let f = c.loop-front.front in
    let first = λ (g : ℕ). slice_get (list_of (contents vs) g) 0 in
    let is : c.deref.result.now ≡ list_of (contents vs) f = c.deref.ensures.value ∙ sym (contents-read vs f c.index-later-front.result (omega arith) c.index-later-front.is) in
    let value : c.first_of.result ≡ first f = c.first_of.ensures ∙ ap (λ (xs : List ℕ). slice_get xs 0) is in
    c.in_ok-push.ensures.items
    ∙ ap (λ (xs : List (Option ℕ)). xs ++ c.first_of.result ∷ []) c.loop-front.invariant
    ∙ ap (λ (o : Option ℕ). listed f first ++ o ∷ []) value
    ∙ sym (listed_more f first)

pub returns : goal.returns
returns c =
    let all : c.loop-front.front ≡ length c.args.later.now = omega arith in
    c.loop-front.invariant ∙ ap (λ (n : ℕ). listed n (λ f. slice_get (list_of (contents c.args.later.now) f) 0)) all
