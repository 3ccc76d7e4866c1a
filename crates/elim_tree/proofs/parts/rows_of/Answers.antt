use Rattle.std.proofs.Common.{◌≡◌, ◌∷◌, [], ◌++◌, ◌∙◌, ℕ, List, Vec, Global, length, get_or, Contains, ap, sym, subst, arith}
use Rattle.std.proofs.lemmas.List.{map_push}
use Rattle.std.proofs.lemmas.List.Elements.{Contains-get_or}
use Rattle.lists.specs.Lists.{contents, list_of}
use Rattle.lists.proofs.ListsLemmas.{contents-read}
use Rattle.lists.specs.Listed.{listed}
use Rattle.elim_tree.specs.Fronts.{rows_at}
use Rattle.elim_tree.proofs.HeadLemmas.{listed_more}
use Rattle.elim_tree.proofs.parts.rows_of.Goals as goal

pub loop-front-preserved : goal.loop-front-preserved
loop-front-preserved c =
    let vs = c.args.later.now in
    let f = c.loop-front.front in
    let rows = λ (g : ℕ). rows_at (g ∷ list_of (contents vs) g) in
    let is : c.deref.result.now ≡ list_of (contents vs) f = c.deref.ensures.value ∙ sym (contents-read vs f c.index-later-front.result (omega arith) c.index-later-front.is) in
    let value : c.in_ok-rows_with.field-0.items ≡ rows f = c.in_ok-rows_with.ensures ∙ ap (λ (xs : List ℕ). rows_at (f ∷ xs)) is in
    ap (λ (ws : List (Vec ℕ Global)). contents ws) c.in_ok-push.ensures.items
    ∙ map_push (λ (v : Vec ℕ Global). v.items) c.loop-front.rows.items c.in_ok-rows_with.field-0
    ∙ ap (λ (xs : List (List ℕ)). xs ++ c.in_ok-rows_with.field-0.items ∷ []) c.loop-front.invariant
    ∙ ap (λ (x : List ℕ). listed f rows ++ x ∷ []) value
    ∙ sym (listed_more f rows)

pub rows_with-requires-clause-small : goal.rows_with-requires-clause-small
rows_with-requires-clause-small c k d lt =
    let vs = c.args.later.now in
    let f = c.loop-front.front in
    let is : c.deref.result.now ≡ list_of (contents vs) f = c.deref.ensures.value ∙ sym (contents-read vs f c.index-later-front.result (omega arith) c.index-later-front.is) in
    let n = get_or c.deref.result.now k d in
    let P : List ℕ → Type 0 = λ xs. Contains xs n in
    c.requires.small f n (subst P is (Contains-get_or c.deref.result.now k d lt))

pub rows_with-requires-clause-narrow : goal.rows_with-requires-clause-narrow
rows_with-requires-clause-narrow c =
    let vs = c.args.later.now in
    let f = c.loop-front.front in
    let is : c.deref.result.now ≡ list_of (contents vs) f = c.deref.ensures.value ∙ sym (contents-read vs f c.index-later-front.result (omega arith) c.index-later-front.is) in
    omega (arith, c.requires.narrow f, ap (λ (xs : List ℕ). length xs) is)

pub returns : goal.returns
returns c =
    let all : c.loop-front.front ≡ length c.args.later.now = omega arith in
    c.loop-front.invariant ∙ ap (λ (n : ℕ). listed n (λ f. rows_at (f ∷ list_of (contents c.args.later.now) f))) all
