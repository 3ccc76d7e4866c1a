use Rattle.std.proofs.Common.{◌≡◌, ◌∷◌, ◌*◌, ◌+◌, ◌%◌, [], ◌++◌, ◌∙◌, ℕ, List, length, ap, sym, arith}
use Rattle.lists.specs.Listed.{listed}
use Rattle.lists.specs.Rows.{freedom_at}
use Rattle.elim_tree.proofs.HeadLemmas.{listed_more}
use Rattle.elim_tree.proofs.parts.rows_with.Goals as goal

pub loop-row-preserved : goal.loop-row-preserved
loop-row-preserved c =
    let places = c.args.place ∷ c.args.later.now in
    let row = c.loop-row.row in
    let value : 6 * c.place_at.result + row % 6 ≡ freedom_at places row = ap (λ (p : ℕ). 6 * p + row % 6) c.place_at.ensures in
    c.in_ok-push.ensures.items
    ∙ ap (λ (xs : List ℕ). xs ++ (6 * c.place_at.result + row % 6) ∷ []) c.loop-row.invariant
    ∙ ap (λ (x : ℕ). listed row (freedom_at places) ++ x ∷ []) value
    ∙ sym (listed_more row (freedom_at places))

pub returns : goal.returns
returns c =
    let places = c.args.place ∷ c.args.later.now in
    let all : c.loop-row.row ≡ 6 * length places = omega arith in
    c.loop-row.invariant ∙ ap (λ (n : ℕ). listed n (freedom_at places)) all
