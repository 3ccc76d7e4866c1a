use Rattle.std.proofs.Common.{rules, ◌≡◌, ℕ, [], set, ◌∙◌, ap, sym, List, Vec, Global, ℤ}
use Rattle.std.proofs.lemmas.List.{map-set}
use Rattle.lists.specs.Lists.{contents, list_of}
use Rattle.dense_front.proofs.columns.Columns.take.Goals as goal

pub returns-clause-left : goal.returns-clause-left
returns-clause-left c =
    let items = λ (v : Vec ℤ Global). v.items in
    let columns = c.self.inside.columns.items in
    let column = c.args.column in
    map-set items columns column c.replace.new.dest
    ∙ ap (λ (xs : List ℤ). set (contents columns) column xs) (ap items c.replace.ensures.after ∙ c.new.ensures.items)
    ∙ ap (λ (ls : List (List ℤ)). set ls column []) c.self.view_is
