use Rattle.std.proofs.Common.{◌≡◌, ◌+◌, ◌∷◌, get_or, filter, drop, sym, ap, ◌∙◌}
use Rattle.std.proofs.lemmas.List.{take_rest}
use Rattle.model_types.specs.Tees.{is_beside}
use Rattle.model_types.proofs.TeeLemmas.{filter_none, filter_found}
use Rattle.model_types.proofs.tees.next_beside.Goals as goal

pub returns-in-None : goal.returns-in-None
returns-in-None c = filter_none (is_beside c.args.node c.args.name.now) c.args.elements.now c.in-None.ensures

pub returns-in-Some : goal.returns-in-Some
returns-in-Some c =
    let p = is_beside c.args.node c.args.name.now in
    let elements = c.args.elements.now in
    let found = c.index-elements-at.result in
    let at = c.in-Some.at in
    let here : get_or elements at found ≡ found = sym c.index-elements-at.is in
    rw (take_rest elements (at + 1)) (filter_found p elements at found c.in-Some.ensures ∙ ap (λ e. e ∷ filter p (drop (at + 1) elements)) here)
