use Rattle.bend_element.proofs.flexibility.flexibilities.Goals as goal

pub returns-clause-within : goal.returns-clause-within
returns-clause-within c = λ x h.
    let i = c.in_ok-integrals.ensures.within x h in
    record { plane = c.in_ok-plane.ensures.within x h i; across = c.in_ok-across.ensures.within x h i }
