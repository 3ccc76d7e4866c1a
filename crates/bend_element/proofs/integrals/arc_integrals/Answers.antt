use Rattle.bend_element.specs.ExactBend.{sine_square, cosine_square}
use Rattle.bend_element.proofs.integrals.arc_integrals.Goals as goal

pub returns-clause-within : goal.returns-clause-within
unfolding sine_square cosine_square
returns-clause-within c = λ x h.
    let product = c.in_ok-product.ensures.within _ _ h.sin h.cos in
    let cosine = c.in_ok-cosine_square.ensures.within _ _ h.a product in
    record {
      sine_square = c.in_ok-sine_square.ensures.within _ _ h.a product;
      cosine_square = cosine;
      spread = c.in_ok-spread.ensures.within x h cosine;
    }
