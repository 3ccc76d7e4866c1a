use Rattle.sif_factors.proofs.PartLemmas.{product_within}
use Rattle.sif_factors.specs.Parts.{in_parts}
use Rattle.sif_factors.proofs.index.times.Goals as goal

pub returns-clause-within : goal.returns-clause-within
returns-clause-within c = λ x y first second. product_within _ x y 40 (c.small_product.ensures.within (in_parts x 40) (in_parts y 40) first second)
