use Rattle.std.proofs.Common.{◌≡◌, ◌∙◌, sym, pos, Ok, subst}
use Rattle.flex_interval.specs.Ends.{Ends}
use Rattle.flex_interval.specs.Operations.{point_of, products_of}
use Rattle.flex_interval.proofs.ProductLemmas.{zero-products, products-zero}
use Rattle.flex_interval.proofs.product.products.Goals.{then-is_zero, else-is_zero}
use Rattle.flex_interval.proofs.product.products.Goals as goal

pub returns-then-is_zero-2 : goal.returns-then-is_zero-2
returns-then-is_zero-2 c =
    let a = c.args.a in
    let b = c.args.b in
    let zero = point_of (pos 0) in
    let value : products_of a b ≡ Ok zero = elim c.if-is_zero.branch [
      | then-is_zero w ↦ subst (λ (x : Ends). products_of x b ≡ Ok zero) (sym (c.is_zero.ensures.0 w.if-is_zero.true)) (zero-products b)
      | else-is_zero w ↦ subst (λ (x : Ends). products_of a x ≡ Ok zero) (sym (w.is_zero-else-is_zero.ensures.0 (sym w.value-is ∙ c.if-is_zero-2.true))) (products-zero a)
    ] in
    record { value = rw c.point.ensures.value (sym value) }
