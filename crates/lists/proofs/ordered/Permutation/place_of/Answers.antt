use Rattle.std.proofs.Common.{ℕ, ◌<◌, List, length, ap, ◌∙◌, sym, subst, arith}
use Rattle.lists.specs.Order.{place_of}
use Rattle.lists.proofs.PlaceLemmas.{length-places, place-read}
use Rattle.lists.proofs.ordered.Permutation.place_of.Goals as goal

pub index-requires : goal.index-requires
index-requires c =
    let view = ap (λ (xs : List ℕ). length xs) c.self.view_is in
    let inverse = ap (λ (xs : List ℕ). length xs) c.self.invariant.inverse in
    omega (arith, c.requires, view, inverse, length-places c.self.inside.numbers.items)

pub returns : goal.returns
returns c =
    let P : List ℕ → Type 0 = λ xs. c.args.number < length xs in
    let inside = subst P (sym c.self.view_is) c.requires in
    c.index.ensures ∙ place-read c.self.inside.numbers.items c.self.inside.places.items c.args.number c.index.result.now c.self.invariant inside
    ∙ ap (place_of c.args.number) c.self.view_is
