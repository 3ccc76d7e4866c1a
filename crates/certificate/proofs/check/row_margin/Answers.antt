use Rattle.std.proofs.Common.{arith, ap, subst, sym, ◌∙◌, ◌≡◌, ◌<◌, ◌*◌, length, ℕ, List, [], pos}
use Rattle.std.proofs.lemmas.List.{get_or_default}
use Rattle.int_laws.specs.Sums.{sum_below}
use Rattle.sym_blocks.specs.Matrix.{node_count, entry}
use Rattle.lists.specs.Rows.{freedom_at}
use Rattle.lists.specs.Order.{IsOrder, places_of}
use Rattle.certificate.specs.Space.{CheckLists, AreListsOf}
use Rattle.lists.proofs.PlaceLemmas.{length-places, places-order}
use Rattle.certificate.proofs.CheckLemmas.{JudgesRow, lost-refused, margin-judges, row-listed, position-inside}
use Rattle.certificate.specs.Checker.{test_of}
use Rattle.std.specs.Prelude.{Option}
use Rattle.certificate.proofs.check.row_margin.Goals as goal

pub freedom_at-position-requires-clause-numbered : goal.freedom_at-position-requires-clause-numbered
freedom_at-position-requires-clause-numbered c = λ k d inside.
    let f = c.args.g.now in
    let P : CheckLists → Type 0 = λ s. AreListsOf c.args.g.now s in
    let lists = subst P (sym c.space.view_is) c.requires.space in
    let read = c.places.ensures.value ∙ ap places_of lists.order_is in
    let Q : List ℕ → Type 0 = λ xs. IsOrder xs in
    let ordered = subst Q (sym read) (places-order f.order c.requires.factor.order) in
    let same = ap length read ∙ length-places f.order in
    omega (arith, same, get_or_default c.places.result.now k d 0 inside, ordered.spread.in_range k inside, lists.numbered)

pub index-requires : goal.index-requires
index-requires c =
    let P : CheckLists → Type 0 = λ s. AreListsOf c.args.g.now s in
    let lists = subst P (sym c.space.view_is) c.requires.space in
    let position = c.freedom_at-position.ensures ∙ ap (λ (xs : List ℕ). freedom_at xs c.args.row) c.places.ensures.value in
    omega (arith, position-inside c.args.g.now _ c.args.row c.freedom_at-position.result c.requires.factor lists (omega (arith, c.requires.row, c.requires.same_size)) position, c.space.inside.rows.ok)

pub residual_size-requires-clause-places : goal.residual_size-requires-clause-places
residual_size-requires-clause-places c =
    let P : CheckLists → Type 0 = λ s. AreListsOf c.args.g.now s in
    let lists = subst P (sym c.space.view_is) c.requires.space in
    let Q : List ℕ → Type 0 = λ xs. IsOrder xs in
    subst Q (sym (c.places-2.ensures.value ∙ ap places_of lists.order_is)) (places-order c.args.g.now.order c.requires.factor.order)

pub returns-in_err-residual-clause-cases : goal.returns-in_err-residual-clause-cases
returns-in_err-residual-clause-cases c =
    let f = c.args.g.now in
    let P : CheckLists → Type 0 = λ s. AreListsOf c.args.g.now s in
    let lists = subst P (sym c.space.view_is) c.requires.space in
    let inside : c.args.row < 6 * length c.args.g.now.order = omega (arith, c.requires.row, c.requires.same_size) in
    let position = c.freedom_at-position.ensures ∙ ap (λ (xs : List ℕ). freedom_at xs c.args.row) c.places.ensures.value in
    let within = position-inside c.args.g.now _ c.args.row c.freedom_at-position.result c.requires.factor lists inside position in
    let entries = c.as_slice-entries.ensures ∙ c.index.ensures ∙ get_or_default c.space.inside.rows.items c.freedom_at-position.result c.index.result.now [] within in
    let listed = row-listed c.args.g.now _ c.args.row c.freedom_at-position.result c.as_slice-entries.result.now c.requires.factor lists inside position entries in
    let placed = c.places-2.ensures.value ∙ ap places_of lists.order_is in
    let R : Option ℕ → Type 0 = λ r. JudgesRow (test_of c.args.middle.now c.args.radii.now c.args.g.now (pos c.args.shift)) c.args.row r in
    subst R (sym c.from_residual.ensures)
    (lost-refused c.args.middle.now c.args.radii.now c.args.g.now c.args.shift c.places-2.result.now c.as_slice-entries.result.now c.args.row c.requires.factor c.requires.same_size placed listed
    c.requires.not_negative c.requires.shift c.in_err-residual.ensures.cases)

pub returns-clause-cases : goal.returns-clause-cases
returns-clause-cases c =
    let f = c.args.g.now in
    let P : CheckLists → Type 0 = λ s. AreListsOf c.args.g.now s in
    let lists = subst P (sym c.space.view_is) c.requires.space in
    let inside : c.args.row < 6 * length c.args.g.now.order = omega (arith, c.requires.row, c.requires.same_size) in
    let position = c.freedom_at-position.ensures ∙ ap (λ (xs : List ℕ). freedom_at xs c.args.row) c.places.ensures.value in
    let within = position-inside c.args.g.now _ c.args.row c.freedom_at-position.result c.requires.factor lists inside position in
    let entries = c.as_slice-entries.ensures ∙ c.index.ensures ∙ get_or_default c.space.inside.rows.items c.freedom_at-position.result c.index.result.now [] within in
    let listed = row-listed c.args.g.now _ c.args.row c.freedom_at-position.result c.as_slice-entries.result.now c.requires.factor lists inside position entries in
    let placed = c.places-2.ensures.value ∙ ap places_of lists.order_is in
    let radius : pos c.radius_sum.result ≡ sum_below (6 * node_count c.args.middle.now) (λ j. entry c.args.radii.now c.args.row j) =
    c.radius_sum.ensures ∙ ap (λ (n : ℕ). sum_below (6 * n) (λ j. entry c.args.radii.now c.args.row j)) c.requires.same_radii in
    margin-judges c.args.middle.now c.args.radii.now c.args.g.now c.args.shift c.places-2.result.now c.as_slice-entries.result.now c.args.row c.in_ok-residual.residual c.radius_sum.result c.margin.result
    c.requires.factor c.requires.same_size placed listed c.in_ok-residual.ensures.cases radius c.margin.ensures

pub freedom_at-position-requires-clause-inside : goal.freedom_at-position-requires-clause-inside
freedom_at-position-requires-clause-inside c =
    let P : CheckLists → Type 0 = λ s. AreListsOf c.args.g.now s in
    let lists = subst P (sym c.space.view_is) c.requires.space in
    let same = ap length (c.places.ensures.value ∙ ap places_of lists.order_is) ∙ length-places c.args.g.now.order in
    omega (arith, same, c.requires.row, c.requires.same_size)

pub residual_size-requires-clause-nodes : goal.residual_size-requires-clause-nodes
residual_size-requires-clause-nodes c =
    let P : CheckLists → Type 0 = λ s. AreListsOf c.args.g.now s in
    let lists = subst P (sym c.space.view_is) c.requires.space in
    ap length (c.places-2.ensures.value ∙ ap places_of lists.order_is) ∙ length-places c.args.g.now.order ∙ c.requires.same_size
