use Rattle.std.proofs.Common.{slice_index_or, rules, ap, sym, subst, ◌∙◌, ◌≡◌, ◌<◌, get_or, slice_index, to_z-of_z, pos, length, ℤ, ℕ, List, Contains}
use mir.Syntax.{w64}
use mir.Val.{SFits}
use Rattle.factor_data.specs.Columns.{column_rows, column_values}
use Rattle.lists.proofs.PlaceLemmas.{spread-rising}
use Rattle.lists.proofs.PatternLemmas.{sum-listed, sum-unlisted}
use Rattle.factor_data.proofs.Factor.get.Goals as goal

pub returns-in-Some : goal.returns-in-Some
returns-in-Some c =
    let f = c.args.self.now in
    let j = c.args.j in
    let rows = column_rows c.args.self.now c.args.j in
    let kept = c.column.ensures.kept in
    let P : List ℕ → Type 0 = λ xs. (c.in-Some.place < length xs) × (slice_index xs c.in-Some.place ≡ c.args.i) in
    let found = subst P c.column.ensures.rows c.in-Some.ensures in
    let fits : SFits w64 (get_or c.column.result.1.now c.in-Some.place (pos 0)) = search rules in
    let spread = spread-rising rows _ (kept.rising j) (λ i h. kept.in_range i j h) in
    to_z-of_z fits ∙ ap (λ (xs : List ℤ). get_or xs c.in-Some.place (pos 0)) c.column.ensures.values
    ∙ sym (sum-listed rows (λ u. slice_index_or (column_values c.args.self.now c.args.j) u (pos 0)) _ c.in-Some.place c.args.i spread found.0 found.1)

pub returns-in-None : goal.returns-in-None
returns-in-None c =
    let P : List ℕ → Type 0 = λ xs. Contains xs c.args.i → ⊥ in
    sym (sum-unlisted (column_rows c.args.self.now c.args.j) (λ u. slice_index_or (column_values c.args.self.now c.args.j) u (pos 0)) c.args.i (subst P c.column.ensures.rows c.in-None.ensures))
