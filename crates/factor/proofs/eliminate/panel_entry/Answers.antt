use Rattle.std.proofs.Common.{◌≡◌, ◌+◌, ◌*◌, ◌<◌, ◌≤◌, ◌^◌, subst, arith, get_or, ℤ, pos, to_z, of_z, MatchOption}
use Rattle.std.specs.Int.{w64}
use Rattle.std.specs.Int.RustNames.{unsigned_abs}
use Rattle.std.proofs.lemmas.Int.{ints}
use Rattle.std.proofs.lemmas.List.Elements.{All-take, All-drop}
use Rattle.int_laws.specs.Division.{nearest_of}
use Rattle.factor.specs.Panel.{left_in_row}
use Rattle.factor.proofs.EntryLemmas.{left_in_row-diagonal, taken_is, pivot_read}
use Rattle.factor.proofs.eliminate.panel_entry.Goals as goal

pub root-requires : goal.root-requires
root-requires c =
    let rest = taken_is c.args.left c.args.entries.now c.args.row c.args.column c.dot.result c.requires.next c.requires.left_small c.dot.ensures.value c.dot.ensures.small in
    rw rest (left_in_row-diagonal c.args.left c.args.entries.now c.args.row c.args.column c.if-row-column-2.true (c.requires.diagonal c.if-row-column-2.true))

pub returns-then-row-column-2-clause-own : goal.returns-then-row-column-2-clause-own
returns-then-row-column-2-clause-own c e =
    let rest = taken_is c.args.left c.args.entries.now c.args.row c.args.column c.dot.result c.requires.next c.requires.left_small c.dot.ensures.value c.dot.ensures.small in
    rw rest at c.root.ensures

pub returns-else-row-column-2-clause-below : goal.returns-else-row-column-2-clause-below
returns-else-row-column-2-clause-below c lt =
    let rest = taken_is c.args.left c.args.entries.now c.args.row c.args.column c.dot.result c.requires.next c.requires.left_small c.dot.ensures.value c.dot.ensures.small in
    let small = c.requires.small (6 * c.args.column + c.args.column) (pos 0) (omega (arith, c.requires.next)) in
    let pivot = pivot_read c.args.entries.now c.args.column small in
    let P : ℤ → ℤ → Type 0 = λ x y. MatchOption c.quotient.result (2 ^ 57 ≤ unsigned_abs (nearest_of x y)) (λ e. (unsigned_abs e < 2 ^ 57) × (e ≡ nearest_of x y)) in
    subst (λ (y : ℤ). P (left_in_row c.args.left c.args.entries.now c.args.row c.args.column) y) pivot
    (subst (λ (x : ℤ). P x (to_z w64 (of_z w64 (get_or c.args.entries.now (7 * c.args.column) (pos 0))))) rest c.quotient.ensures)

pub dot-requires-clause-left_small : goal.dot-requires-clause-left_small
dot-requires-clause-left_small c = All-take (λ (x : ℤ). unsigned_abs x < 2 ^ 57) _ _ (All-drop (λ (x : ℤ). unsigned_abs x < 2 ^ 57) _ c.args.entries.now c.requires.small)

pub dot-requires-clause-right_small : goal.dot-requires-clause-right_small
dot-requires-clause-right_small c = All-take (λ (x : ℤ). unsigned_abs x < 2 ^ 57) _ _ (All-drop (λ (x : ℤ). unsigned_abs x < 2 ^ 57) _ c.args.entries.now c.requires.small)

pub overflow_sub-rest : goal.overflow_sub-rest
overflow_sub-rest c = omega (arith, ints, c.requires.left_small, c.dot.ensures.small)
