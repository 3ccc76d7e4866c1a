use Rattle.std.proofs.Common.{◌≡◌, ◌+◌, ◌*◌, ◌<◌, ◌≤◌, ◌^◌, subst, arith, get_or, ℤ, pos, to_z, of_z, MatchOption}
use Rattle.std.specs.Int.{w64}
use Rattle.std.specs.Int.RustNames.{unsigned_abs}
use Rattle.std.proofs.lemmas.Int.{ints}
use Rattle.std.proofs.lemmas.List.Elements.{All-take, All-drop}
use Rattle.int_laws.specs.Division.{nearest_of}
use Rattle.dense_front.specs.Square.{at_square, left_in_row}
use Rattle.dense_front.proofs.EntryLemmas.{left_in_row-diagonal, taken_is, pivot_read}
use Rattle.dense_front.proofs.own.next_entry.Goals as goal

pub root-requires : goal.root-requires
root-requires c =
    let left = at_square c.args.size c.args.square.now c.args.row c.args.column in
    let rest = taken_is left c.args.entries.now c.args.row c.args.column c.dot.result (omega (arith, c.requires.entries_whole)) (omega arith) (c.requires.left_small (omega arith)) c.dot.ensures.value c.dot.ensures.small in
    rw rest (left_in_row-diagonal left c.args.entries.now c.args.row c.args.column c.if-row-column-2.true (c.requires.diagonal c.if-row-column-2.true))

pub returns-then-row-column-2-clause-own : goal.returns-then-row-column-2-clause-own
returns-then-row-column-2-clause-own c e =
    let left = at_square c.args.size c.args.square.now c.args.row c.args.column in
    let rest = taken_is left c.args.entries.now c.args.row c.args.column c.dot.result (omega (arith, c.requires.entries_whole)) (omega arith) (c.requires.left_small (omega arith)) c.dot.ensures.value c.dot.ensures.small in
    rw rest at c.root.ensures

pub returns-else-row-column-2-clause-below : goal.returns-else-row-column-2-clause-below
returns-else-row-column-2-clause-below c lt =
    let left = at_square c.args.size c.args.square.now c.args.row c.args.column in
    let rest = taken_is left c.args.entries.now c.args.row c.args.column c.dot.result (omega (arith, c.requires.entries_whole)) (omega arith) (c.requires.left_small (omega arith)) c.dot.ensures.value c.dot.ensures.small in
    let small = c.requires.small (6 * c.args.column + c.args.column) (pos 0) (omega (arith, c.requires.entries_whole, c.requires.row_in)) in
    let pivot = pivot_read c.args.entries.now c.args.column small in
    let P : ℤ → ℤ → Type 0 = λ x y. MatchOption c.quotient.result (2 ^ 57 ≤ unsigned_abs (nearest_of x y)) (λ e. (unsigned_abs e < 2 ^ 57) × (e ≡ nearest_of x y)) in
    subst (λ (y : ℤ). P (left_in_row left c.args.entries.now c.args.row c.args.column) y) pivot
    (subst (λ (x : ℤ). P x (to_z w64 (of_z w64 (get_or c.args.entries.now (7 * c.args.column) (pos 0))))) rest c.quotient.ensures)

pub dot-requires-clause-left_small : goal.dot-requires-clause-left_small
dot-requires-clause-left_small c = All-take (λ (x : ℤ). unsigned_abs x < 2 ^ 57) _ _ (All-drop (λ (x : ℤ). unsigned_abs x < 2 ^ 57) _ c.args.entries.now c.requires.small)

pub dot-requires-clause-right_small : goal.dot-requires-clause-right_small
dot-requires-clause-right_small c = All-take (λ (x : ℤ). unsigned_abs x < 2 ^ 57) _ _ (All-drop (λ (x : ℤ). unsigned_abs x < 2 ^ 57) _ c.args.entries.now c.requires.small)

pub overflow_sub-rest : goal.overflow_sub-rest
overflow_sub-rest c = omega (arith, ints, c.requires.left_small (omega arith), c.dot.ensures.small)
