-- A generated text isn't too long.
use Rattle.std.proofs.Common.{ℕ, ◌+◌, ◌*◌, ◌^◌, ◌<◌, ◌≤◌, length, length-append, arith}
use Rattle.std.proofs.lemmas.Fmt.{length-decimal-le}
use Rattle.std.proofs.lemmas.List.Concat.{length-flat_map}
use Rattle.std.proofs.lemmas.List.FromFn.{length-map-range_with_len}
use Rattle.std.proofs.lemmas.List.Sums.{sum_by-le}
use Rattle.std.specs.Fmt.{decimal}
use Rattle.lists.specs.Listed.{listed}
use Rattle.text_words.specs.Fields.{line}
use Rattle.model_gen.specs.Text.{generated, rows, words, east, north}
use Rattle.model_gen.specs.declared.rows.Row.{Row}
use Rattle.model_gen.specs.declared.rows.Row.TheVariants.{Node, Straight, Anchor, Support}
use Rattle.model_gen.proofs.Places.{east_below, north_below}
use Rattle.model_gen.proofs.Rules.{all_listed}

digits : (i : ℕ) → i < 10 ^ 10 → length (decimal i) ≤ 10
digits i small = length-decimal-le 10 i (omega arith) small (omega arith)

-- a line has at most 100 bytes
line_short : (row : Row) (i : ℕ) → i ≤ 1600 → length (line (words row i)) ≤ 100
unfolding line
line_short Node i few =
    let a = digits i (omega (arith, few)) in
    let b = digits (east i) (omega (arith, east_below i few)) in
    let c = digits (north i) (omega (arith, north_below i)) in
    simp length-append (omega (arith, a, b, c))
line_short Straight i few =
    let a = digits i (omega (arith, few)) in
    let b = digits (i + 1) (omega (arith, few)) in
    simp length-append (omega (arith, a, b))
line_short Anchor i few =
    let a = digits i (omega (arith, few)) in
    let b = digits (4 * i) (omega (arith, few)) in
    simp length-append (omega (arith, a, b))
line_short Support i few =
    let a = digits i (omega (arith, few)) in
    let b = digits (4 * i + 2) (omega (arith, few)) in
    simp length-append (omega (arith, a, b))

rows_short : (row : Row) (count : ℕ) → count ≤ 1601 → length (rows row count) ≤ count * 100
rows_short row count few =
    let lines = listed count (words row) in
    let each = sum_by-le (λ ws. length (line ws)) 100 lines (all_listed (λ ws. length (line ws) ≤ 100) count (words row) (λ i inside. line_short row i (omega (arith, inside, few)))) in
    omega (arith, each, length-flat_map line lines, length-map-range_with_len (words row) 0 count)

pub is_short : (n : ℕ) → n ≤ 400 → length (generated n) ≤ 4194304
unfolding generated line
is_short n few =
    let nodes = rows_short Node (4 * n + 1) (omega (arith, few)) in
    let straights = rows_short Straight (4 * n) (omega (arith, few)) in
    let anchors = rows_short Anchor (n + 1) (omega (arith, few)) in
    let supports = rows_short Support n (omega (arith, few)) in
    simp length-append (omega (arith, nodes, straights, anchors, supports, few))
