use Rattle.std.proofs.Common.{◌≡◌, ◌+◌, ◌-◌, ◌*◌, ◌^◌, ◌<◌, ◌≤◌, ◌∙◌, refl, sym, ap, arith, get_or, length, subst, pos, ◌+ℤ◌, ◌-ℤ◌, neg_ℤ, inl, inr, ℕ, ℤ, List}
use Rattle.std.specs.Int.RustNames.{unsigned_abs}
use Rattle.std.proofs.lemmas.Bool.{cases_lt, cases_eq}
use Rattle.int_laws.proofs.Sums.{int_sums}
use Rattle.dense_front.specs.Square.{RaisesFrom, at_square, row_products}
use Rattle.dense_front.proofs.SquareLemmas.{column-before}
use Rattle.dense_front.proofs.update.take_products.Goals as goal

-- one column more
columns-more : (old cur new entries : List ℤ) (size column : ℕ) → column < size → RaisesFrom cur new (size * column + column) (size - column) (λ t. neg_ℤ (row_products entries (column + t) column)) →
    ((r c : ℕ) → 6 ≤ c → c < column → c ≤ r → r < size → at_square size cur r c ≡ at_square size old r c -ℤ row_products entries r c) →
    ((r c : ℕ) → column ≤ c → r < size → at_square size cur r c ≡ at_square size old r c) →
    ((r c : ℕ) → 6 ≤ c → c < column + 1 → c ≤ r → r < size → at_square size new r c ≡ at_square size old r c -ℤ row_products entries r c)
    × ((r c : ℕ) → column + 1 ≤ c → r < size → at_square size new r c ≡ at_square size old r c)
columns-more old cur new entries size column in' raises done rest = (
  λ r c from lt le rl.
      elim (cases_lt c column) [
        | inl before ↦ raises.others (size * c + r) (inl (omega (arith, column-before size c column r before rl))) ∙ done r c from before le rl
        | inr here ↦
            (let same : column ≡ c = omega arith in
            let P : ℕ → Type 0 = λ c. at_square size new r c ≡ at_square size old r c -ℤ row_products entries r c in
            subst P same (at_column r (omega arith) rl))
      ],
  λ r c from rl. raises.others (size * c + r) (inr (omega (arith, column-before size column c (size - 1) (omega arith) (omega arith)))) ∙ rest r c (omega arith) rl,
)
  where
    minus : (x y : ℤ) → x +ℤ neg_ℤ y ≡ x -ℤ y
    minus x y = omega (arith, int_sums)

    at_column : (r : ℕ) → column ≤ r → r < size → at_square size new r column ≡ at_square size old r column -ℤ row_products entries r column
    at_column r le rl =
        let t = r - column in
        let at : size * column + column + t ≡ size * column + r = omega arith in
        let row : column + t ≡ r = omega arith in
        sym (ap (λ (k : ℕ). get_or new k (pos 0)) at)
        ∙ raises.raised t (omega arith)
        ∙ ap (λ (k : ℕ). get_or cur k (pos 0) +ℤ neg_ℤ (row_products entries (column + t) column)) at
        ∙ ap (λ (k : ℕ). get_or cur (size * column + r) (pos 0) +ℤ neg_ℤ (row_products entries k column)) row
        ∙ ap (λ (z : ℤ). z +ℤ neg_ℤ (row_products entries r column)) (rest r column (omega arith) rl)
        ∙ minus (at_square size old r column) (row_products entries r column)

pub loop-column-init : goal.loop-column-init
loop-column-init c = (refl, λ r k from lt le rl. absurd (omega arith), λ r k from rl. refl)

pub take_column-requires-clause-small : goal.take_column-requires-clause-small
take_column-requires-clause-small c r le rl = rw (c.loop-column.invariant.2 r c.loop-column.column (omega arith) rl) (c.requires.small r c.loop-column.column le rl)

pub loop-column-preserved : goal.loop-column-preserved
loop-column-preserved c =
    let more = columns-more c.args.square.now c.loop-column.square c.take_column.new.square c.args.entries.now c.args.size c.loop-column.column (omega arith) c.take_column.ensures.taken c.loop-column.invariant.1 c.loop-column.invariant.2 in
    (omega (arith, c.take_column.ensures.whole, c.requires.square_whole), more.0, more.1)

pub returns : goal.returns
returns c =
    record {
      whole = c.loop-column.invariant.0 ∙ c.requires.square_whole;
      taken = λ r k from le rl. c.loop-column.invariant.1 r k from (omega arith) le rl;
    }
