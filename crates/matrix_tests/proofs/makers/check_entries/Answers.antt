use Rattle.std.proofs.Common.{arith, subst, sym, ℕ, ℤ, pos, negsuc, ◌≡◌, ◌<◌, ◌/◌, ◌^◌, ◌≤ℤ◌, unsigned_abs, inl, inr}
use Rattle.std.proofs.lemmas.Bool.{cases_eq, cases_lt}
use Rattle.std.proofs.lemmas.Int.{ints}
use Rattle.sym_blocks.specs.Matrix.{HasBlock, entry}
use Rattle.matrix_tests.specs.Entries.{IsEntry}
use Rattle.matrix_tests.proofs.makers.check_entries.Goals as goal

-- a number that is 0 where it isn't tested
small : (Inside : Type 0) (z : ℤ) → (Inside → unsigned_abs z < 2 ^ 60) → ((Inside → ⊥) → z ≡ pos 0) → unsigned_abs z < 2 ^ 60
small Inside z within outside =
    elim (cases_lt (unsigned_abs z) (2 ^ 60)) [
      | inl below ↦ below
      | inr above ↦ let zero = outside (λ a. let size = within a in omega (arith, above, size)) in omega (arith, ints, zero)
    ]

not_below : (Inside : Type 0) (z : ℤ) → (Inside → pos 0 ≤ℤ z) → ((Inside → ⊥) → z ≡ pos 0) → pos 0 ≤ℤ z
not_below Inside (pos n) within outside = omega (arith, ints)
not_below Inside (negsuc n) within outside = let zero = outside (λ a. let sign = within a in omega (arith, ints, sign)) in absurd (omega (arith, ints, zero))

pub loop-row-preserved : goal.loop-row-preserved
loop-row-preserved g c = λ i j below.
    elim (cases_eq i c.loop-row.row) [
      | inl e ↦
          (let P : ℕ → Type 0 = λ n. HasBlock c.args.matrix.now (n / 6) (j / 6) → IsEntry c.args.signed (entry c.args.matrix.now n j) in
          subst P (sym e) (c.check_row.ensures j))
      | inr apart ↦ c.loop-row.invariant i j (omega (arith, apart))
    ]

pub returns : goal.returns
returns g c = λ i j.
    let kept = c.pattern-nodes.ensures.kept in
    let inside : HasBlock c.args.matrix.now (i / 6) (j / 6) → IsEntry c.args.signed (entry c.args.matrix.now i j) = λ block.
    let in_range = kept.in_range (j / 6) (i / 6) (kept.converse (i / 6) (j / 6) block) in
    c.loop-row.invariant i j (omega (arith, in_range, c.requires.nodes, c.loop-row-test.false)) block in
    record {
      size = small (HasBlock c.args.matrix.now (i / 6) (j / 6)) (entry c.args.matrix.now i j) (λ block. (inside block).size) (kept.outside i j);
      sign = λ unsigned. not_below (HasBlock c.args.matrix.now (i / 6) (j / 6)) (entry c.args.matrix.now i j) (λ block. (inside block).sign unsigned) (kept.outside i j);
    }
