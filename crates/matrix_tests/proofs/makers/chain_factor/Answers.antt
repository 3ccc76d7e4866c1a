use Rattle.std.proofs.Common.{arith, ap, subst, sym, ◌∙◌, ◌≡◌, ◌<◌, ◌≤◌, ◌+◌, ◌*◌, ℕ, ℤ, length, List, [], slice_index, slice_index_or, Contains, inl, inr}
use Rattle.std.proofs.lemmas.Bool.{cases_lt}
use Rattle.std.proofs.lemmas.Grind.{common_steps}
use Rattle.std.proofs.lemmas.List.{get_or_past, get_or_default}
use Rattle.lists.specs.Rising.{IsRising}
use Rattle.lists.specs.Order.{IsOrder}
use Rattle.factor_data.specs.Columns.{columns_of, IsFactor}
use Rattle.lists.specs.Lists.{contents}
use Rattle.matrix_tests.proofs.makers.chain_factor.Goals as goal

counted-rising : (rows : List ℕ) (from : ℕ) → ((s : ℕ) → s < length rows → slice_index rows s ≡ from + s) → IsRising rows
counted-rising rows from at i j d less inside =
    omega (arith, at i (omega arith), at j inside, get_or_default rows i d 0 (omega arith), get_or_default rows j d 0 inside)

chain : (order : List ℕ) (rows : List (List ℕ)) (values : List (List ℤ)) (nodes : ℕ) → IsOrder order → length order ≡ nodes → length rows ≡ 6 * nodes → length values ≡ 6 * nodes →
    ((k : ℕ) → k < 6 * nodes → length (slice_index_or values k []) ≡ length (slice_index_or rows k [])) →
    ((k : ℕ) → k < 6 * nodes → k + length (slice_index_or rows k []) ≤ 6 * nodes) →
    ((k : ℕ) → k < 6 * nodes → (s : ℕ) → s < length (slice_index_or rows k []) → slice_index (slice_index_or rows k []) s ≡ k + s) →
    IsFactor (columns_of order rows values)
chain order rows values nodes ordered size rows_size values_size aligned below at =
    let past : (k : ℕ) → 6 * nodes ≤ k → slice_index_or rows k [] ≡ [] = λ k h. get_or_past rows k [] (omega (arith, rows_size)) in
    let past_values : (k : ℕ) → 6 * nodes ≤ k → slice_index_or values k [] ≡ [] = λ k h. get_or_past values k [] (omega (arith, values_size)) in
    record {
      order = ordered;
      columns = omega (arith, rows_size, size);
      same = omega (arith, values_size, size);
      aligned = λ j. elim (cases_lt j (6 * nodes)) [ inl lt ↦ aligned j lt | inr ge ↦ ap length (past_values j ge) ∙ sym (ap length (past j ge)) ];
      rising = λ j. elim (cases_lt j (6 * nodes)) [
        | inl lt ↦ counted-rising (slice_index_or rows j []) j (at j lt)
        | inr ge ↦ let P : List ℕ → Type 0 = λ xs. IsRising xs in subst P (sym (past j ge)) (λ i k d less inside. absurd (omega arith))
      ];
      lower = λ i j listed. elim (cases_lt j (6 * nodes)) [
        | inl lt ↦ omega (arith, at j lt listed.0 listed.1, get_or_default (slice_index_or rows j []) listed.0 i 0 listed.1, listed.2)
        | inr ge ↦ let P : List ℕ → Type 0 = λ xs. Contains xs i in let none = subst P (past j ge) listed in absurd (omega (arith, none.1))
      ];
      in_range = λ i j listed. elim (cases_lt j (6 * nodes)) [
        | inl lt ↦ omega (arith, size, below j lt, at j lt listed.0 listed.1, get_or_default (slice_index_or rows j []) listed.0 i 0 listed.1, listed.2)
        | inr ge ↦ let P : List ℕ → Type 0 = λ xs. Contains xs i in let none = subst P (past j ge) listed in absurd (omega (arith, none.1))
      ];
    }

pub of_lists-requires : goal.of_lists-requires
of_lists-requires c =
    let nodes = c.args.nodes in
    let done = c.loop-position.invariant in
    let all : c.loop-position.position ≡ 6 * c.args.nodes = omega (arith, c.loop-position.auto.position-end) in
    let size : length c.in_ok-order.order.items ≡ c.args.nodes = omega (arith, c.in_ok-order.ensures.count) in
    let ordered = c.in_ok-order.ensures.order in
    rw (c.deref.ensures.value, c.deref-2.ensures.value, c.deref-3.ensures.value)
    (chain c.in_ok-order.order.items (contents c.loop-position.rows.items) (contents c.loop-position.values.items) c.args.nodes ordered size (done.rows_length ∙ all) (done.values_length ∙ all)
    (λ k h. done.aligned k (omega (arith, all))) (λ k h. done.below k (omega (arith, all))) (λ k h. done.rows k (omega (arith, all))))

pub loop-position-preserved : goal.loop-position-preserved
loop-position-preserved c =
    record {
      rows_length = grind (arith, common_steps);
      values_length = grind (arith, common_steps);
      aligned = λ k h. grind (arith, common_steps, c.loop-position.invariant.aligned k);
      below = λ k h. grind (arith, common_steps, c.loop-position.invariant.below k);
      rows = λ k h s i. grind (arith, common_steps, c.loop-position.invariant.rows k, c.in_ok-counted.ensures.1 s);
    }
