use Rattle.std.proofs.Common.{rules, arith, ◌≡◌, ◌⊎◌, inl, inr, ℕ, ◌+◌, ◌*◌, ◌/◌, ◌%◌, ◌<◌, ap, sym, ◌∙◌, List, [], ◌∷◌, ◌++◌, length, get_or, length-append, FitsSigned, to_z-of_z, ℤ, pos}
use Rattle.std.specs.Int.{w128}
use Rattle.std.proofs.Math.Seq.{get_or-append_seam}
use Rattle.std.proofs.lemmas.List.{get_or_append_left}
use Rattle.factor.specs.State.{shifted_matrix}
use Rattle.factor.proofs.scatter.scatter.Goals as goal

-- one number more, at the end
pushed : (xs ys : List ℤ) (x : ℤ) (n : ℕ) (f : ℕ → ℤ) → length xs ≡ n → ys ≡ xs ++ x ∷ [] → x ≡ f n → ((s : ℕ) → s < n → get_or xs s (pos 0) ≡ f s) →
    (length ys ≡ n + 1) × ((s : ℕ) → s < n + 1 → get_or ys s (pos 0) ≡ f s)
pushed xs ys x n f count is value before =
    rw is (
      omega (arith, length-append xs (x ∷ []), count),
      λ s below.
          let side : (s < n) ⊎ (s ≡ n) = search arith in
          elim side [
            | inl less ↦ get_or_append_left xs (x ∷ []) (pos 0) s (omega (arith, count)) ∙ before s less
            | inr last ↦ ap (λ (k : ℕ). get_or (xs ++ x ∷ []) k (pos 0)) (last ∙ sym count) ∙ get_or-append_seam xs x [] (pos 0) ∙ value ∙ ap f (sym last)
          ],
    )

pub scaled_entry-requires-clause-i_in : goal.scaled_entry-requires-clause-i_in
scaled_entry-requires-clause-i_in c = omega (arith, c.requires.nodes_in (c.loop-s.s / 36) 0 (omega arith))

pub overflow_add-row : goal.overflow_add-row
overflow_add-row c = omega (arith, c.requires.nodes_in (c.loop-s.s / 36) 0 (omega arith), c.requires.problem.few)

pub loop-s-preserved : goal.loop-s-preserved
loop-s-preserved c =
    let p = c.args.problem.now in
    let fits : FitsSigned w128 c.scaled_entry.result = search rules in
    pushed c.loop-s.work.items c.push.new.self.items _ c.loop-s.s
    (λ s. shifted_matrix p.matrix.now p.order.now p.shift (6 * get_or c.args.nodes.now (s / 36) 0 + s % 36 / 6) (6 * c.args.node + s % 6))
    c.loop-s.invariant.0 c.in_ok-push.ensures.items (to_z-of_z fits ∙ c.scaled_entry.ensures) c.loop-s.invariant.1

pub returns : goal.returns
returns c = record { whole = omega (arith, c.loop-s.invariant.0); value = λ s below. c.loop-s.invariant.1 s (omega arith) }
