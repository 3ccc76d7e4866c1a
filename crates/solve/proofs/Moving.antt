-- Adding unknowns, by positions, to displacements, by rows.
use Rattle.std.specs.Prelude.{slice_set}
use Rattle.std.proofs.Common.{◌≡◌, ◌≢◌, ℕ, ◌+◌, ◌*◌, ◌<◌, ◌≤◌, ◌⊎◌, inl, inr, List, length, sym, ◌∙◌, ap, arith, ℤ, pos, ◌+ℤ◌, get_or-set_same, get_or-set_other}
use Rattle.lists.specs.Rows.{freedom_at}
use Rattle.lists.specs.Order.{IsOrder}
use Rattle.lists.proofs.RowLemmas.{column-apart}
use Rattle.solve.specs.Substitution.{at}

-- the unknowns before j are added, and no other
pub record IsMoving (order : List ℕ) (old z new : List ℤ) (j : ℕ) : Type 0 where
  pub moved : (k : ℕ) → k < j → at new (freedom_at order k) ≡ at old (freedom_at order k) +ℤ at z k
  pub rest : (k : ℕ) → j ≤ k → k < length z → at new (freedom_at order k) ≡ at old (freedom_at order k)

pub move-step : (order : List ℕ) (old z new : List ℤ) (j row : ℕ) (v : ℤ) → IsOrder order → length z ≡ 6 * length order → j < length z →
    row ≡ freedom_at order j → row < length new → v ≡ at new row +ℤ at z j → IsMoving order old z new j →
    IsMoving order old z (slice_set new row v) (j + 1)
move-step order old z new j row v ordered size inside is in_list sum before =
    record {
      moved = λ k below. elim (same_or_less k below) [
        | inl here ↦
            let was = before.rest j (omega arith) inside in
            ap (λ (m : ℕ). at (slice_set new row v) (freedom_at order m)) here
            ∙ ap (λ (m : ℕ). at (slice_set new row v) m) (sym is)
            ∙ get_or-set_same new row v (pos 0) in_list ∙ sum
            ∙ ap (λ (x : ℤ). x +ℤ at z j) (ap (λ (m : ℕ). at new m) is ∙ was)
            ∙ ap (λ (m : ℕ). at old (freedom_at order m) +ℤ at z m) (sym here)
        | inr less ↦ other k (λ e. absurd (omega arith)) (omega arith) ∙ before.moved k less
      ];
      rest = λ k after below. other k (λ e. absurd (omega arith)) below ∙ before.rest k (omega arith) below;
    }
  where
    same_or_less : (k : ℕ) → k < j + 1 → (k ≡ j) ⊎ (k < j)
    same_or_less k h = search arith

    other : (k : ℕ) → k ≢ j → k < length z → at (slice_set new row v) (freedom_at order k) ≡ at new (freedom_at order k)
    other k apart below =
        let rows_apart : freedom_at order k ≢ row =
        λ e. apart (column-apart order (length order) k j ordered.spread (omega (arith, size)) (omega (arith, size)) (e ∙ is)) in
        rw get_or-set_other
