use Rattle.cholesky_laws.proofs.RecurrenceLemmas.{cholesky-above, cholesky-diagonal, cholesky-below, left_after-none, left_after-next}
use Rattle.cholesky_laws.proofs.BoundLemmas.{cholesky-zero, pivot-le, left_after-low, pivot_after_large, left_after-small, scaled_stiffness-small, squares-nonnegative}
use Rattle.cholesky_laws.proofs.SubtreeLemmas.{squares-children}
use Rattle.cholesky_laws.proofs.PanelLemmas.{panel-entry, panel-pivot}
use Rattle.cholesky_laws.proofs.FillLemmas.{no_fill}
use Rattle.cholesky_laws.proofs.recurrence_keeps_laws.Goals as goal

pub returns : goal.returns
returns c =
    record {
      entries = record { above = cholesky-above; diagonal = cholesky-diagonal; below = cholesky-below; nothing_left = cholesky-zero };
      remainders = record { start = left_after-none; next = left_after-next };
      sizes = record {
        falls = pivot-le;
        diagonal = left_after-low;
        large = pivot_after_large;
        left = left_after-small;
        stiffness = scaled_stiffness-small;
      };
      subtrees = record { nonnegative = squares-nonnegative; children = squares-children };
      fill = λ a later size closed on i k. no_fill a _ size closed on k i;
      panels = record { entries = λ a w m rows f holds r c inside lt. panel-entry holds r c inside lt; pivots = λ a w m rows f holds c lt. panel-pivot holds c lt };
    }
