use Rattle.cholesky_laws.proofs.TriangleLemmas.{lower-same, lower-entry, lower-past, lower-past_columns}
use Rattle.cholesky_laws.proofs.FrontLemmas.{loaded-is, skipped-is, added-is}
use Rattle.cholesky_laws.proofs.EliminatedLemmas.{eliminated-is}
use Rattle.cholesky_laws.proofs.FrontLawLemmas.{before-small, update-small, entries-small, diagonals-low, child-places, space-rising, child-rising}
use Rattle.cholesky_laws.proofs.fronts_follow_the_recurrence.Goals as goal

pub returns : goal.returns
returns c =
    record {
      assembly = record { loaded_is = λ base f b fl. loaded-is base b f fl; others = skipped-is; next = added-is; value = eliminated-is };
      triangles = record { inside = lower-entry; past_rows = lower-past; past_columns = lower-past_columns; same = lower-same };
      sizes = record { before = before-small; update = update-small; entries = entries-small; diagonal = diagonals-low };
      shapes = record { child = child-places; rising = space-rising; child_rising = child-rising };
    }
