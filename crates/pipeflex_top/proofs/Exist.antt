-- An accepted text has a report.
use Rattle.std.proofs.Common.{ℕ, ◌≡◌, ◌<◌, zero, suc, List, ◌⊎◌, inl, inr, refl, arith}
use Rattle.flex_io.specs.declared.Status.TheVariants.{Done, Uncertified}
use Rattle.pipeflex_top.specs.Analysis.{ReportExists, analysis_of, report_by, uncertified_count}

-- no case is without a certificate, or one is
none_or_some : (n : ℕ) → (n ≡ 0) ⊎ (0 < n)
none_or_some zero = inl refl
none_or_some (suc n) = inr (omega arith)

pub some_report : ReportExists
some_report text m t accepted =
    let output : List ℕ = report_by m t in
    elim (none_or_some (uncertified_count (analysis_of m t))) [
      | inl none ↦ (output, Done, record { tree = t; tree_is = accepted.tree; written = refl; ends = none })
      | inr some ↦ (output, Uncertified, record { tree = t; tree_is = accepted.tree; written = refl; ends = some })
    ]
