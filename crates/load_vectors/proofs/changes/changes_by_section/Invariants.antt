use Rattle.std.proofs.Common.{◌≡◌, All}
use Rattle.lists.specs.Listed.{listed}
use Rattle.load_vectors.specs.Cases.{IsPipeChange, dt_of, pressure_of}
use Rattle.load_vectors.proofs.changes.changes_by_section.Given as goal

abbrev pub invariant-loop-section : goal.invariant-loop-section
invariant-loop-section l = record {
  value : l.changes.items ≡ listed l.section (λ section. record { dt = dt_of l.m l.case.0 section; p = pressure_of l.m l.case.0 section });
  form : All IsPipeChange l.changes.items;
}
