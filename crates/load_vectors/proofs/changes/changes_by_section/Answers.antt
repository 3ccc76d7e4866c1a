use Rattle.std.proofs.Common.{[], ℕ}
use Rattle.std.proofs.lemmas.List.Elements.{All-push}
use Rattle.load_vectors.specs.Cases.{IsPipeChange, dt_of, pressure_of}
use Rattle.load_vectors.specs.declared.changes.PipeChange.{PipeChange}
use Rattle.load_vectors.proofs.Listing.{listed_onto}
use Rattle.load_vectors.proofs.changes.changes_by_section.Goals as goal

pub loop-section-preserved : goal.loop-section-preserved
loop-section-preserved c =
    let of : ℕ → PipeChange = λ section. record { dt = dt_of c.args.m.now c.args.case.0 section; p = pressure_of c.args.m.now c.args.case.0 section } in
    let own : IsPipeChange c.change_of.result = record { heat = c.change_of.ensures.heat; pressure = c.change_of.ensures.pressure } in
    record {
      value = listed_onto c.loop-section.section of [] _ _ _ c.in_ok-push.ensures.items c.loop-section.invariant.value c.change_of.ensures.value;
      form = rw c.in_ok-push.ensures.items (All-push IsPipeChange c.loop-section.changes.items c.change_of.result c.loop-section.invariant.form own);
    }
