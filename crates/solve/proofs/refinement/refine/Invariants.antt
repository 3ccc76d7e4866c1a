use Rattle.member_set.specs.Members.{IsModerate, system}
use Rattle.solve.specs.Refinement.{problem, LeadTo}
use Rattle.factor_data.specs.Columns.{factor_entry}
use Rattle.solve.proofs.refinement.refine.Given as goal

abbrev pub invariant-loop-turn : goal.invariant-loop-turn
invariant-loop-turn l =
    record {
      lead : LeadTo (problem (system l.b l.laws l.loads) l.closed l.f.order (factor_entry l.f)) l._turn l.u;
      moderate : IsModerate l.u;
    }
