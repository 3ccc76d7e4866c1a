use Rattle.std.proofs.Common.{◌≡◌, ℕ, ◌≤◌, ◌^◌, subst, add-one, arith, ℤ, pos}
use Rattle.std.specs.Prelude.{unsigned_abs}
use Rattle.std.proofs.lemmas.Result.{err_from_is_err_and}
use Rattle.std.proofs.lemmas.List.Elements.{All-replicate}
use Rattle.member_set.specs.Members.{row_count, system}
use Rattle.solve.specs.Refinement.{problem, LeadTo}
use Rattle.factor_data.specs.Columns.{factor_entry}
use Rattle.solve.proofs.refinement.refine.Goals as goal

pub loop-turn-init : goal.loop-turn-init
loop-turn-init c =
    record {
      lead = c.requires.at_rest;
      moderate = rw c.requires.at_rest (All-replicate (λ (z : ℤ). unsigned_abs z ≤ 2 ^ 60) (row_count c.args.b.now) (pos 0) (omega arith));
    }

pub loop-turn-preserved : goal.loop-turn-preserved
loop-turn-preserved c =
    record {
      lead = rw (add-one c.loop-turn._turn) (c.loop-turn.u, c.loop-turn.invariant.lead, c.in_ok-turn.ensures.turned);
      moderate = c.in_ok-turn.ensures.turned.moderate;
    }

pub returns-in_err-turn : goal.returns-in_err-turn
returns-in_err-turn c =
    let p = err_from_is_err_and c.from_residual.result c.from_residual.ensures.1 in
    rw p.1 (record {
      candidate = tt;
      wide = record {
        turns = c.loop-turn._turn;
        u = c.loop-turn.u;
        before = c.loop-turn-test.true;
        reached = c.loop-turn.invariant.lead;
        breaks = c.in_err-turn.ensures.breaks;
      };
    })

pub returns-clause-candidate : goal.returns-clause-candidate
returns-clause-candidate c =
    let done : c.loop-turn._turn ≡ 8 = omega arith in
    subst (λ (n : ℕ). LeadTo (problem (system c.args.b.now c.args.laws.now c.args.loads.now) c.args.closed.now c.args.f.now.order (factor_entry c.args.f.now)) n c.loop-turn.u) done c.loop-turn.invariant.lead
