use Rattle.std.proofs.Common.{◌≡◌, suc, ◌-◌, ◌<◌, ◌≤◌, length, get_or, ◌∙◌, arith}
use Rattle.std.proofs.lemmas.List.{length-set}
use Rattle.model_types.specs.Rules.{Keeps}
use Rattle.model_types.specs.declared.records.Record.TheVariants as record_of
use Rattle.model_types.specs.declared.records.Tee.{Tee}
use Rattle.model_types.specs.declared.records.TeeKind.TheVariants.{Unreinforced}
use Rattle.structure.proofs.TeeLemmas.{one_more, one_more_holds}
use Rattle.structure.proofs.tees.tee_normals.Goals as goal

abbrev no_tee : Tee
no_tee = record { node = record { 0 = 0 }; branch = record { 0 = 0 }; header = record { 0 = 0 }; kind = Unreinforced }

pub loop-number-preserved : goal.loop-number-preserved
loop-number-preserved c =
    let m = c.args.m.now in
    let tees = c.tees-tees.result.now in
    let n = c.loop-number.number in
    let same : tees ≡ m.tees = c.tees-tees.ensures.records in
    let next : suc (n - 1) ≡ n = omega (arith, c.loop-number-test.true) in
    let most : n ≤ length m.tees = rw (← same) c.loop-number.auto.number in
    let inside : n - 1 < length m.tees = omega (arith, next, most) in
    let t = get_or tees (n - 1) no_tee in
    let keeps : Keeps m (record_of.Tee t) = rw same (c.tees-tees.ensures.model.kept.tees (n - 1) no_tee inside) in
    record {
      count = length-set _ _ _ ∙ c.loop-number.invariant.count;
      each = one_more m c.loop-number.normals.items tees (n - 1) n no_tee c.tee_normal.result same next inside c.tee_normal.ensures.value (rw c.loop-number.invariant.count keeps.known.0) c.loop-number.invariant.each;
      holds = one_more_holds m tees (n - 1) n no_tee same next (record { vector = c.tee_normal.result; found = c.tee_normal.ensures.value; holds = c.tee_normal.ensures.holds }) c.loop-number.invariant.holds;
    }

pub returns-clause-value : goal.returns-clause-value
returns-clause-value c =
    let done : c.loop-number.number ≡ 0 = omega (arith, c.loop-number-test.false) in
    record { count = c.loop-number.invariant.count; each = rw done at c.loop-number.invariant.each }
