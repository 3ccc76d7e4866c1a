use Rattle.std.proofs.Common.{◌≡◌, ℕ, ◌<◌, ◌≤◌, List, length, get_or, ◌++◌, Option, Some, None, Bool, Bor, arith, sym, ap, ◌∙◌, to_z, of_z}
use Rattle.std.specs.Prelude.{is_some, nat_lt, slice_get, unwrap_or}
use Rattle.std.specs.Option.{option_copied}
use Rattle.std.proofs.lemmas.Bool.Decides.{nat_tests}
use Rattle.std.proofs.lemmas.Option.{slice_get-get_or, slice_get_past}
use Rattle.std.proofs.Transfers.{starts_with_of_append, starts_with_trans}
use Rattle.std.proofs.lemmas.Result.{err_from_is_err_and}
use Rattle.std.specs.Int.{w128}
use Rattle.report.specs.Report.{bounds_at, pair, state_words}
use Rattle.report.specs.Rows.{told_pair}
use Rattle.report.proofs.LineLemmas.{still_starts}
use Rattle.report.proofs.RowLemmas.{pair_more}
use Rattle.report.proofs.rows.push_pairs.Goals as goal

-- what a look-up reads
read_is : (states : List Bool) (f : ℕ) (r : Option (Bor Bool)) → is_some r ≡ nat_lt f (length states) → ((d : Bool) → unwrap_or (option_copied r) d ≡ get_or states f d) →
    option_copied r ≡ slice_get states f
read_is states f None some each =
    let past : length states ≤ f = grind (arith, nat_tests) in
    sym (slice_get_past states f past)
read_is states f (Some x) some each =
    let inside : f < length states = grind (arith, nat_tests) in
    sym (slice_get-get_or states f x.now inside ∙ ap (λ (closed : Bool). Some closed) (sym (each x.now)))

pub returns-in_err-push_pair-clause-kept : goal.returns-in_err-push_pair-clause-kept
returns-in_err-push_pair-clause-kept c =
    let p = err_from_is_err_and c.from_residual-in_err-push_pair.result c.from_residual-in_err-push_pair.ensures.1 in
    let old = c.args.out.now.items in
    let so_far = starts_with_of_append c.loop-f.out.items old _ c.loop-f.invariant.written in
    let mid = still_starts old c.loop-f.out.items c.push_state.new.out.items _ c.in_ok-push_state.ensures.written so_far in
    rw p.1 (starts_with_trans c.push_pair.new.out.items c.push_state.new.out.items old c.in_err-push_pair.ensures.kept mid)

pub loop-f-preserved : goal.loop-f-preserved
loop-f-preserved c =
    let n = to_z w128 (of_z w128 c.args.n) in
    let m = to_z w128 (of_z w128 c.args.m) in
    let read = read_is c.args.states.now c.loop-f.f c.get.result c.get.ensures.lookup.0 (λ d. c.get.ensures.lookup.4 (omega arith) d) in
    record {
      inside = omega (arith, c.loop-f-test.true);
      written = pair_more c.args.out.now.items c.loop-f.out.items c.push_state.new.out.items c.push_pair.new.out.items (told_pair n m c.args.states.now c.args.bounds.now) c.loop-f.f
          (state_words c.copied.result) (pair n m (bounds_at c.args.bounds.now c.loop-f.f)) c.loop-f.invariant.written c.in_ok-push_state.ensures.written c.in_ok-push_pair.ensures.written
          (ap (λ (s : Option Bool). state_words s ++ pair n m (bounds_at c.args.bounds.now c.loop-f.f)) (c.copied.ensures ∙ read));
    }
