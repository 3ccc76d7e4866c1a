use Rattle.std.proofs.Common.{◌≡◌, ◌∙◌, ℕ, List, length, ap, arith}
use Rattle.lists.proofs.ListsLemmas.{contents-read}
use Rattle.elim_tree.specs.Fronts.{front_entries}
use Rattle.elim_tree.proofs.PartLemmas.{entries_more}
use Rattle.elim_tree.proofs.parts.entries_in.Goals as goal

pub overflow_cast-len : goal.overflow_cast-len
overflow_cast-len c =
    let is = contents-read c.args.later.now c.loop-places.places-index c.places-item.result (omega arith) c.places-item.is in
    omega (arith, c.len.ensures, c.places-item.result.ok.0, c.requires.narrow c.loop-places.places-index, ap (λ (xs : List ℕ). length xs) is)

pub entries_with-entries-requires : goal.entries_with-entries-requires
entries_with-entries-requires c =
    let is = contents-read c.args.later.now c.loop-places.places-index c.places-item.result (omega arith) c.places-item.is in
    omega (arith, c.len.ensures, c.places-item.result.ok.0, c.requires.narrow c.loop-places.places-index, ap (λ (xs : List ℕ). length xs) is)

pub loop-places-preserved : goal.loop-places-preserved
loop-places-preserved c =
    let vs = c.args.later.now in
    let i = c.loop-places.places-index in
    let more = entries_more vs i c.places-item.result (omega arith) c.places-item.is in
    let long : c.len.result ≡ length c.places-item.result.items = c.len.ensures ∙ c.places-item.result.ok.0 in
    record {
      value = omega (arith, more, c.loop-places.invariant.value, c.entries_with-entries.ensures.value, ap front_entries long);
      small = omega (arith, c.loop-places.invariant.small, c.entries_with-entries.ensures.small);
    }
