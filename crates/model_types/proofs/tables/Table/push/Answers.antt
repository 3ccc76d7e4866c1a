use Rattle.std.proofs.Common.{rules, ◌≡◌, length, map, position, nat_eq, Some, None, ap, subst, ◌∙◌}
use Rattle.std.specs.BTreeMap.{Updates}
use Rattle.std.specs.Cmp.Lexicographic.{pointwise, slice_cmp}
use Rattle.std.specs.Ordering.{nat_cmp}
use Rattle.model_types.proofs.NumberingLemmas.{IsNumbering-records}
use Rattle.model_types.proofs.tables.Table.push.Goals as goal

pub invariant_of-self-in-Ok : goal.invariant_of-self-in-Ok
invariant_of-self-in-Ok g c =
    let name_of = g.T.Named.name_of in
    let before = c.self.inside.numbers in
    let after = c.insert.new.self in
    let old = c.self.inside.records.items in
    let absent : position (pointwise nat_eq (name_of c.args.item)) (map name_of old) ≡ None =
    ap (λ xs. position (pointwise nat_eq (name_of c.args.item)) (map name_of xs)) c.self.view_is ∙ c.requires.absent in
    let number : c.len-number.result ≡ length old = search rules in
    let updates : Updates (slice_cmp nat_cmp) before after (name_of c.args.item) (Some (length old)) =
    subst (λ n. Updates (slice_cmp nat_cmp) before after (name_of c.args.item) (Some n)) number
    (subst (λ name. Updates (slice_cmp nat_cmp) before after name (Some c.len-number.result)) c.name.ensures c.in-Ok.ensures.updates) in
    IsNumbering-records name_of before after old c.push.new.self.items c.args.item c.in_ok-push.ensures.items absent updates c.self.invariant
