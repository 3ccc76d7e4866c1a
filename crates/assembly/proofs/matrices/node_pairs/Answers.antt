use Rattle.std.proofs.Common.{ap, sym, ◌≡◌, ◌∙◌, ◌<◌, ◌≤◌, ℕ, List, [], ◌∷◌, ◌++◌, length, get_or, take, map}
use Rattle.std.proofs.lemmas.List.{map_more, take_all}
use Rattle.member_set.specs.declared.members.Member.{Member}
use Rattle.assembly.proofs.matrices.node_pairs.Goals as goal

pub loop-m-preserved : goal.loop-m-preserved
loop-m-preserved c =
    let members = c.args.b.now.members in
    let i = c.loop-m.m-index in
    let m = c.m-item.result in
    let inside : i < length members = rw (← c.as_slice-m-items.ensures) c.loop-m-test.true in
    let item : m ≡ get_or members i m = rw (← c.as_slice-m-items.ensures) c.m-item.is in
    c.in_ok-push.ensures.items
    ∙ ap (λ (pairs : List (ℕ × ℕ)). pairs ++ (m.n1, m.n2) ∷ []) c.loop-m.invariant
    ∙ ap (λ (x : Member). map (λ (y : Member). (y.n1, y.n2)) (take i members) ++ (x.n1, x.n2) ∷ []) item
    ∙ sym (map_more (λ (y : Member). (y.n1, y.n2)) members i m inside)

pub returns : goal.returns
returns c =
    let members = c.args.b.now.members in
    let whole : length members ≤ c.loop-m.m-index = rw (← c.as_slice-m-items.ensures) c.loop-m-test.false in
    c.loop-m.invariant ∙ ap (map (λ (y : Member). (y.n1, y.n2))) (take_all c.loop-m.m-index members whole)
