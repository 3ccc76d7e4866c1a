use Rattle.std.proofs.Common.{◌≡◌, Some, None, sym, ap, subst, ◌∙◌}
use Rattle.model_types.specs.Refusals.{refusal}
use Rattle.model_types.specs.Rules.{KeepsRules, MayBeNext}
use Rattle.model_types.proofs.GrowthLemmas.{KeepsRules-added, MayBeNext-added, nodes_in_form}
use Rattle.model_types.proofs.TestLemmas.{may_be_next, refused_none, room_for}
use Rattle.model_types.proofs.drafts.Draft.add.Goals as goal

pub refusal-requires-clause-nodes : goal.refusal-requires-clause-nodes
refusal-requires-clause-nodes c = nodes_in_form c.self.inside.lists c.self.invariant

pub append-requires-clause-room : goal.append-requires-clause-room
append-requires-clause-room c =
    let next = may_be_next c.self.inside.lists c.args.candidate c.requires.form (sym c.refusal.ensures ∙ c.in_default.is) in
    room_for c.self.inside.lists c.args.candidate next

pub returns-in-Some-clause-needed : goal.returns-in-Some-clause-needed
returns-in-Some-clause-needed c = λ number e k.
    let found : Some c.in-Some.number ≡ refusal c.self.inside.lists c.args.candidate = c.in-Some.ensures in
    let same = ap (λ m. refusal m c.args.candidate) c.self.view_is in
    let none : refusal c.args.self.now c.args.candidate ≡ None = refused_none c.args.self.now c.args.candidate (MayBeNext-added c.args.self.now c.args.candidate k) in
    cc

pub invariant_of-self-2 : goal.invariant_of-self-2
invariant_of-self-2 c =
    let next = may_be_next c.self.inside.lists c.args.candidate c.requires.form (sym c.refusal.ensures ∙ c.in_default.is) in
    subst KeepsRules (sym c.in_ok-append.ensures.ok) (KeepsRules-added c.self.inside.lists c.args.candidate c.self.invariant next)

pub returns-clause-rules : goal.returns-clause-rules
returns-clause-rules c =
    let next = may_be_next c.self.inside.lists c.args.candidate c.requires.form (sym c.refusal.ensures ∙ c.in_default.is) in
    subst KeepsRules (sym c.in_ok-append.ensures.ok) (KeepsRules-added c.self.inside.lists c.args.candidate c.self.invariant next)

pub returns-clause-next : goal.returns-clause-next
returns-clause-next c =
    subst (λ m. MayBeNext m c.args.candidate) c.self.view_is (may_be_next c.self.inside.lists c.args.candidate c.requires.form (sym c.refusal.ensures ∙ c.in_default.is))
