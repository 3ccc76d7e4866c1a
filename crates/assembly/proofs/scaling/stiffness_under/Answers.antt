use Rattle.std.proofs.Common.{◌≡◌, ◌∙◌, sym, ap, refl, get_or, Bool, if◌then◌else◌}
use Rattle.std.proofs.lemmas.List.{get_or_read_under}
use Rattle.member_set.specs.declared.members.Member.{Member}
use Rattle.member_set.specs.Members.{nothing, no_member, member_of}
use Rattle.assembly.proofs.UnderStates.{kappa_under}
use Rattle.assembly.proofs.scaling.stiffness_under.Goals as goal

pub returns-then-included : goal.returns-then-included
returns-then-included c =
    let b = c.args.b.now in
    let m = c.index-as_slice-k.result in
    let listed : m ≡ get_or b.members c.args.k m = rw (← c.as_slice.ensures) c.index-as_slice-k.is in
    let member_is : m ≡ member_of b c.args.k = get_or_read_under b.members c.args.k _ m no_member listed c.requires.member_in_range refl in
    rw c.as_slice.ensures
    (sym (kappa_under b c.args.closed.now c.args.k c.requires.member_in_range
    ∙ ap (λ (t : Bool). if t then (member_of b c.args.k).kappa else nothing) (sym c.included.ensures ∙ c.if-included.true)
    ∙ ap (λ (x : Member). x.kappa) (sym member_is ∙ listed)))

pub returns-else-included : goal.returns-else-included
returns-else-included c =
    c.point.ensures.value
    ∙ sym (kappa_under c.args.b.now c.args.closed.now c.args.k c.requires.member_in_range
    ∙ ap (λ (t : Bool). if t then (member_of c.args.b.now c.args.k).kappa else nothing) (sym c.included.ensures ∙ c.if-included.false))
