use Rattle.std.proofs.Common.{◌≡◌, ◌∙◌, sym, ap, refl, get_or}
use Rattle.std.proofs.lemmas.List.{get_or_read_under}
use Rattle.member_set.specs.declared.members.Member.{Member}
use Rattle.member_set.specs.Members.{no_member, member_of, shape_at}
use Rattle.assembly.proofs.UnderStates.{shape_under}
use Rattle.assembly.proofs.scaling.scaled_shape.Goals as goal

pub returns : goal.returns
returns c =
    let b = c.args.b.now in
    let m = c.index-as_slice-k.result in
    let listed : m ≡ get_or b.members c.args.k m = rw (← c.as_slice.ensures) c.index-as_slice-k.is in
    let member_is : m ≡ member_of b c.args.k = get_or_read_under b.members c.args.k _ m no_member listed c.requires.member_in_range refl in
    let shape_is = c.shape.ensures ∙ ap (λ (x : Member). shape_at x c.args.row) member_is ∙ sym (shape_under b c.args.closed.now c.args.k c.args.row c.requires.member_in_range) in
    rw (← c.stiffness_under-stiffness.ensures, ← shape_is) c.mul.ensures.value
