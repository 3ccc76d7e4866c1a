use Rattle.std.proofs.Common.{◌≡◌, ◌<◌, refl, List, ℕ, length, get_or}
use Rattle.std.proofs.lemmas.Result.{err_from_is_err_and}
use Rattle.std.proofs.lemmas.List.{get_or_read_under}
use Rattle.member_set.specs.Members.{no_member}
use Rattle.member_set.specs.declared.members.Member.{Member}
use Rattle.member_set.specs.States.{trial_forces_of}
use Rattle.member_set.proofs.Touching.{rows_fit}
use Rattle.member_set.proofs.states.trial_force_at.Goals as goal

-- the member that was read
own_member : (members slice : List Member) (k : ℕ) (m : Member) → slice ≡ members → m ≡ get_or slice k m → k < length members → m ≡ get_or members k no_member
own_member members slice k m same is inside = get_or_read_under members k _ m no_member (rw (← same) is) inside refl

pub reach-requires-clause-first_node : goal.reach-requires-clause-first_node
reach-requires-clause-first_node c = rw (own_member c.args.b.now.members c.as_slice.result.now c.args.member c.index-as_slice-member.result c.as_slice.ensures c.index-as_slice-member.is c.requires.member_in_range, c.requires.one_displacement_each) (rows_fit c.args.b.now c.requires.built _ c.requires.member_in_range).0

pub reach-requires-clause-second_node : goal.reach-requires-clause-second_node
reach-requires-clause-second_node c = rw (own_member c.args.b.now.members c.as_slice.result.now c.args.member c.index-as_slice-member.result c.as_slice.ensures c.index-as_slice-member.is c.requires.member_in_range, c.requires.one_displacement_each) (rows_fit c.args.b.now c.requires.built _ c.requires.member_in_range).1

pub returns-in_err-x : goal.returns-in_err-x
unfolding trial_forces_of
returns-in_err-x c =
    let p = err_from_is_err_and c.from_residual.result c.from_residual.ensures.1 in
    let here = rw (own_member c.args.b.now.members c.as_slice.result.now c.args.member c.index-as_slice-member.result c.as_slice.ensures c.index-as_slice-member.is c.requires.member_in_range) at c.in_err-x.ensures.value in
    rw (p.1, p.2, ← here) refl

pub returns : goal.returns
unfolding trial_forces_of
returns c =
    let here = rw (own_member c.args.b.now.members c.as_slice.result.now c.args.member c.index-as_slice-member.result c.as_slice.ensures c.index-as_slice-member.is c.requires.member_in_range) at c.in_ok-x.ensures.value in
    rw (← here) c.trial_force.ensures
