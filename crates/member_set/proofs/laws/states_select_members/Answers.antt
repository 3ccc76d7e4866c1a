use Rattle.member_set.proofs.StateLaws.{stays_built, has_stiffness_under, no_states_no_change, linear_members_take_part}
use Rattle.member_set.proofs.laws.states_select_members.Goals as goal

pub returns : goal.returns
returns c = record { built = stays_built; stiffness = has_stiffness_under; no_states = no_states_no_change; linear = linear_members_take_part }
