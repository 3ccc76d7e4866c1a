use Rattle.case_run.proofs.ForcesLaw.{forces_hold, one_force_each, forces_are_told}
use Rattle.case_run.proofs.laws.forces_hold.Goals as goal

pub returns : goal.returns
returns c =
    record {
      each = forces_hold
          (record {
            passed = c.passed_test_is_proof.ensures;
            matrices_hold = c.matrices_hold.ensures;
            stays_built = c.states_select_members.ensures.built;
            stiffness_under = c.states_select_members.ensures.stiffness;
            take_part = c.states_select_members.ensures.linear;
            states_hold = c.states_hold.ensures;
            stiff = c.structures_are_stiff.ensures;
            have_states = c.structures_have_states.ensures;
            suit = c.laws_suit_models.ensures;
          });
      one_each = one_force_each;
      told = forces_are_told;
    }
