use Rattle.std.proofs.Common.{◌≡◌, ◌≤◌, ◌++◌, length, drop}
use Rattle.std.specs.List.{flat_map}
use Rattle.lists.specs.Listed.{listed}
use Rattle.text_words.specs.Fields.{line}
use Rattle.model_types.specs.Fits.{AreModest}
use Rattle.report.specs.Report.{bounds_line, loads_before, load_count_of, restraint_bounds, restraint_key, restraint_state, states_before}
use Rattle.report.proofs.rows.push_restraints.Given as goal

abbrev pub invariant-loop-restraint : goal.invariant-loop-restraint
invariant-loop-restraint l = record {
  inside : l.restraint-index ≤ length l.restraints;
  left : l.rest ≡ drop (loads_before l.restraints l.restraint-index) l.loads;
  states_left : l.rest_of_states ≡ drop (states_before l.restraints l.restraint-index) l.states;
  modest : AreModest l.rest;
  written : l.out.items ≡ l.fn.out.items ++ flat_map line (listed l.restraint-index (bounds_line (restraint_key l.restraints) (load_count_of l.restraints) (restraint_state l.restraints l.states) (restraint_bounds l.restraints l.loads)));
}
