-- The lists that the fields of a draft's lists and of a model are seen as.
use Rattle.model_types.specs.Lists.{Lists}
use Rattle.model_types.specs.declared.record_lists.RecordLists.TheInside as lists
use Rattle.model_types.specs.declared.models.Model.TheInside as model

abbrev pub record_lists : lists.Inside → Lists
record_lists d = record {
  materials = d.materials;
  sections = d.sections;
  nodes = d.nodes;
  elements = d.elements;
  tees = d.tees.items;
  restraints = d.restraints;
  cases = d.cases;
  temps = d.temps.items;
  pressures = d.pressures.items;
  forces = d.forces.items;
  moves = d.moves.items;
  checks = d.checks;
}

abbrev pub model_lists : model.Inside → Lists
model_lists m = record {
  materials = m.materials.items;
  sections = m.sections.items;
  nodes = m.nodes.items;
  elements = m.elements.items;
  tees = m.tees.items;
  restraints = m.restraints.items;
  cases = m.cases.items;
  temps = m.temps.items;
  pressures = m.pressures.items;
  forces = m.forces.items;
  moves = m.moves.items;
  checks = m.checks.items;
}
