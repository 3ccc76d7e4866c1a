use Rattle.std.proofs.Common.{◌∷◌}
use Rattle.lists.specs.Lists.{contents, list_of}
use Rattle.factor.proofs.PushLemmas.{ArePushed}
use Rattle.factor.proofs.by_fronts.push_columns.Given as goal

abbrev pub invariant-loop-c : goal.invariant-loop-c
invariant-loop-c l = ArePushed (l.f ∷ list_of l.t.later l.f) l.c l.initial.columns l.columns (contents l.initial.rows.items) (contents l.rows.items) (contents l.initial.values.items) (contents l.values.items)
