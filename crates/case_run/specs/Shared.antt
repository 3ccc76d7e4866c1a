-- What all cases of a model share.
use Rattle.std.specs.Prelude.{◌≡◌, length, IfOk, pos, ◌≤ℤ◌}
use Rattle.int_laws.specs.Matrices.{Entries}
use Rattle.model_types.specs.Lists.{Lists}
use Rattle.model_types.specs.Rules.{IsModel}
use Rattle.structure.specs.Structure.{IsStructureOf}
use Rattle.member_set.specs.Members.{AreStiff}
use Rattle.case_run.specs.declared.shared.Shared.{Shared}
use Rattle.case_run.specs.Causes.{Plan}
use Rattle.case_run.specs.Contacts.{contacts_of, starting_states}
use Rattle.case_run.specs.Pattern.{TakesStructure}
use Rattle.case_run.specs.Steps.{IsFactorFor, IsPlan}
use Rattle.case_run.specs.Trying.{IsFactorUnder}

-- what a case needs of it, where the nodes are eliminated in that order, and what can be factorised is known
pub record IsReady (m : Lists) (p : Plan) (takes : Entries → Type 0) (s : Shared) : Type 0 where
  pub model : IsModel m
  pub structure : IsStructureOf m s.b
  pub stiff : AreStiff s.b
  pub contacts : s.contacts.items ≡ contacts_of m
  pub start : s.start.items ≡ starting_states m
  pub positive : pos 1 ≤ℤ s.lambda
  pub plan : IsPlan p
  pub nodes : length p.order ≡ length m.nodes
  pub takes_structure : TakesStructure takes s.b
  pub given : IsFactorUnder p s.b s.start.items s.first
  pub own_order : IfOk s.first (λ f. f.order ≡ p.order)
  pub fits : IfOk s.first (IsFactorFor s.b)
