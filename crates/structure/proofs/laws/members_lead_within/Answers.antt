use Rattle.structure.proofs.LeadLaw.{members_lead_within}
use Rattle.structure.proofs.laws.members_lead_within.Goals as goal

pub returns : goal.returns
returns c = members_lead_within
