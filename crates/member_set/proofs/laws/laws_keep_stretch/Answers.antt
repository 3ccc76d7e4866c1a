use Rattle.member_set.proofs.StretchLaw.{laws_keep_stretch, linear_is_every_member}
use Rattle.member_set.proofs.laws.laws_keep_stretch.Goals as goal

pub returns : goal.returns
returns c = record { keep = laws_keep_stretch; every_member = linear_is_every_member }
