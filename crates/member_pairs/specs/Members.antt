-- The members of an element as a list.
use Rattle.std.specs.Prelude.{List}
use Rattle.member_set.specs.declared.members.Member.{Member}
use Rattle.member_pairs.specs.declared.element.MemberArray.{MemberArray}
use Rattle.member_pairs.specs.declared.element.MemberArray.TheVariants.{Six, Eight}

abbrev pub member_list : MemberArray → List Member
member_list (Six members) = members
member_list (Eight members) = members
