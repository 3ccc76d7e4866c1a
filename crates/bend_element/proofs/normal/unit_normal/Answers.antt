use Rattle.std.proofs.Common.{◌≡◌, Ok}
use Rattle.bend_element.specs.Normal.{normal_parts, normal_length_of, unit_normal_of}
use Rattle.bend_element.proofs.UnitLemmas.{unit_parts_found}
use Rattle.bend_element.proofs.normal.unit_normal.Goals as goal

length : (c : goal.After-unit_parts) → normal_length_of (normal_parts c.args.normal.now) ≡ Ok c.normal_length-length.result.scaled
unfolding normal_length_of
length c = rw (← c.normal_length-length.ensures.shift) c.normal_length-length.ensures.value

pub returns-clause-value : goal.returns-clause-value
unfolding unit_normal_of
returns-clause-value c = rw (length c, ← c.normal_length-length.ensures.shift) c.unit_parts.ensures.value

pub returns-clause-within : goal.returns-clause-within
returns-clause-within c =
    rw (length c, ← c.normal_length-length.ensures.shift) c.unit_parts.ensures.within

pub returns-clause-length : goal.returns-clause-length
returns-clause-length c = λ l exact. rw (length c) (c.normal_length-length.ensures.exact l exact)

pub returns-clause-found : goal.returns-clause-found
returns-clause-found c =
    rw c.unit_parts.ensures.value
    (unit_parts_found c.args.normal.now c.normal_length-length.result.shift c.normal_length-length.result.scaled c.requires.not_zero c.normal_length-length.ensures.value)
