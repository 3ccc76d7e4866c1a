use Rattle.std.proofs.Common.{[], ◌∷◌}
use Rattle.std.proofs.lemmas.List.Elements.{All-from_recursion}
use Rattle.member_pairs.specs.Pairs.{IsMemberOf}
use Rattle.bend_element.proofs.Modes.{by_mode}
use Rattle.bend_element.proofs.members.six.Goals as goal

pub returns-clause-limits : goal.returns-clause-limits
returns-clause-limits c =
    All-from_recursion (IsMemberOf c.args.e.now)
    (c.in_ok-first.first ∷ c.in_ok-second.second ∷ c.in_ok-third.third ∷ c.in_ok-fourth.fourth ∷ c.in_ok-fifth.fifth ∷ c.in_ok-sixth.sixth ∷ []) (
      c.in_ok-first.ensures.limits,
      (c.in_ok-second.ensures.limits, (c.in_ok-third.ensures.limits, (c.in_ok-fourth.ensures.limits, (c.in_ok-fifth.ensures.limits, (c.in_ok-sixth.ensures.limits, tt))))),
    )

pub returns-clause-within : goal.returns-clause-within
returns-clause-within c = λ tube x place pi k frame f.
    by_mode _
    (c.in_ok-first.ensures.within tube x place pi k frame)
    (c.in_ok-second.ensures.within tube x place pi k frame)
    (c.in_ok-third.ensures.within tube x place pi k frame f.plane.centre)
    (c.in_ok-fourth.ensures.within tube x place pi k frame)
    (c.in_ok-fifth.ensures.within tube x place pi k frame)
    (c.in_ok-sixth.ensures.within tube x place pi k frame f.across.centre)
