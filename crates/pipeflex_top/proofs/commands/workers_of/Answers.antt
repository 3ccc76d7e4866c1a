use Rattle.std.proofs.Common.{rules, ◌≡◌, codes}
use Rattle.pipeflex_top.proofs.commands.workers_of.Goals as goal

pub returns : goal.returns
returns c =
    let option : c.args.option.now ≡ codes "--workers" = search rules in
    λ n. (
      λ some.
          let found = (c.number_to.ensures n).0 some in
          (option, found.0, found.1, found.2),
      λ stated. (c.number_to.ensures n).1 (stated.1, stated.2, stated.3),
    )
