use Rattle.std.proofs.Common.{◌≡◌, ◌<◌, length, refl, sym, ap, ◌∙◌, arith, subst, take_all, true, false}
use Rattle.std.proofs.lemmas.List.Sums.{count_by_more_yes, count_by_more_no}
use Rattle.std.specs.Prelude.{not}
use Rattle.pipeflex_top.specs.Analysis.{is_certified, certified_count, uncertified_count}
use Rattle.pipeflex_top.proofs.tally.tally_of.Goals as goal
