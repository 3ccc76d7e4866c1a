use Rattle.std.proofs.Common.{◌≡◌, ◌+◌, All, length}
use Rattle.matrix_tests.specs.Anchors.{IsAnchor}
use Rattle.matrix_tests.proofs.bounds.push_anchors.Given as goal

abbrev pub invariant-loop-freedom : goal.invariant-loop-freedom
invariant-loop-freedom l =
    record {
      six : length l.members.items ≡ length l.fn.members.items + l.freedom;
      anchors : All IsAnchor l.members.items;
    }
