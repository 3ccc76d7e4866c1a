-- What the first place of a byte says of the parts before and after it.
use Rattle.std.proofs.Common.{◌≡◌, ℕ, ◌+◌, ◌<◌, ◌≤◌, ◌==◌, List, ◌++◌, None, Some, take, drop, length, length-take-le, get_or, position, sym, ◌∙◌, ap, arith, add-one}
use Rattle.std.proofs.Math.Seq.{drop-cons}
use Rattle.std.proofs.lemmas.Bool.Decides.{nat_tests}
use Rattle.std.proofs.lemmas.List.{take-append-drop, get_or-take}
use Rattle.std.proofs.lemmas.List.Sums.{fails_before_first}
use Rattle.std.proofs.lemmas.List.Quantifiers.{position-Some}
use Rattle.std.specs.List.{position_or_len}
use Rattle.text_words.specs.Fields.{Lacks, IsSplit}

pub lacks_from_none : (end : ℕ) (bytes : List ℕ) → position (λ b. b == end) bytes ≡ None → Lacks end bytes
lacks_from_none end bytes h k d inside =
    let past : length bytes ≤ position_or_len (λ b. b == end) bytes = grind (arith, nat_tests) in
    fails_before_first (λ b. b == end) bytes k d (omega arith)

pub split_from_some : (end : ℕ) (bytes : List ℕ) (at : ℕ) → position (λ b. b == end) bytes ≡ Some at → IsSplit end bytes (take at bytes) (drop (at + 1) bytes)
split_from_some end bytes at h =
    let found = position-Some (λ b. b == end) bytes at 0 h in
    let here : get_or bytes at 0 ≡ end = grind (arith, nat_tests) in
    record {
      whole = sym (take-append-drop at bytes) ∙ ap (λ rest. take at bytes ++ rest) (rw (add-one, ← here) (drop-cons bytes at 0 found.0));
      lacks = λ k d inside.
          let before : k < at = omega (arith, length-take-le at bytes (omega arith)) in
          let first = position-Some (λ b. b == end) bytes at d h in
          rw get_or-take (first.2 k before);
    }
