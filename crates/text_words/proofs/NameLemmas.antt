-- Lemmas on names.
use Rattle.std.proofs.Common.{◌≡◌, ℕ, ◌-◌, List, ◌++◌, length, take, replicate, sym, ap, subst, ◌∙◌}
use Rattle.std.proofs.Math.Seq.{take-append_seam}
use Rattle.text_words.specs.Names.{IsName, HoldsName, padded}

-- a name written over sixteen zeros
pub HoldsName-written : (bytes rest : List ℕ) → rest ≡ replicate (16 - length bytes) 0 → IsName bytes → HoldsName (bytes ++ rest) (length bytes)
HoldsName-written bytes rest zeros named =
    let front : take (length bytes) (bytes ++ rest) ≡ bytes = take-append_seam bytes rest in
    record {
      name = subst IsName (sym front) named;
      filled = ap length front;
      rest = ap padded front ∙ ap (λ r. bytes ++ r) (sym zeros);
    }
