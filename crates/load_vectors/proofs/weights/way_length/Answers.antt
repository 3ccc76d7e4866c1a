use Rattle.std.proofs.Common.{◌≡◌, ◌∙◌, sym, rules}
use Rattle.load_vectors.proofs.LengthLemmas.{length_ends, length_is, length_low, length_high}
use Rattle.load_vectors.proofs.Sizes.{same_outcome}
use Rattle.member_pairs.specs.Vectors.{parts_of}
use Rattle.member_pairs.specs.Lengths.{length_of}
use Rattle.load_vectors.proofs.weights.way_length.Goals as goal

pub unwrap-requires : goal.unwrap-requires
unwrap-requires c = rw (c.length.ensures ∙ length_is c.args.way.now c.requires) (search rules)

value : (c : goal.After-unwrap) → c.unwrap.result ≡ length_ends c.args.way.now
value c = same_outcome (length_of (parts_of c.args.way.now)) (sym c.length.ensures ∙ c.unwrap.ensures) (length_is c.args.way.now c.requires)

pub returns-clause-lo : goal.returns-clause-lo
returns-clause-lo c = rw (value c) (length_low c.args.way.now c.requires)

pub returns-clause-hi : goal.returns-clause-hi
returns-clause-hi c = rw (value c) (length_high c.args.way.now c.requires)
