-- The twelve shape numbers of a member enclose its exact shape vector.
use Rattle.std.proofs.Common.{List, arith}
use Rattle.int_laws.proofs.Sums.{int_sums}
use Rattle.int_laws.proofs.Products.{neg-mul}
use Rattle.flex_interval.specs.Ends.{Ends}
use Rattle.flex_interval.specs.Fraction.{Fraction, Within, negated}
use Rattle.flex_interval.specs.Operations.{neg_of}
use Rattle.member_set.specs.Members.{nothing}
use Rattle.member_pairs.specs.Axes.{x_axis, y_axis, z_axis, translation, rotation, from_end, to_end}
use Rattle.member_pairs.specs.Pairs.{shape_numbers, shape, EnclosesShape}
use Rattle.member_pairs.specs.Vectors.{Exact, EnclosesVector}

negative_within : {e : Ends} {x : Fraction} → Within e x → Within (neg_of e) (negated x)
unfolding neg_of negated
negative_within {e} {x} h = record {
  defined = h.defined;
  at_least = omega (arith, int_sums, neg-mul e.hi x.den, h.at_most);
  at_most = omega (arith, int_sums, neg-mul e.lo x.den, h.at_least);
}

pub shape_encloses : {u v w : List Ends} {t f o : Exact} → EnclosesVector u t → EnclosesVector v f → EnclosesVector w o → EnclosesShape (shape_numbers u v w) (shape t f o)
shape_encloses a b c from_end translation x_axis = negative_within (a.x nothing)
shape_encloses a b c from_end translation y_axis = negative_within (a.y nothing)
shape_encloses a b c from_end translation z_axis = negative_within (a.z nothing)
shape_encloses a b c from_end rotation x_axis = b.x nothing
shape_encloses a b c from_end rotation y_axis = b.y nothing
shape_encloses a b c from_end rotation z_axis = b.z nothing
shape_encloses a b c to_end translation x_axis = a.x nothing
shape_encloses a b c to_end translation y_axis = a.y nothing
shape_encloses a b c to_end translation z_axis = a.z nothing
shape_encloses a b c to_end rotation x_axis = c.x nothing
shape_encloses a b c to_end rotation y_axis = c.y nothing
shape_encloses a b c to_end rotation z_axis = c.z nothing
