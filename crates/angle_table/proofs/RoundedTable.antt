-- The rounded cosines and sines of the table, each from those before it.
use Rattle.std.proofs.Common.{◌≡◌, refl, lit<, lit≤, pos, Ok}
use Rattle.int_laws.specs.Division.{floor_of, ceil_of}
use Rattle.int_laws.proofs.RootLemmas.{root_at, root_up_at}
use Rattle.flex_interval.specs.Operations.{ends, add_of, sub_of, multiple_of, ratio_of, shifted_of, sqrt_of}
use Rattle.angle_table.specs.HalfAngle.{cosine_of_45, cosine_of_30, half_cosine_of, half_sine_of}

pub cosine_45 : cosine_of_45 ≡ Ok (ends (pos 50952413380206180) (pos 50952413380206181))
unfolding cosine_of_45 sqrt_of shifted_of
cosine_45 = rw (root_at 2596148429267413814265248164610048 50952413380206180 (lit≤ tt) (lit< tt), root_up_at 2596148429267413814265248164610048 50952413380206180 (lit< tt) (lit≤ tt)) refl

pub cosine_30 : cosine_of_30 ≡ Ok (ends (pos 62403706972431699) (pos 62403706972431700))
unfolding cosine_of_30 sqrt_of shifted_of
cosine_30 = rw (root_at 3894222643901120721397872246915072 62403706972431699 (lit≤ tt) (lit< tt), root_up_at 3894222643901120721397872246915072 62403706972431699 (lit< tt) (lit≤ tt)) refl

pub cosine_22_half : half_cosine_of (ends (pos 50952413380206180) (pos 50952413380206181)) ≡ Ok (ends (pos 66572536293648945) (pos 66572536293648946))
unfolding half_cosine_of add_of ratio_of multiple_of floor_of ceil_of sqrt_of shifted_of
cosine_22_half = rw (root_at 4431902588569206028495709995532288 66572536293648945 (lit≤ tt) (lit< tt), root_up_at 4431902588569206100553304033460224 66572536293648945 (lit< tt) (lit≤ tt)) refl

pub sine_22_half : half_sine_of (ends (pos 50952413380206180) (pos 50952413380206181)) ≡ Ok (ends (pos 27575247414404490) (pos 27575247414404492))
unfolding half_sine_of sub_of ratio_of multiple_of floor_of ceil_of sqrt_of shifted_of
sine_22_half = rw (root_at 760394269965621527977192295759872 27575247414404490 (lit≤ tt) (lit< tt), root_up_at 760394269965621600034786333687808 27575247414404491 (lit< tt) (lit≤ tt)) refl

pub cosine_15 : half_cosine_of (ends (pos 62403706972431699) (pos 62403706972431700)) ≡ Ok (ends (pos 69602291061487781) (pos 69602291061487783))
unfolding half_cosine_of add_of ratio_of multiple_of floor_of ceil_of sqrt_of shifted_of
cosine_15 = rw (root_at 4844478921008061959979125767667712 69602291061487781 (lit≤ tt) (lit< tt), root_up_at 4844478921008062032036719805595648 69602291061487782 (lit< tt) (lit≤ tt)) refl

pub sine_15 : half_sine_of (ends (pos 62403706972431699) (pos 62403706972431700)) ≡ Ok (ends (pos 18649877681281601) (pos 18649877681281604))
unfolding half_sine_of sub_of ratio_of multiple_of floor_of ceil_of sqrt_of shifted_of
sine_15 = rw (root_at 347817937526765596493776523624448 18649877681281601 (lit≤ tt) (lit< tt), root_up_at 347817937526765668551370561552384 18649877681281603 (lit< tt) (lit≤ tt)) refl

pub cosine_11_quarter : half_cosine_of (ends (pos 66572536293648945) (pos 66572536293648946)) ≡ Ok (ends (pos 70673027573671297) (pos 70673027573671298))
unfolding half_cosine_of add_of ratio_of multiple_of floor_of ceil_of sqrt_of shifted_of
cosine_11_quarter = rw (root_at 4994676826428903454857213341859840 70673027573671297 (lit≤ tt) (lit< tt), root_up_at 4994676826428903526914807379787776 70673027573671297 (lit< tt) (lit≤ tt)) refl

pub sine_11_quarter : half_sine_of (ends (pos 66572536293648945) (pos 66572536293648946)) ≡ Ok (ends (pos 14057739224566804) (pos 14057739224566808))
unfolding half_sine_of sub_of ratio_of multiple_of floor_of ceil_of sqrt_of shifted_of
sine_11_quarter = rw (root_at 197620032105924101615688949432320 14057739224566804 (lit≤ tt) (lit< tt), root_up_at 197620032105924173673282987360256 14057739224566807 (lit< tt) (lit≤ tt)) refl
