-- The pairs of the factors of bends and tees hold them, and their lines are written word by word.
use Rattle.std.proofs.Common.{◌≡◌, ℕ, ◌^◌, Bool, true, false, if◌then◌else◌, List, [], ◌∷◌, ◌++◌, append_assoc, inl, inr, sym, ap, ◌∙◌, arith, ℤ, pos, ◌+ℤ◌, ◌*ℤ◌, ◌≤ℤ◌, ◌<ℤ◌, int_le}
use Rattle.std.proofs.lemmas.Int.{ints}
use Rattle.std.proofs.lemmas.List.Concat.{flat_map-append}
use Rattle.int_laws.proofs.Sums.{int_sums}
use Rattle.int_laws.proofs.Products.{le_mul, le_of_mul, mul_comm, mul_nonnegative, mul_right_comm, square_nonnegative}
use Rattle.int_laws.proofs.Powers.{power-mul, power_le, power_nonnegative, power_positive}
use Rattle.int_laws.proofs.DivisionLemmas.{floor_of-is, ceil_of-is, floor_greatest}
use Rattle.int_laws.specs.Division.{floor_of, ceil_of}
use Rattle.int_laws.specs.Powers.{power}
use Rattle.flex_interval.specs.Ends.{Ends}
use Rattle.flex_interval.specs.Fraction.{Fraction, Within}
use Rattle.model_types.specs.Ranges.{TeeInForm}
use Rattle.model_types.specs.Fits.{ends_of}
use Rattle.model_types.specs.declared.records.Section.{Section}
use Rattle.model_types.specs.declared.records.TeeKind.{TeeKind}
use Rattle.model_types.specs.declared.records.TeeKind.TheVariants.{Unreinforced, Pad, Coefficient}
use Rattle.sif_factors.specs.Characteristic.{HasBore, bend_characteristic, mean_diameter, tee_square, thin_pad_square}
use Rattle.sif_factors.specs.Factors.{flexibility_factor, greater_cube, lesser_cube}
use Rattle.sif_factors.specs.Index.{EnclosesIndex, EnclosesIndexIn}
use Rattle.sif_factors.specs.Parts.{fraction, squared}
use Rattle.sif_factors.specs.declared.Factors.{Factors}
use Rattle.text_words.specs.Fields.{line}
use Rattle.report.specs.Factors.{TellsFactors, TellsTee, in_plane_index}
use Rattle.report.specs.Report.{printed}
use Rattle.report.specs.Rounding.{PrintedHolds}
use Rattle.report.specs.Words.{spaced}
use Rattle.report.proofs.LineLemmas.{line_is}

-- ---- cubes p, u, e and o: where p u is at most e o, what e says of s holds of p by o
module _ (p u e o s c : ℤ) (some : pos 0 <ℤ u) (other : pos 0 ≤ℤ o) (from : pos 0 ≤ℤ s) where
  turned : (u *ℤ c) *ℤ o ≡ (o *ℤ c) *ℤ u
  turned = mul_right_comm u c o ∙ ap (λ (z : ℤ). z *ℤ c) (mul_comm u o) ∙ sym (mul_right_comm o c u)

  cube_below : (p *ℤ u) ≤ℤ (e *ℤ o) → (e *ℤ s) ≤ℤ (u *ℤ c) → (p *ℤ s) ≤ℤ (o *ℤ c)
  cube_below less own =
      let first = le_mul s from less in
      let second = le_mul o other own in
      le_of_mul u (p *ℤ s) (o *ℤ c) some (omega (arith, int_sums, first, second, turned, mul_right_comm p u s, mul_right_comm e o s))

  cube_above : (e *ℤ o) ≤ℤ (p *ℤ u) → (u *ℤ c) ≤ℤ (e *ℤ s) → (o *ℤ c) ≤ℤ (p *ℤ s)
  cube_above more own =
      let first = le_mul s from more in
      let second = le_mul o other own in
      le_of_mul u (o *ℤ c) (p *ℤ s) some (omega (arith, int_sums, first, second, turned, mul_right_comm p u s, mul_right_comm e o s))

-- cubes of products
cubes_le : (a b c d : ℤ) → pos 0 ≤ℤ (a *ℤ b) → (a *ℤ b) ≤ℤ (c *ℤ d) → (power a 3 *ℤ power b 3) ≤ℤ (power c 3 *ℤ power d 3)
cubes_le a b c d from less = let more = power_le 2 (a *ℤ b) (c *ℤ d) from less in rw (← power-mul 2 a b, ← power-mul 2 c d) more

-- an index within an interval is within the pair that is printed of it
pub index_printed : (unit other : ℤ) (cube square : Fraction) (e : Ends) → pos 0 <ℤ unit → pos 0 <ℤ other → pos 0 ≤ℤ (square.num *ℤ cube.den)
    → EnclosesIndexIn unit cube square e → EnclosesIndexIn other cube square (ends_of (printed other unit (record { lo = e.lo; hi = e.hi })))
index_printed unit other cube square e some more from own =
    let floor = floor_of-is (e.lo *ℤ other) unit some in
    let ceiling = ceil_of-is (e.hi *ℤ other) unit some in
    let lo = floor_of (e.lo *ℤ other) unit in
    let hi = ceil_of (e.hi *ℤ other) unit in
    let positive : pos 0 ≤ℤ other = omega (arith, int_sums) in
    let low : (unit *ℤ other) ≤ℤ (e.lo *ℤ other) = le_mul other positive own.lo_from_one in
    let high : (unit *ℤ other) ≤ℤ (e.hi *ℤ other) = le_mul other positive own.hi_from_one in
    let none : pos 0 ≤ℤ (unit *ℤ other) = mul_nonnegative unit other (omega (arith, int_sums)) positive in
    let lo_one : other ≤ℤ lo = floor_greatest other some floor (omega (arith, int_sums, low, mul_comm unit other)) in
    let hi_one : other ≤ℤ hi = le_of_mul unit other hi some (omega (arith, int_sums, high, ceiling.at_least, mul_comm unit other)) in
    let lo_from : pos 0 ≤ℤ (lo *ℤ unit) = mul_nonnegative lo unit (omega (arith, int_sums, lo_one)) (omega (arith, int_sums)) in
    let below = cubes_le lo unit e.lo other lo_from floor.at_most in
    let above = cubes_le e.hi other hi unit (omega (arith, int_sums, high, none)) ceiling.at_least in
    let units = power_positive 2 unit some in
    let others = power_nonnegative 2 other positive in
    record {
      lo_from_one = lo_one;
      hi_from_one = hi_one;
      lower = elim own.lower [
        | inl one ↦ inl (
            let least : lo ≤ℤ other = le_of_mul unit lo other some (omega (arith, int_sums, floor.at_most, ap (λ (z : ℤ). z *ℤ other) one, mul_comm unit other)) in
            omega (arith, int_sums, least, lo_one))
        | inr power_low ↦ inr (cube_below (power lo 3) (power unit 3) (power e.lo 3) (power other 3) (square.num *ℤ cube.den) (cube.num *ℤ square.den) units others from below power_low)
      ];
      upper = cube_above (power hi 3) (power unit 3) (power e.hi 3) (power other 3) (square.num *ℤ cube.den) (cube.num *ℤ square.den) units others from above own.upper;
    }

-- ---- what is printed of a bend's factors tells them
square_from : (x : Fraction) (d : ℤ) → pos 0 ≤ℤ d → pos 0 ≤ℤ ((squared x).num *ℤ d)
square_from x d from = mul_nonnegative (squared x).num d (square_nonnegative x.num) from

pub factors_told : (s : Section) (r : ℤ) (f : Factors) → PrintedHolds → Within f.k (flexibility_factor (bend_characteristic s r)) → EnclosesIndex greater_cube (squared (bend_characteristic s r)) f.ii
    → EnclosesIndex lesser_cube (squared (bend_characteristic s r)) f.io → TellsFactors s r f
factors_told s r f holds k ii io =
    let million : pos 0 <ℤ pos (10 ^ 6) = omega (arith, int_sums) in
    let index : pos 0 <ℤ pos (2 ^ 30) = omega (arith, int_sums) in
    record {
      k = holds (pos (10 ^ 6)) (pos (2 ^ 56)) (omega (arith, int_sums)) (omega (arith, int_sums)) (record { lo = f.k.lo; hi = f.k.hi }) _ k;
      ii = index_printed (pos (2 ^ 30)) (pos (10 ^ 6)) greater_cube (squared (bend_characteristic s r)) f.ii index million (square_from (bend_characteristic s r) greater_cube.den (omega (arith, int_sums))) ii;
      io = index_printed (pos (2 ^ 30)) (pos (10 ^ 6)) lesser_cube (squared (bend_characteristic s r)) f.io index million (square_from (bend_characteristic s r) lesser_cube.den (omega (arith, int_sums))) io;
    }

-- ---- and so it does of a tee's

-- the numerator of h^2 isn't negative
chosen_from : (b : Bool) (x y : Fraction) → pos 0 ≤ℤ x.num → pos 0 ≤ℤ y.num → pos 0 ≤ℤ (if b then x else y).num
chosen_from true x y first second = first
chosen_from false x y first second = second

tee_square_from : (header : Section) (kind : TeeKind) → HasBore header → TeeInForm kind → pos 0 ≤ℤ (tee_square header kind).num
tee_square_from header Unreinforced bore form = square_nonnegative (pos 2 *ℤ header.t)
tee_square_from header (Pad p) bore form =
    let thick : pos 0 ≤ℤ (pos 2 *ℤ header.t +ℤ p) = omega (arith, ints, form.least, bore.form.t.least) in
    chosen_from (int_le (pos 2 *ℤ p) (pos 3 *ℤ header.t)) (thin_pad_square header p) (squared (fraction (pos 8 *ℤ header.t) (mean_diameter header)))
    (power_nonnegative 4 (pos 2 *ℤ header.t +ℤ p) thick) (square_nonnegative (pos 8 *ℤ header.t))
tee_square_from header (Coefficient c) bore form = square_nonnegative (c *ℤ header.t)

pub tee_told : (header : Section) (kind : TeeKind) (f : Factors) → PrintedHolds → HasBore header → TeeInForm kind → EnclosesIndex greater_cube (tee_square header kind) f.io
    → ((i : Fraction) → Within f.io i → Within f.ii (in_plane_index i)) → TellsTee header kind f
tee_told header kind f holds bore form io ii =
    let square = tee_square header kind in
    let from : pos 0 ≤ℤ (square.num *ℤ greater_cube.den) = mul_nonnegative square.num greater_cube.den (tee_square_from header kind bore form) (omega (arith, int_sums)) in
    record {
      index = io;
      io = index_printed (pos (2 ^ 30)) (pos (10 ^ 6)) greater_cube square f.io (omega (arith, int_sums)) (omega (arith, int_sums)) from io;
      ii = λ i within. holds (pos (10 ^ 6)) (pos (2 ^ 30)) (omega (arith, int_sums)) (omega (arith, int_sums)) (record { lo = f.ii.lo; hi = f.ii.hi }) (in_plane_index i) (ii i within);
    }

-- ---- the lines

-- words are written in two parts
pub both_written : (old first new : List ℕ) (one two : List (List ℕ)) → first ≡ old ++ spaced one → new ≡ first ++ spaced two → new ≡ old ++ spaced (one ++ two)
both_written old first new one two e f = rw (f, e) (simp (append_assoc, flat_map-append))

-- a line is written in two parts behind its first word
pub parts_written : (old begun first second new head : List ℕ) (one two : List (List ℕ)) → begun ≡ old ++ head → first ≡ begun ++ spaced one → second ≡ first ++ spaced two
    → new ≡ second ++ 10 ∷ [] → new ≡ old ++ line (head ∷ one ++ two)
parts_written old begun first second new head one two begin e f end =
    rw (end, f, e, begin, line_is head (one ++ two)) (simp (append_assoc, flat_map-append))
