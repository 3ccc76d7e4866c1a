-- The whole numbers of the allowables are the standard's formulas.
use Rattle.std.proofs.Common.{◌≡◌, ℕ, List, Option, Result, arith, sym, subst, FitsSigned, ℤ, pos, ◌*ℤ◌, ◌≤ℤ◌}
use Rattle.std.specs.Int.{w64}
use Rattle.std.specs.Prelude.{IfOk}
use Rattle.std.proofs.lemmas.Int.{ints}
use Rattle.std.proofs.lemmas.Result.{IfOk-weaker}
use Rattle.int_laws.proofs.Products.{mul_assoc, mul-add, add-mul}
use Rattle.flex_interval.specs.Ends.{Ends}
use Rattle.flex_interval.specs.Fraction.{Fraction, Within, whole, scaled, plus, times}
use Rattle.flex_interval.specs.declared.fault.IvFault.{IvFault}
use Rattle.model_types.specs.declared.answers.CheckAnswer.{CheckAnswer}
use Rattle.model_types.specs.declared.ids.CaseId.{CaseId}
use Rattle.model_types.specs.declared.ids.CheckId.{CheckId}
use Rattle.model_types.specs.declared.records.CheckKind.{CheckKind}
use Rattle.model_types.specs.declared.records.CheckKind.TheVariants.{Expansion}
use Rattle.code_stress.specs.Allowable.{IsAllowable, stress_range, IsSustained, kilopascals, occasional_whole, basic_whole, full_whole, basic_range, full_range}
use Rattle.code_stress.specs.Allowances.{sustained_stress}
use Rattle.code_stress.specs.Meaning.{AllowableLiesIn}
use Rattle.code_stress.specs.Rules.{IsFactorOf, NumbersFit}

pub basic_within : (e : Ends) (sc sh : ℤ) → Within e (whole (basic_whole sc sh)) → Within e (basic_range sc sh)
unfolding whole scaled plus basic_range
basic_within e sc sh within =
    let parts = mul-add (pos 16384000) (pos 5 *ℤ sc) sh in
    let first : pos 16384000 *ℤ (pos 5 *ℤ sc) ≡ pos 81920000 *ℤ sc = sym (mul_assoc (pos 16384000) (pos 5) sc) in
    record {
      defined = omega (arith, ints);
      at_least = omega (arith, ints, within.at_least);
      at_most = omega (arith, ints, within.at_most);
    }

pub full_within : (e : Ends) (sc sh : ℤ) → Within e (whole (full_whole sc sh)) → Within e (full_range sc sh)
unfolding whole scaled plus full_range
full_within e sc sh within =
    let parts = mul-add (pos 81920000) sc sh in
    let sum = add-mul (kilopascals sc *ℤ pos 1) (kilopascals sh *ℤ pos 1) (pos 5) in
    record {
      defined = omega (arith, ints);
      at_least = omega (arith, ints, within.at_least);
      at_most = omega (arith, ints, within.at_most);
    }

percent_least : (lo x : ℤ) → (lo *ℤ pos 1) ≤ℤ (pos 655360 *ℤ x) → (lo *ℤ pos 100) ≤ℤ (pos 65536000 *ℤ x)
percent_least lo x h = omega (arith, ints)

percent_most : (hi x : ℤ) → (pos 655360 *ℤ x) ≤ℤ (hi *ℤ pos 1) → (pos 65536000 *ℤ x) ≤ℤ (hi *ℤ pos 100)
percent_most hi x h = omega (arith, ints)

pub occasional_within : (e : Ends) (sh percent : ℤ) → Within e (whole (occasional_whole sh percent)) → Within e (scaled (whole (kilopascals sh)) percent (pos 100))
unfolding whole scaled
occasional_within e sh percent within = record {
  defined = omega (arith, ints);
  at_least = rw (mul_assoc (pos 65536000) sh percent) (percent_least e.lo (sh *ℤ percent) within.at_least);
  at_most = rw (mul_assoc (pos 65536000) sh percent) (percent_most e.hi (sh *ℤ percent) within.at_most);
}

-- the allowable of an expansion check lies in an interval that encloses it by the factor and the sustained stress that were taken
pub expansion_lies : (earlier : List CheckAnswer) (kind : CheckKind) (case1 case2 : CaseId) (sc sh cycles fm : ℤ) (sus : Option CheckId) (station : ℕ) (factor : Ends)
    (sustained : Option Ends) (cold hot : ℤ) (r : Result Ends IvFault) → kind ≡ Expansion case1 case2 sc sh cycles fm sus → IsFactorOf kind factor →
    sustained ≡ sustained_stress earlier sus station → cold ≡ sc → hot ≡ sh →
    IfOk r (λ e. (f s : Fraction) → Within factor f → IsSustained sustained s → Within e (times f (stress_range sustained s cold hot) 20)) → IfOk r (AllowableLiesIn earlier kind station)
expansion_lies earlier kind case1 case2 sc sh cycles fm sus station factor sustained cold hot r is taken same cold_is hot_is encloses =
    let factor_is = subst (λ (k : CheckKind). IsFactorOf k factor) is taken in
    subst (λ (k : CheckKind). IfOk r (AllowableLiesIn earlier k station)) (sym is)
    (IfOk-weaker r (λ e. (f s : Fraction) → Within factor f → IsSustained sustained s → Within e (times f (stress_range sustained s cold hot) 20)) _
    (λ e within. record {
      factor = factor;
      factor_is = factor_is.1;
      within = subst (λ (o : Option Ends). (f s : Fraction) → Within factor f → IsSustained o s → Within e (times f (stress_range o s sc sh) 20)) same
          (subst (λ (x : ℤ). (f s : Fraction) → Within factor f → IsSustained sustained s → Within e (times f (stress_range sustained s sc x) 20)) hot_is
          (subst (λ (x : ℤ). (f s : Fraction) → Within factor f → IsSustained sustained s → Within e (times f (stress_range sustained s x hot) 20)) cold_is within));
    }) encloses)

-- the allowable stresses of an expansion check are numbers of 64 bits
allowable_fits : (x : ℤ) → IsAllowable x → FitsSigned w64 x
allowable_fits x form = omega (arith, ints, form.low, form.high)

pub expansion_fits : (kind : CheckKind) (case1 case2 : CaseId) (sc sh cycles fm : ℤ) (sus : Option CheckId) → kind ≡ Expansion case1 case2 sc sh cycles fm sus → NumbersFit kind →
    FitsSigned w64 sc × FitsSigned w64 sh
expansion_fits kind case1 case2 sc sh cycles fm sus is fits =
    let form = subst NumbersFit is fits in (allowable_fits sc form.cold, allowable_fits sh form.hot)
