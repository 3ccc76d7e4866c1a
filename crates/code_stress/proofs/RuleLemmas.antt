-- What the rules of a model give of its checks.
use Rattle.std.proofs.Common.{ℕ, ◌<◌, [], ◌∷◌, length, All, Option, Some, None, ℤ, arith}
use Rattle.std.specs.Prelude.{IfSome}
use Rattle.std.proofs.lemmas.Int.{ints}
use Rattle.std.proofs.lemmas.List.Elements.{All-nil, All-cons}
use Rattle.model_types.specs.Kinds.{AreThere, check_refs}
use Rattle.model_types.specs.Lists.{Lists}
use Rattle.model_types.specs.Ranges.{IsIn, CheckInForm}
use Rattle.model_types.specs.Rules.{Keeps}
use Rattle.model_types.specs.declared.ranges.TheConstants.{ALLOWABLE_STRESS, OCCASIONAL_PERCENT}
use Rattle.model_types.specs.declared.records.Check.{Check}
use Rattle.model_types.specs.declared.records.CheckKind.{CheckKind}
use Rattle.model_types.specs.declared.records.CheckKind.TheVariants.{Sustained, Occasional, Expansion}
use Rattle.model_types.specs.declared.records.Record.TheVariants as record_of
use Rattle.code_stress.specs.Allowable.{IsAllowable, IsPercent}
use Rattle.code_stress.specs.Checks.{cases_of}
use Rattle.code_stress.specs.Rules.{NumbersFit, IsCheckOf}

allowable-is : (c : ℤ) → IsIn ALLOWABLE_STRESS c → IsAllowable c
allowable-is c range = record { low = range.least; high = range.most }

percent-is : (percent : Option ℤ) → IfSome percent (IsIn OCCASIONAL_PERCENT) → IfSome percent IsPercent
percent-is None range = tt
percent-is (Some percent) range = record { low = range.least; high = range.most }

numbers-fit : (kind : CheckKind) → CheckInForm kind → NumbersFit kind
numbers-fit (Sustained case sh) form = allowable-is sh form
numbers-fit (Occasional case sh percent) form = record { hot = allowable-is sh form.0; percent_given = percent-is percent form.1 }
numbers-fit (Expansion case1 case2 sc sh cycles fm sus) form = record {
  cold = allowable-is sc form.cold;
  hot = allowable-is sh form.hot;
  some_cycles = form.cycles.least;
  cap = omega (arith, ints, form.factor.least, form.factor.most);
}

cases-there : (m : Lists) (kind : CheckKind) → AreThere m (check_refs kind) → All (λ case. case < length m.cases) (cases_of kind)
cases-there m (Sustained case sh) there = All-cons (λ (c : ℕ). c < length m.cases) case.0 [] there.0 (All-nil (λ (c : ℕ). c < length m.cases))
cases-there m (Occasional case sh percent) there = All-cons (λ (c : ℕ). c < length m.cases) case.0 [] there.0 (All-nil (λ (c : ℕ). c < length m.cases))
cases-there m (Expansion case1 case2 sc sh cycles fm sus) there =
    All-cons (λ (c : ℕ). c < length m.cases) case1.0 (case2.0 ∷ []) there.0
    (All-cons (λ (c : ℕ). c < length m.cases) case2.0 [] there.1.0 (All-nil (λ (c : ℕ). c < length m.cases)))

-- a check of a model, by its rule
pub check-of : (m : Lists) (c : Check) → Keeps m (record_of.Check c) → IsCheckOf m c.kind
check-of m c keeps = record { form = numbers-fit c.kind keeps.form.1; cases = cases-there m c.kind keeps.known }
