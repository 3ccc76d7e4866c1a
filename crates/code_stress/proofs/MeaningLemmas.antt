-- What lies in the six intervals of an action gives what lies in the stress.
use Rattle.std.proofs.Common.{◌≡◌, ℕ, Bool, List, Option, Result, Ok, ℤ, ap, subst, sym, ◌∙◌}
use Rattle.std.specs.Prelude.{is_some}
use Rattle.flex_interval.specs.Ends.{Ends}
use Rattle.flex_interval.specs.declared.fault.IvFault.{IvFault}
use Rattle.flex_interval.specs.Fraction.{Fraction, Within}
use Rattle.member_pairs.specs.Axes.{x_axis, y_axis, z_axis}
use Rattle.model_types.specs.Lists.{Lists}
use Rattle.model_types.specs.declared.records.CheckKind.{CheckKind}
use Rattle.model_types.specs.declared.records.CheckKind.TheVariants.{Sustained, Occasional, Expansion}
use Rattle.stress_terms.specs.Combined.{EnclosesStress}
use Rattle.code_stress.specs.Actions.{Place}
use Rattle.code_stress.specs.Checks.{pressure_in}
use Rattle.code_stress.specs.Data.{station_data_of}
use Rattle.code_stress.specs.Meaning.{OfParts, OfActions, OfAction, EnclosesAction, ActionsLieIn, StressesLieIn, IsStationUnder}
use Rattle.code_stress.specs.Station.{ExactStation, EnclosesStation, direct_stress, bending_stress_square, torsion_stress}
use Rattle.code_stress.specs.declared.station.StationData.{StationData}

-- a fact of every action gives another
actions-weaker : (m : Lists) (kind : CheckKind) (p : Place) (P Q : OfParts) → ((acts : ℕ → Fraction) → P acts → Q acts) → OfActions m kind p P → OfActions m kind p Q
actions-weaker m (Sustained case sh) p P Q step holds = λ b loads r u structure are is equilibrium x reading. step _ (holds b loads r u structure are is equilibrium x reading)
actions-weaker m (Occasional case sh percent) p P Q step holds = λ b loads r u structure are is equilibrium x reading. step _ (holds b loads r u structure are is equilibrium x reading)
actions-weaker m (Expansion case1 case2 sc sh cycles fm sus) p P Q step holds =
    λ b loads r u structure are is equilibrium c loads_too other v structure_too are_too is_too equilibrium_too x y reading reading_too.
    step _ (holds b loads r u structure are is equilibrium c loads_too other v structure_too are_too is_too equilibrium_too x y reading reading_too)

-- the numbers of a station under an action that lies in six intervals lie in its intervals
station-encloses : (f : List Ends) (acts : ℕ → Fraction) (s : StationData) (x : ExactStation) → EnclosesAction f acts → IsStationUnder acts s x → EnclosesStation f s x
station-encloses f acts s x within under = record {
  force = record {
    x = λ d. subst (Within _) (sym (under.force x_axis)) (within.force.x d);
    y = λ d. subst (Within _) (sym (under.force y_axis)) (within.force.y d);
    z = λ d. subst (Within _) (sym (under.force z_axis)) (within.force.z d);
  };
  moment = record {
    x = λ d. subst (Within _) (sym (under.moment x_axis)) (within.moment.x d);
    y = λ d. subst (Within _) (sym (under.moment y_axis)) (within.moment.y d);
    z = λ d. subst (Within _) (sym (under.moment z_axis)) (within.moment.z d);
  };
  tangent = under.tangent;
  normal = under.normal;
  area = under.area;
  modulus = under.modulus;
  bending = under.bending;
  ii = under.ii;
  io = under.io;
}

same-data : (s t : StationData) (r : Result StationData IvFault) → r ≡ Ok s → r ≡ Ok t → s ≡ t
same-data s t r p q = cc

stresses-lie : (m : Lists) (kind : CheckKind) (p : Place) (f : List Ends) (s : StationData) (e : Ends) →
    station_data_of m (is_some (pressure_in m kind p)) p ≡ Ok s →
    ((x : ExactStation) → EnclosesStation f s x →
    EnclosesStress (direct_stress x s.section (pressure_in m kind p)) (bending_stress_square x (is_some (pressure_in m kind p))) (torsion_stress x) e) →
    ActionsLieIn m kind p f → StressesLieIn m kind p e
stresses-lie m kind p f s e are encloses = actions-weaker m kind p (EnclosesAction f) (OfAction m kind p (λ a q t. EnclosesStress a q t e))
    (λ acts within t x is under.
    let same = same-data t s _ is are in
    subst (λ (w : StationData). EnclosesStress (direct_stress x w.section (pressure_in m kind p)) (bending_stress_square x (is_some (pressure_in m kind p))) (torsion_stress x) e) (sym same)
    (encloses x (station-encloses f acts s x within (subst (λ (w : StationData). IsStationUnder acts w x) same under))))

-- the same by a pressure and a wall that are those of the check
pub stresses-lie-by : (m : Lists) (kind : CheckKind) (p : Place) (f : List Ends) (s : StationData) (e : Ends) (pressure : Option ℤ) (reduced : Bool) →
    pressure ≡ pressure_in m kind p → reduced ≡ is_some pressure → station_data_of m reduced p ≡ Ok s →
    ((x : ExactStation) → EnclosesStation f s x → EnclosesStress (direct_stress x s.section pressure) (bending_stress_square x (is_some pressure)) (torsion_stress x) e) →
    ActionsLieIn m kind p f → StressesLieIn m kind p e
stresses-lie-by m kind p f s e pressure reduced is flag are encloses =
    stresses-lie m kind p f s e
    (subst (λ (r : Bool). station_data_of m r p ≡ Ok s) (flag ∙ ap (λ (o : Option ℤ). is_some o) is) are)
    (subst (λ (o : Option ℤ). (x : ExactStation) → EnclosesStation f s x →
    EnclosesStress (direct_stress x s.section o) (bending_stress_square x (is_some o)) (torsion_stress x) e) is encloses)
