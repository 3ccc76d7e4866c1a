-- What the lines of a report tell of every equilibrium: pairs of whole numbers between which each displacement and each load
-- of a restraint lies, in the unit of the report, and which contacts are open or closed; and what the lines of its checks tell. It
-- speaks of the text alone, of no bounds that were computed.
use Rattle.std.specs.Prelude.{◌≡◌, ℕ, ◌+◌, ◌*◌, ◌^◌, ◌<◌, nat_lt, if◌then◌else◌, ⊤, Bool, Option, Some, None, is_some, List, [], ◌∷◌, ◌++◌, length, codes, slice_get, slice_index_or, ℤ, pos}
use Rattle.std.specs.List.{flat_map}
use Rattle.structure.specs.Restraints.{first_of_restraint}
use Rattle.load_vectors.specs.Equilibria.{OfEquilibria}
use Rattle.flex_interval.specs.Fraction.{Fraction, Within, scaled}
use Rattle.int_laws.specs.Matrices.{Vector}
use Rattle.load_vectors.specs.Cases.{case_at}
use Rattle.member_set.specs.Realisation.{Realisation, IsInState, force_in, fraction, force_fraction}
use Rattle.model_types.specs.Fits.{ends_of}
use Rattle.model_types.specs.Lists.{Lists}
use Rattle.model_types.specs.declared.answers.Bounds.{Bounds}
use Rattle.model_types.specs.declared.answers.Cause.{Cause}
use Rattle.model_types.specs.declared.records.Check.{Check}
use Rattle.report.specs.Report.{Word, bounds_lines, candidate_lines, end_lines, head_lines, load_count_of, node_key, restraint_key, state_count_of, uncertified_words}
use Rattle.text_words.specs.Fields.{line}
use Rattle.pipeflex_top.specs.ToldChecks.{IsCheckText}

-- what a report tells of one kind of record: how many records there are, what stands first in the line of each, how many
-- pairs follow, the member whose contact state stands before a pair where one does, and the exact number of each pair in the
-- unit of the report
pub record Telling : Type 0 where
  pub count : ℕ
  pub key : ℕ → List Word
  pub pairs : ℕ → ℕ
  pub contact : ℕ → ℕ → Option ℕ
  pub number : Realisation → Vector → ℕ → ℕ → Fraction

-- the six displacements of each node, in nanometres and nanoradians
abbrev pub node_displacements : Lists → Telling
node_displacements m = record {
  count = length m.nodes;
  key = node_key m.nodes;
  pairs = λ n. 6;
  contact = λ n f. None;
  number = λ r exact n f. scaled (fraction (exact (6 * n + f)) r.stiffness.denominator) (pos (10 ^ 9)) (pos (2 ^ 56));
}

-- the loads of each restraint, in mN and mN m, each behind the state of its member where the restraint has contacts
abbrev pub restraint_loads : Lists → Telling
restraint_loads m = record {
  count = length m.restraints;
  key = restraint_key m.restraints;
  pairs = load_count_of m.restraints;
  contact = λ n f. if nat_lt f (state_count_of m.restraints n) then Some (first_of_restraint m n + f) else None;
  number = λ r exact n f. scaled (force_fraction r.stiffness.denominator (force_in r exact (first_of_restraint m n + f))) (pos 1000) (pos (2 ^ 40));
}

-- what is told of a certified case, in its order
abbrev pub tellings : Lists → List Telling
tellings m = node_displacements m ∷ restraint_loads m ∷ []

-- a state stands before exactly the pairs that have a contact
abbrev pub HaveStates : Telling → (ℕ → ℕ → Option Bool) → Type 0
HaveStates t state = (n f : ℕ) → n < t.count → f < t.pairs n → is_some (state n f) ≡ is_some (t.contact n f)

-- a contact is in the state that is told of it
abbrev pub IsInStateTold : Realisation → Vector → Option ℕ → Option Bool → Type 0
IsInStateTold r exact (Some member) (Some closed) = IsInState r exact member closed
IsInStateTold r exact _ _ = ⊤

-- in every equilibrium of every realisation under the loads of the case each number that is told of is within its pair, and
-- each contact in its state
abbrev pub ArePaired : Lists → ℕ → Telling → (ℕ → ℕ → Option Bool) → (ℕ → ℕ → Bounds) → Type 0
ArePaired m case t state pair =
    OfEquilibria m case (λ r exact. (n f : ℕ) → n < t.count → f < t.pairs n →
    Within (ends_of (pair n f)) (t.number r exact n f) × IsInStateTold r exact (t.contact n f) (state n f))

-- the lines tell all of these, one after another: a line for each record, with pairs that hold its numbers and the states of its
-- contacts before them
abbrev pub AreTold : Lists → ℕ → List Telling → List (List Word) → Type 0
AreTold m case [] lines = lines ≡ []
AreTold m case (t ∷ others) lines =
    (state : ℕ → ℕ → Option Bool) × (pair : ℕ → ℕ → Bounds) × (rest : List (List Word))
    × (lines ≡ bounds_lines t.count t.key t.pairs state pair ++ rest)
    × HaveStates t state × ArePaired m case t state pair × AreTold m case others rest

-- the lines of a case: that it is certified, and what is told of its equilibria; or that it is not, with a cause
pub data IsCaseText (m : Lists) (case : ℕ) : List (List Word) → Type 0 where
  certified : (lines : List (List Word)) → AreTold m case (tellings m) lines
      → IsCaseText m case ((codes "case" ∷ (case_at m case).name ∷ codes "certified" ∷ []) ∷ lines)
  uncertified : (cause : Cause) (guess : List ℤ)
      → IsCaseText m case (uncertified_words m (case_at m case) cause ∷ candidate_lines m cause guess)

-- the lines of a case say that it is not certified
abbrev pub IsUncertifiedText : Lists → ℕ → List (List Word) → Type 0
IsUncertifiedText m case lines =
    (cause : Cause) × (guess : List ℤ) × (lines ≡ uncertified_words m (case_at m case) cause ∷ candidate_lines m cause guess)

-- the bytes are a report of the model: its head, the lines of each case, the lines of each check, and the end
pub record IsReportText (m : Lists) (output : List ℕ) : Type 0 where
  pub cases : List (List (List Word))
  pub one_each : length cases ≡ length m.cases
  pub told : (case : ℕ) → case < length m.cases → IsCaseText m case (slice_index_or cases case [])
  pub checks : List (List (List Word))
  pub one_a_check : length checks ≡ length m.checks
  pub judged : (n : ℕ) (c : Check) → slice_get m.checks n ≡ Some c →
      IsCheckText m (λ case. IsUncertifiedText m case (slice_index_or cases case [])) c (slice_index_or checks n [])
  pub written : output ≡ flat_map line (head_lines m ++ flat_map (λ lines. lines) cases ++ flat_map (λ lines. lines) checks ++ end_lines)
