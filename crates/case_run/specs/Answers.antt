-- The answers of the cases of a model as a function of the model and the order of its nodes: certified bounds, or the first
-- reason, in order, why a case has none. No list of columns, kept factor or order of work stands in it.
use Rattle.std.specs.Prelude.{ℕ, List, [], length, map, drop, Result, Ok, Err, ℤ}
use Rattle.int_laws.specs.Matrices.{Entries}
use Rattle.lists.specs.Listed.{listed}
use Rattle.lists.specs.Results.{and_then, named, first_value}
use Rattle.member_set.specs.declared.members.Built.{Built}
use Rattle.member_set.specs.Members.{System, system}
use Rattle.model_types.specs.Lists.{Lists}
use Rattle.model_types.specs.declared.answers.CaseAnswer.{CaseAnswer}
use Rattle.model_types.specs.declared.answers.CaseAnswer.TheVariants.{Certified, Uncertified}
use Rattle.structure.specs.Structure.{structure_of}
use Rattle.load_vectors.specs.Loads.{loads_of}
use Rattle.member_set.specs.States.{under}
use Rattle.assembly.specs.Stiffness.{matrices_of}
use Rattle.certificate.specs.declared.bounds.Enclosure.{Enclosure}
use Rattle.certificate.specs.Checker.{test_by, margin_by}
use Rattle.certificate.specs.States.{Unbounded, too_wide, unsettled, states_around}
use Rattle.case_run.specs.Causes.{Plan}
use Rattle.case_run.specs.Certified.{shift_of, last_place}
use Rattle.model_types.specs.Fits.{bounds_of}
use Rattle.case_run.specs.Contacts.{starting_states, state_cause}
use Rattle.load_vectors.specs.Laws.{laws_of}
use Rattle.case_run.specs.Reasons.{Reason, element_reason, matrix_reason, margin_reason, load_reason, bounds_reason, factor_at}
use Rattle.case_run.specs.Trials.{trial_in, search_of}
use Rattle.structure.specs.Elements.{element_member_count}

-- ---- the whole model

-- the margin of the test by the factor at a shift
abbrev pub margin_at : Plan → Entries → Entries → ℤ → Result ℤ Reason
margin_at p middles radii shift =
    and_then (factor_at p middles shift) (λ factor. named margin_reason (margin_by (test_by middles radii p.order factor shift)))

-- the margin at the first shift that has one; where none has, the reason at the last
abbrev pub margin_of : Plan → Entries → Entries → Result ℤ Reason
margin_of p middles radii = first_value last_place (λ place. margin_at p middles radii (shift_of place))

-- what the cases of a model share: its structure, and a margin below which the stiffness of no realisation's linear members is
pub record Base : Type 0 where
  pub structure : Built
  pub lambda : ℤ

abbrev pub base : Built → ℤ → Base
base structure lambda = record { structure = structure; lambda = lambda }

abbrev pub base_of : Lists → Plan → Result Base Reason
base_of m p =
    and_then (named element_reason (structure_of m)) (λ b.
    and_then (named matrix_reason (matrices_of (under b []))) (λ matrices.
    and_then (margin_of p matrices.0 matrices.1) (λ lambda. Ok (base b lambda))))

-- ---- a case

-- why there are no bounds around displacements: a number leaves its limit, or a contact is on neither side of its gap
abbrev pub unbounded_reason : Lists → List ℤ → Unbounded → Reason
unbounded_reason m u too_wide = bounds_reason
unbounded_reason m u (unsettled number) = record { cause = state_cause m number; guess = u }

-- the bounds around the displacements at which the search for the contact states ends
abbrev pub bounds_in : Lists → Plan → System → ℤ → Result Enclosure Reason
bounds_in m p s lambda = and_then (search_of (trial_in p s) (starting_states m)) (λ u. named (unbounded_reason m u) (states_around s u lambda))

-- those by the laws and under the loads of a case
abbrev pub enclosure_in : Lists → Plan → ℕ → Base → Result Enclosure Reason
enclosure_in m p case shared =
    and_then (named load_reason (loads_of m case)) (λ loads. bounds_in m p (system shared.structure (laws_of m case) loads) shared.lambda)

-- bounds of each displacement, bounds of the force of each member from `first` on, and whether each contact is closed; or the
-- reason why there are none
abbrev pub answer_with : ℕ → Result Enclosure Reason → CaseAnswer
answer_with first (Ok e) = Certified (map bounds_of e.u) (map bounds_of (drop first e.force)) e.closed
answer_with first (Err reason) = Uncertified reason.cause reason.guess

-- the answer of a case
abbrev pub answer_of : Lists → Plan → ℕ → CaseAnswer
answer_of m p case = answer_with (element_member_count m) (and_then (base_of m p) (enclosure_in m p case))

-- the answers of all cases, in order
abbrev pub answers_of : Lists → Plan → List CaseAnswer
answers_of m p = listed (length m.cases) (answer_of m p)
