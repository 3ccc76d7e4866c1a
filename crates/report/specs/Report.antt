-- The report of an analysis: its lines but those of checks, word by word. Displacements are written in nanometres and nanoradians, loads in mN
-- and mN m, each pair rounded outwards.
use Rattle.std.specs.Prelude.{ℕ, ◌+◌, ◌*◌, ◌^◌, ◌==◌, nat_lt, Option, Some, None, List, [], ◌∷◌, ◌++◌, length, take, drop, map, codes, ℤ, pos, ◌*ℤ◌, if◌then◌else◌, Bool, false, true}
use Rattle.std.specs.Fmt.{decimal, signed_decimal}
use Rattle.std.specs.List.{flat_map, slice_index_or}
use Rattle.int_laws.specs.Division.{floor_of, ceil_of, nearest_of}
use Rattle.lists.specs.Listed.{listed}
use Rattle.model_types.specs.Lists.{Lists}
use Rattle.model_types.specs.declared.records.Node.{Node}
use Rattle.model_types.specs.declared.records.Case.{Case}
use Rattle.model_types.specs.declared.records.Restraint.{Restraint}
use Rattle.model_types.specs.MemberCounts.{restraint_member_count, restraints_member_count, restraint_state_count, restraints_state_count}
use Rattle.model_types.specs.declared.answers.Bounds.{Bounds}
use Rattle.model_types.specs.declared.answers.Cause.{Cause}
use Rattle.model_types.specs.declared.answers.Cause.TheVariants as causes
use Rattle.model_types.specs.declared.answers.CaseAnswer.{CaseAnswer}
use Rattle.model_types.specs.declared.answers.CaseAnswer.TheVariants.{Certified, Uncertified}

abbrev pub Word : Type 0
Word = List ℕ

-- ---- numbers

-- bounds in a unit that is m / n of theirs, rounded outwards
abbrev pub printed : ℤ → ℤ → Bounds → Bounds
printed n m b = record { lo = floor_of (b.lo *ℤ n) m; hi = ceil_of (b.hi *ℤ n) m }

-- the two numbers of a pair
abbrev pub bounds_words : Bounds → List Word
bounds_words b = signed_decimal b.lo ∷ signed_decimal b.hi ∷ []

-- the printed pair of bounds in a unit that is m / n of theirs
abbrev pub pair : ℤ → ℤ → Bounds → List Word
pair n m b = bounds_words (printed n m b)

-- a candidate's displacement, in nanometres or nanoradians, to the nearest
abbrev pub guess_word : ℤ → Word
guess_word u = signed_decimal (nearest_of (u *ℤ pos (10 ^ 9)) (pos (2 ^ 56)))

-- ---- a certified case

-- the bounds at a place of a list
abbrev pub bounds_at : List Bounds → ℕ → Bounds
bounds_at bounds place = slice_index_or bounds place (record { lo = pos 0; hi = pos 0 })

-- what stands first in the line of a record: the word of its kind, and its name
abbrev pub key_words : Word → List Word → ℕ → List Word
key_words kind names n = kind ∷ slice_index_or names n [] ∷ []

-- a contact state in a word
abbrev pub state_word : Bool → Word
state_word true = codes "closed"
state_word false = codes "open"

-- the word of the state that stands before a pair, where one does
abbrev pub state_words : Option Bool → List Word
state_words None = []
state_words (Some closed) = state_word closed ∷ []

-- a pair behind its state
abbrev pub told_words : Option Bool → Bounds → List Word
told_words state b = state_words state ++ bounds_words b

-- the line of a record: its key, and its pairs behind it, each behind its state
abbrev pub bounds_line : (ℕ → List Word) → (ℕ → ℕ) → (ℕ → ℕ → Option Bool) → (ℕ → ℕ → Bounds) → ℕ → List Word
bounds_line key pairs state pair n = key n ++ flat_map (λ words. words) (listed (pairs n) (λ f. told_words (state n f) (pair n f)))

-- a line for each record
abbrev pub bounds_lines : ℕ → (ℕ → List Word) → (ℕ → ℕ) → (ℕ → ℕ → Option Bool) → (ℕ → ℕ → Bounds) → List (List Word)
bounds_lines count key pairs state pair = listed count (bounds_line key pairs state pair)

-- no pair has a state
abbrev pub no_state : ℕ → ℕ → Option Bool
no_state n f = None

-- the bounds of displacement f of node n, in the unit of the report
abbrev pub node_bounds : List Bounds → ℕ → ℕ → Bounds
node_bounds u n f = printed (pos (10 ^ 9)) (pos (2 ^ 56)) (bounds_at u (6 * n + f))

abbrev pub node_key : List Node → ℕ → List Word
node_key nodes = key_words (codes "node") (map (λ r. r.name) nodes)

-- the lines of the nodes, each with the bounds of its six displacements
abbrev pub node_lines : List Node → List Bounds → List (List Word)
node_lines nodes u = bounds_lines (length nodes) (node_key nodes) (λ n. 6) no_state (node_bounds u)

-- how many loads restraint n has, and how many the restraints before it
abbrev pub load_count_of : List Restraint → ℕ → ℕ
load_count_of restraints n = slice_index_or (map (λ r. restraint_member_count r.kind) restraints) n 0

abbrev pub loads_before : List Restraint → ℕ → ℕ
loads_before restraints n = restraints_member_count (take n restraints)

-- the bounds of load f of restraint n, in the unit of the report
abbrev pub restraint_bounds : List Restraint → List Bounds → ℕ → ℕ → Bounds
restraint_bounds restraints loads n f = printed (pos 1000) (pos (2 ^ 40)) (bounds_at loads (loads_before restraints n + f))

-- how many states restraint n has, and how many the restraints before it
abbrev pub state_count_of : List Restraint → ℕ → ℕ
state_count_of restraints n = slice_index_or (map (λ r. restraint_state_count r.kind) restraints) n 0

abbrev pub states_before : List Restraint → ℕ → ℕ
states_before restraints n = restraints_state_count (take n restraints)

-- the state of load f of restraint n, where it has one
abbrev pub restraint_state : List Restraint → List Bool → ℕ → ℕ → Option Bool
restraint_state restraints states n f =
    if nat_lt f (state_count_of restraints n) then Some (slice_index_or states (states_before restraints n + f) false) else None

abbrev pub restraint_key : List Restraint → ℕ → List Word
restraint_key restraints = key_words (codes "restraint") (map (λ r. r.name) restraints)

-- the lines of the restraints, each with the states and the bounds of its loads
abbrev pub restraint_lines : List Restraint → List Bounds → List Bool → List (List Word)
restraint_lines restraints loads states =
    bounds_lines (length restraints) (restraint_key restraints) (load_count_of restraints) (restraint_state restraints states)
    (restraint_bounds restraints loads)

-- ---- an uncertified case

-- the name of a freedom
abbrev pub freedom_word : ℕ → Word
freedom_word freedom =
    if freedom == 0 then codes "ux" else if freedom == 1 then codes "uy" else if freedom == 2 then codes "uz" else
    if freedom == 3 then codes "rx" else if freedom == 4 then codes "ry" else codes "rz"

abbrev pub side_word : Bool → Word
side_word true = codes "minus"
side_word false = codes "plus"

abbrev pub node_name : Lists → ℕ → Word
node_name m n = slice_index_or (map (λ r. r.name) m.nodes) n []

abbrev pub element_name : Lists → ℕ → Word
element_name m n = slice_index_or (map (λ r. r.name) m.elements) n []

abbrev pub restraint_name : Lists → ℕ → Word
restraint_name m n = slice_index_or (map (λ r. r.name) m.restraints) n []

-- the words of a cause
abbrev pub cause_words : Lists → Cause → List Word
cause_words m (causes.WidthElement element) = codes "width" ∷ codes "element" ∷ element_name m element.0 ∷ []
cause_words m (causes.WidthMatrix node freedom) = codes "width" ∷ codes "matrix" ∷ node_name m node.0 ∷ freedom_word freedom ∷ []
cause_words m (causes.Pivot node freedom) = codes "pivot" ∷ node_name m node.0 ∷ freedom_word freedom ∷ []
cause_words m (causes.WidthFactor node) = codes "width" ∷ codes "factor" ∷ node_name m node.0 ∷ []
cause_words m (causes.Margin node freedom) = codes "margin" ∷ node_name m node.0 ∷ freedom_word freedom ∷ []
cause_words m (causes.WidthLoad node freedom) = codes "width" ∷ codes "load" ∷ node_name m node.0 ∷ freedom_word freedom ∷ []
cause_words m (causes.WidthSolve turn) = codes "width" ∷ codes "solve" ∷ decimal turn ∷ []
cause_words m causes.Turns = codes "turns" ∷ codes "200" ∷ []
cause_words m causes.WidthResidual = codes "width" ∷ codes "residual" ∷ []
cause_words m (causes.State restraint minus) = codes "state" ∷ restraint_name m restraint.0 ∷ side_word minus ∷ []

-- the line of a case that is not certified
abbrev pub uncertified_words : Lists → Case → Cause → List Word
uncertified_words m c cause = codes "case" ∷ c.name ∷ codes "uncertified" ∷ cause_words m cause

-- the lines of the nodes, each with the candidate's six displacements
abbrev pub guess_lines : List Node → List ℤ → List (List Word)
guess_lines [] u = []
guess_lines (node ∷ nodes) u = (codes "guess" ∷ node.name ∷ map guess_word (take 6 u)) ∷ guess_lines nodes (drop 6 u)

-- the candidate stands after a contact state that fails, and after no other cause
abbrev pub candidate_lines : Lists → Cause → List ℤ → List (List Word)
candidate_lines m (causes.State restraint minus) guess = guess_lines m.nodes guess
candidate_lines m _ guess = []

-- ---- the report

-- the lines of a case
abbrev pub answer_lines : Lists → Case → CaseAnswer → List (List Word)
answer_lines m c (Certified u loads states) =
    (codes "case" ∷ c.name ∷ codes "certified" ∷ []) ∷ node_lines m.nodes u ++ restraint_lines m.restraints loads states
answer_lines m c (Uncertified cause guess) =
    uncertified_words m c cause ∷ candidate_lines m cause guess

-- the lines of all cases
abbrev pub case_lines : Lists → List Case → List CaseAnswer → List (List Word)
case_lines m [] answers = []
case_lines m (c ∷ cases) [] = []
case_lines m (c ∷ cases) (answer ∷ answers) = answer_lines m c answer ++ case_lines m cases answers

-- how many records of each kind the model has
abbrev pub count_words : Lists → List Word
count_words m =
    codes "model" ∷ decimal (length m.nodes) ∷ decimal (length m.elements) ∷ decimal (length m.restraints)
    ∷ decimal (length m.cases) ∷ decimal (length m.checks) ∷ []

-- the two lines at its head: what it is, and the counts
abbrev pub head_lines : Lists → List (List Word)
head_lines m = (codes "pipeflex" ∷ codes "report" ∷ codes "1" ∷ []) ∷ count_words m ∷ []

abbrev pub end_lines : List (List Word)
end_lines = (codes "end" ∷ []) ∷ []
