-- The lines of nodes, restraints and cases, written one by one.
use Rattle.std.proofs.Common.{◌≡◌, ℕ, Bool, true, false, Option, Some, None, ◌+◌, ◌*◌, ◌^◌, ◌<◌, ◌≤◌, List, [], ◌∷◌, ◌++◌, length, get_or, take, drop, map, min, codes, ℤ, pos, arith, append_assoc, append-nil, length-drop, length-take-le, get_or-take, get_or-drop, refl, sym, ap, ◌∙◌}
use Rattle.std.proofs.lemmas.List.{take_min, drop_min, get_or-map}
use Rattle.std.proofs.lemmas.List.Concat.{flat_map-append}
use Rattle.std.proofs.lemmas.List.FromFn.{fill_by_all, get_or-map-range_with_len, length-map-range_with_len, map-range_with_len_more}
use Rattle.std.proofs.lemmas.List.Sums.{sum_by_more, sum_by_more_le}
use Rattle.std.proofs.lemmas.Option.{slice_get-get_or, slice_get_past}
use Rattle.std.proofs.lemmas.Bool.Decides.{nat_tests}
use Rattle.std.specs.Prelude.{nat_lt, slice_get, slice_index_or, if◌then◌else◌}
use Rattle.std.specs.List.{flat_map, sum_by}
use Rattle.lists.specs.Listed.{listed}
use Rattle.text_words.specs.Fields.{line}
use Rattle.model_types.specs.Lists.{Lists}
use Rattle.model_types.specs.declared.answers.Bounds.{Bounds}
use Rattle.model_types.specs.declared.answers.CaseAnswer.{CaseAnswer}
use Rattle.model_types.specs.declared.answers.CaseAnswer.TheVariants.{Certified, Uncertified}
use Rattle.model_types.specs.declared.answers.Cause.{Cause}
use Rattle.model_types.specs.declared.records.Case.{Case}
use Rattle.model_types.specs.declared.records.Node.{Node}
use Rattle.model_types.specs.declared.records.Restraint.{Restraint}
use Rattle.report.specs.Report.{answer_lines, bounds_at, bounds_line, candidate_lines, case_lines, guess_lines, guess_word, key_words, loads_before, load_count_of, no_state, node_bounds, node_key, node_lines, printed, restraint_bounds, restraint_key, restraint_lines, restraint_state, state_count_of, states_before, told_words, uncertified_words}
use Rattle.report.specs.Rows.{told_pair, told_pairs}
use Rattle.report.specs.Words.{spaced}
use Rattle.model_types.specs.MemberCounts.{restraint_member_count, restraint_state_count}
use Rattle.report.proofs.LineLemmas.{next_item, written}

-- one line more
pub line_more : (old out new : List ℕ) (row : ℕ → List (List ℕ)) (i : ℕ) → out ≡ old ++ flat_map line (listed i row) → new ≡ out ++ line (row i) → new ≡ old ++ flat_map line (listed (i + 1) row)
line_more old out new row i so_far step =
    let more : listed (i + 1) row ≡ listed i row ++ row i ∷ [] = map-range_with_len_more row 0 i i (omega arith) in
    rw (step, so_far, more) (simp (append_assoc, append-nil, flat_map-append))

-- two lists that are made place by place are the same where each place is
same_listed : {X : Type 0} (none : X) (n : ℕ) (f g : ℕ → X) → ((k : ℕ) → k < n → f k ≡ g k) → listed n f ≡ listed n g
same_listed none n f g same =
    fill_by_all g (listed n f) n none (length-map-range_with_len f 0 n) (λ k inside. get_or-map-range_with_len f 0 n k k none inside (omega arith) ∙ same k inside)

-- a place of a part of a list of bounds
part_at : (bounds row : List Bounds) (first count f : ℕ) → row ≡ take count (drop first bounds) → f < count → bounds_at row f ≡ bounds_at bounds (first + f)
part_at bounds row first count f is here =
    ap (λ (r : List Bounds). bounds_at r f) is
    ∙ get_or-take count (drop first bounds) f (record { lo = pos 0; hi = pos 0 }) here
    ∙ get_or-drop first bounds f (record { lo = pos 0; hi = pos 0 })

-- the state at a place of a part of a list of states
part_state : (states own : List Bool) (first count f : ℕ) (here : Bool) → own ≡ take count (drop first states) → first + count ≤ length states → nat_lt f count ≡ here
    → slice_get own f ≡ (if here then Some (slice_index_or states (first + f) false) else None)
part_state states own first count f true is inside here =
    let below : f < count = grind (arith, nat_tests) in
    let long = length-take-le count (drop first states) (omega (arith, length-drop first states)) in
    rw is
    (slice_get-get_or (take count (drop first states)) f false (omega (arith, long, below))
    ∙ ap (λ (closed : Bool). Some closed) (get_or-take count (drop first states) f false below ∙ get_or-drop first states f false))
part_state states own first count f false is inside here =
    let past : count ≤ f = grind (arith, nat_tests) in
    let long = length-take-le count (drop first states) (omega (arith, length-drop first states)) in
    rw is (slice_get_past (take count (drop first states)) f (omega (arith, long, past)))

-- one pair more
pub pair_more : (old out named new : List ℕ) (at : ℕ → List (List ℕ)) (i : ℕ) (state pair : List (List ℕ)) → out ≡ old ++ spaced (flat_map (λ words. words) (listed i at))
    → named ≡ out ++ spaced state → new ≡ named ++ spaced pair → state ++ pair ≡ at i → new ≡ old ++ spaced (flat_map (λ words. words) (listed (i + 1) at))
pair_more old out named new at i state pair so_far first second parts =
    let more : listed (i + 1) at ≡ listed i at ++ at i ∷ [] = map-range_with_len_more at 0 i i (omega arith) in
    rw (second, first, so_far, more, ← parts) (simp (append_assoc, append-nil, flat_map-append))

-- the line of a part of a list of bounds, behind states
pub part_line : (n m : ℤ) (kind name : List ℕ) (names : List (List ℕ)) (i : ℕ) (states : List Bool) (state : ℕ → Option Bool) (bounds row : List Bounds) (first count : ℕ)
    → name ≡ get_or names i [] → row ≡ take count (drop first bounds) → first + count ≤ length bounds → ((f : ℕ) → f < count → slice_get states f ≡ state f)
    → kind ∷ name ∷ told_pairs n m states row ≡ key_words kind names i ++ flat_map (λ words. words) (listed count (λ f. told_words (state f) (printed n m (bounds_at bounds (first + f)))))
part_line n m kind name names i states state bounds row first count named is inside states_are =
    let long : length row ≡ count = ap (λ (r : List Bounds). length r) is ∙ length-take-le count (drop first bounds) (omega (arith, length-drop first bounds)) in
    let words = ap (λ (c : ℕ). listed c (told_pair n m states row)) long
    ∙ same_listed [] count (told_pair n m states row) (λ f. told_words (state f) (printed n m (bounds_at bounds (first + f))))
    (λ f here.
    ap (λ (s : Option Bool). told_words s (printed n m (bounds_at row f))) (states_are f here)
    ∙ ap (λ (b : Bounds). told_words (state f) (printed n m b)) (part_at bounds row first count f is here)) in
    rw named (ap (λ (lists : List (List (List ℕ))). kind ∷ get_or names i [] ∷ flat_map (λ words. words) lists) words)

-- the line of one more node
pub node_written : (old out new name : List ℕ) (nodes : List Node) (i : ℕ) (node : Node) (u row : List Bounds) → i < length nodes → node ≡ get_or nodes i node → name ≡ node.name
    → row ≡ take 6 (drop (6 * i) u) → 6 * i + 6 ≤ length u → out ≡ old ++ flat_map line (listed i (bounds_line (node_key nodes) (λ _. 6) no_state (node_bounds u)))
    → new ≡ out ++ line (codes "node" ∷ name ∷ told_pairs (pos (10 ^ 9)) (pos (2 ^ 56)) [] row) → new ≡ old ++ flat_map line (listed (i + 1) (bounds_line (node_key nodes) (λ _. 6) no_state (node_bounds u)))
node_written old out new name nodes i node u row inside is named row_is enough so_far step =
    let names = map (λ (r : Node). r.name) nodes in
    let own : name ≡ get_or names i [] = named ∙ ap (λ (r : Node). r.name) is ∙ sym (get_or-map (λ (r : Node). r.name) nodes i node [] inside) in
    line_more old out new (bounds_line (node_key nodes) (λ _. 6) no_state (node_bounds u)) i so_far
    (step ∙ ap (λ words. out ++ line words) (part_line (pos (10 ^ 9)) (pos (2 ^ 56)) (codes "node") name names i [] (no_state i) u row (6 * i) 6 own row_is enough (λ f here. refl)))

-- the candidate of one more node
pub guess_written : (whole out new name : List ℕ) (nodes : List Node) (i : ℕ) (node : Node) (u row rest : List ℤ) → i < length nodes → node ≡ get_or nodes i node → name ≡ node.name
    → row ≡ take (min 6 (length u)) u → rest ≡ drop (min 6 (length u)) u → out ++ flat_map line (guess_lines (drop i nodes) u) ≡ whole
    → new ≡ out ++ line (codes "guess" ∷ name ∷ map guess_word row) → new ++ flat_map line (guess_lines (drop (i + 1) nodes) rest) ≡ whole
guess_written whole out new name nodes i node u row rest inside is named row_is rest_is so_far step =
    let six : row ≡ take 6 u = row_is ∙ take_min 6 u in
    let others : rest ≡ drop 6 u = rest_is ∙ drop_min 6 u in
    let parts : flat_map line (guess_lines (node ∷ drop (i + 1) nodes) u) ≡ line (codes "guess" ∷ name ∷ map guess_word row) ++ flat_map line (guess_lines (drop (i + 1) nodes) rest) =
    rw (six, others, named) refl in
    written whole out new (line (codes "guess" ∷ name ∷ map guess_word row)) (flat_map line (guess_lines (drop i nodes) u)) (flat_map line (guess_lines (drop (i + 1) nodes) rest))
    (ap (λ left. flat_map line (guess_lines left u)) (next_item nodes i node inside is) ∙ parts) so_far step

-- how many a record counts for
count_at : (count : Restraint → ℕ) (restraints : List Restraint) (i : ℕ) (r : Restraint) → i < length restraints → r ≡ get_or restraints i r
    → get_or (map count restraints) i 0 ≡ count r
count_at count restraints i r inside is = get_or-map count restraints i r 0 inside ∙ ap count (sym is)

-- the line of one more restraint
pub restraint_written : (old out new name : List ℕ) (restraints : List Restraint) (i count state_count : ℕ) (r : Restraint) (loads row : List Bounds) (states own_states : List Bool)
    → i < length restraints → r ≡ get_or restraints i r → name ≡ r.name
    → count ≡ restraint_member_count r.kind → row ≡ take count (drop (loads_before restraints i) loads) → loads_before restraints i + count ≤ length loads
    → state_count ≡ restraint_state_count r.kind → own_states ≡ take state_count (drop (states_before restraints i) states) → states_before restraints i + state_count ≤ length states
    → out ≡ old ++ flat_map line (listed i (bounds_line (restraint_key restraints) (load_count_of restraints) (restraint_state restraints states) (restraint_bounds restraints loads)))
    → new ≡ out ++ line (codes "restraint" ∷ name ∷ told_pairs (pos 1000) (pos (2 ^ 40)) own_states row)
    → new ≡ old ++ flat_map line (listed (i + 1) (bounds_line (restraint_key restraints) (load_count_of restraints) (restraint_state restraints states) (restraint_bounds restraints loads)))
restraint_written old out new name restraints i count state_count r loads row states own_states inside is named counted row_is enough states_counted states_is states_enough so_far step =
    let names = map (λ (x : Restraint). x.name) restraints in
    let own : name ≡ get_or names i [] = named ∙ ap (λ (x : Restraint). x.name) is ∙ sym (get_or-map (λ (x : Restraint). x.name) restraints i r [] inside) in
    let many : load_count_of restraints i ≡ count = count_at (λ (x : Restraint). restraint_member_count x.kind) restraints i r inside is ∙ sym counted in
    let many_states : state_count_of restraints i ≡ state_count = count_at (λ (x : Restraint). restraint_state_count x.kind) restraints i r inside is ∙ sym states_counted in
    let at = λ (f : ℕ) (here : f < count). part_state states own_states (states_before restraints i) state_count f _ states_is states_enough refl
    ∙ ap (λ (k : ℕ). if nat_lt f k then Some (slice_index_or states (states_before restraints i + f) false) else None) (sym many_states) in
    line_more old out new (bounds_line (restraint_key restraints) (load_count_of restraints) (restraint_state restraints states) (restraint_bounds restraints loads)) i so_far
    (rw many
    (step
    ∙ ap (λ words. out ++ line words)
    (part_line (pos 1000) (pos (2 ^ 40)) (codes "restraint") name names i own_states (restraint_state restraints states i) loads row (loads_before restraints i) count own row_is enough at)))

-- how many there are before the next restraint, and that they are among all
pub count_more : (count : Restraint → ℕ) (restraints : List Restraint) (i : ℕ) (r : Restraint) → i < length restraints → r ≡ get_or restraints i r
    → (sum_by count (take (i + 1) restraints) ≡ sum_by count (take i restraints) + count r) × (sum_by count (take i restraints) + count r ≤ sum_by count restraints)
count_more count restraints i r inside is = (rw is (sum_by_more count restraints i r inside), rw is (sum_by_more_le count restraints i r inside))

-- the lines of a certified case
pub certified_written : (m : Lists) (c : Case) (answer : CaseAnswer) (u loads : List Bounds) (states : List Bool) (old begun said new name : List ℕ) (nodes : List Node) (restraints : List Restraint) (us ls : List Bounds) (ss : List Bool) → answer ≡ Certified u loads states
    → name ≡ c.name → nodes ≡ m.nodes → restraints ≡ m.restraints → us ≡ u → ls ≡ loads → ss ≡ states → begun ≡ old ++ line (codes "case" ∷ name ∷ codes "certified" ∷ [])
    → said ≡ begun ++ flat_map line (node_lines nodes us) → new ≡ said ++ flat_map line (restraint_lines restraints ls ss) → new ≡ old ++ flat_map line (answer_lines m c answer)
certified_written m c answer u loads states old begun said new name nodes restraints us ls ss is named node_list restraint_list u_is loads_is states_is begin first second =
    rw (is, second, first, begin, u_is, loads_is, states_is, node_list, restraint_list, named) (simp (append_assoc, flat_map-append))

-- the lines of a case that is not certified
pub uncertified_written : (m : Lists) (c : Case) (answer : CaseAnswer) (cause : Cause) (guess : List ℤ) (old begun new : List ℕ) (us : List ℤ) → answer ≡ Uncertified cause guess → us ≡ guess
    → begun ≡ old ++ line (uncertified_words m c cause) → new ≡ begun ++ flat_map line (candidate_lines m cause us) → new ≡ old ++ flat_map line (answer_lines m c answer)
uncertified_written m c answer cause guess old begun new us is us_is begin step = rw (is, step, begin, us_is) (append_assoc old _ _)

-- the lines of one more case
pub case_written : (m : Lists) (whole out new : List ℕ) (cases : List Case) (answers : List CaseAnswer) (i : ℕ) (c : Case) (answer : CaseAnswer) → i < length cases → c ≡ get_or cases i c → i < length answers → answer ≡ get_or answers i answer
    → out ++ flat_map line (case_lines m (drop i cases) (drop i answers)) ≡ whole → new ≡ out ++ flat_map line (answer_lines m c answer) → new ++ flat_map line (case_lines m (drop (i + 1) cases) (drop (i + 1) answers)) ≡ whole
case_written m whole out new cases answers i c answer inside is inside_too answer_is so_far step =
    let left = case_lines m (drop (i + 1) cases) (drop (i + 1) answers) in
    written whole out new (flat_map line (answer_lines m c answer)) (flat_map line (case_lines m (drop i cases) (drop i answers))) (flat_map line left)
    (rw (next_item cases i c inside is, next_item answers i answer inside_too answer_is) (flat_map-append line (answer_lines m c answer) left)) so_far step
