-- The members at a node, and what each holds against a load of the node.
use Rattle.std.proofs.Common.{◌≡◌, ◌≢◌, ◌*ℤ◌, ℕ, ◌/◌, ◌<◌, ◌≤◌, ◌⊎◌, inl, inr, List, length, get_or, slice_index, Ok, Err, ◌+◌, ◌*◌, refl, subst, ap, sym, ◌∙◌, arith, ℤ, pos}
use Rattle.std.proofs.lemmas.Grind.{get_or_default_zero}
use Rattle.std.proofs.lemmas.List.{get_or_read_under}
use Rattle.flex_interval.specs.Operations.{sub_of}
use Rattle.lists.specs.Results.{and_then}
use Rattle.std.specs.Prelude.{IsErr, Contains, AllPairs}
use Rattle.std.proofs.lemmas.Bool.Decides.{nat_tests}
use Rattle.int_laws.specs.Sums.{sum_below}
use Rattle.int_laws.proofs.Products.{zero-mul}
use Rattle.int_laws.proofs.SumLaws.{sum_below-reindexed}
use Rattle.member_set.specs.declared.members.Member.{Member}
use Rattle.member_set.specs.declared.members.Built.{Built}
use Rattle.member_set.specs.Members.{load_of, force_of, row_count, IsBuilt, member_of, members_at, built_nodes, no_member, nothing, shape_at}
use Rattle.member_set.specs.Interval.{Outcome, in_turn, pull_of, residual_term, residual_with, HaveForces}
use Rattle.member_set.proofs.Turns.{in_turn-next, in_turn-fault, in_turn-same, in_turn-some_fault}
use Rattle.flex_interval.specs.Ends.{Ends}
use Rattle.flex_interval.specs.declared.fault.IvFault.{IvFault}

pub numbers_in_range : (b : Built) → IsBuilt b → (node t : ℕ) → node < built_nodes b → t < length (members_at b node) →
    slice_index (members_at b node) t < length b.members
numbers_in_range b built node t node_inside inside =
    ((built.touching node (slice_index (members_at b node) t) node_inside).0 (t, inside, get_or_default_zero (members_at b node) t _ inside)).0

-- the nodes of a member have their six rows
pub rows_fit : (b : Built) → IsBuilt b → (k : ℕ) → k < length b.members → (6 * (member_of b k).n1 + 6 ≤ row_count b) × (6 * (member_of b k).n2 + 6 ≤ row_count b)
rows_fit b built k inside =
    let first = built.first_node k inside in
    let second = built.second_node k inside in
    (omega arith, omega arith)

-- what the n-th member at a row's node holds, by the member itself
pub residual_term-at : (b : Built) (force : ℕ → Outcome) (row n : ℕ) (numbers : List ℕ) (m : Member) →
    numbers ≡ members_at b (row / 6) → slice_index numbers n < length b.members → m ≡ get_or b.members (slice_index numbers n) m →
    residual_term b force row n ≡ and_then (force (slice_index numbers n)) (pull_of m row)
residual_term-at b force row n numbers m items inside is =
    rw (← items)
    (ap (λ (x : Member). and_then (force (slice_index numbers n)) (pull_of x row))
    (sym (get_or_read_under b.members (slice_index numbers n) (length b.members) m no_member is inside refl)))

-- one member more
pub residual-next : (b : Built) (load : Ends) (force : ℕ → Outcome) (row n : ℕ) (numbers : List ℕ) (m : Member) (f : Outcome) (rest : Ends) (after : Outcome) →
    numbers ≡ members_at b (row / 6) → slice_index numbers n < length b.members → m ≡ get_or b.members (slice_index numbers n) m →
    f ≡ force (slice_index numbers n) → in_turn sub_of load (residual_term b force row) n ≡ Ok rest →
    after ≡ and_then (and_then f (pull_of m row)) (sub_of rest) → in_turn sub_of load (residual_term b force row) (n + 1) ≡ after
residual-next b load force row n numbers m f rest after items inside is force_is before now =
    in_turn-next sub_of load (residual_term b force row) n rest before
    ∙ ap (λ (t : Outcome). and_then t (sub_of rest)) (residual_term-at b force row n numbers m items inside is ∙ rw force_is)
    ∙ sym now

-- a fault is that of the whole
pub residual-fault : (b : Built) (loads : List Ends) (force : ℕ → Outcome) (row n : ℕ) (numbers : List ℕ) (fault : IvFault) →
    numbers ≡ members_at b (row / 6) → n < length numbers → in_turn sub_of (load_of loads row) (residual_term b force row) (n + 1) ≡ Err fault →
    residual_with b loads force row ≡ Err fault
unfolding residual_with
residual-fault b loads force row n numbers fault items inside at =
    rw (← items) (in_turn-fault sub_of (load_of loads row) (residual_term b force row) (n + 1) (length numbers) fault (omega arith) at)

pub residual-whole : (b : Built) (loads : List Ends) (force : ℕ → Outcome) (row n : ℕ) (numbers : List ℕ) (rest : Ends) →
    numbers ≡ members_at b (row / 6) → n ≡ length numbers → in_turn sub_of (load_of loads row) (residual_term b force row) n ≡ Ok rest →
    residual_with b loads force row ≡ Ok rest
unfolding residual_with
residual-whole b loads force row n numbers rest items done at = rw (← items, ← done) at

abbrev pub ok_of : Ends → Outcome
ok_of e = Ok e

-- ---- what the members at a row's node hold is what all members hold
off_node : (m : Member) (row : ℕ) → m.n1 ≢ row / 6 → m.n2 ≢ row / 6 → shape_at m row ≡ nothing
off_node m row first second = grind (arith, nat_tests)

-- a number that is in a list has a place there
placed : (xs : List ℕ) (k : ℕ) → Contains xs k → (t : ℕ) × (t < length xs) × (slice_index xs t ≡ k)
placed xs k found = (found.0, found.1, sym (get_or_default_zero xs found.0 k found.1) ∙ found.2)

-- no number is twice in a rising list
rising_apart : (xs : List ℕ) → AllPairs (λ x y. x < y) xs → (s t : ℕ) → s < length xs → t < length xs → slice_index xs s ≡ slice_index xs t → s ≡ t
rising_apart xs rising s t s_inside t_inside same =
    let order : (s ≡ t) ⊎ ((s < t) ⊎ (t < s)) = search arith in
    elim order [
      | inl e ↦ e
      | inr apart ↦ elim apart [
        | inl less ↦ let up = rising s t 0 less t_inside in absurd (omega arith)
        | inr more ↦ let up = rising t s 0 more s_inside in absurd (omega arith)
      ]
    ]

pub resistance_by_node : (b : Built) → IsBuilt b → (row : ℕ) (weight force : ℕ → ℤ) → row / 6 < built_nodes b →
    ((k : ℕ) → k < length b.members → shape_at (member_of b k) row ≡ nothing → weight k ≡ pos 0) →
    sum_below (length (members_at b (row / 6))) (λ t. weight (slice_index (members_at b (row / 6)) t) *ℤ force (slice_index (members_at b (row / 6)) t))
    ≡ sum_below (length b.members) (λ k. weight k *ℤ force k)
resistance_by_node b built row weight force node_inside none =
    sum_below-reindexed (length (members_at b (row / 6))) (length b.members) (slice_index (members_at b (row / 6))) (λ k. weight k *ℤ force k)
    (λ t inside. numbers_in_range b built (row / 6) t node_inside inside)
    (rising_apart (members_at b (row / 6)) (built.rising (row / 6)))
    (λ k inside.
    let touch = (built.touching (row / 6) k node_inside).1 in
    let first : ((member_of b k).n1 ≡ row / 6) ⊎ ((member_of b k).n1 ≢ row / 6) = search arith in
    let second : ((member_of b k).n2 ≡ row / 6) ⊎ ((member_of b k).n2 ≢ row / 6) = search arith in
    elim first [
      | inl e ↦ inr (placed (members_at b (row / 6)) k (touch (inside, inl e)))
      | inr not_first ↦ elim second [
        | inl e ↦ inr (placed (members_at b (row / 6)) k (touch (inside, inr e)))
        | inr not_second ↦ inl (ap (λ (z : ℤ). z *ℤ force k) (none k inside (off_node (member_of b k) row not_first not_second)) ∙ zero-mul (force k))
      ]
    ])

-- ---- residuals by the list of all forces
pub residual_with-same : (b : Built) → IsBuilt b → (loads : List Ends) (f g : ℕ → Outcome) (row : ℕ) → row < row_count b →
    ((k : ℕ) → k < length b.members → f k ≡ g k) → residual_with b loads f row ≡ residual_with b loads g row
unfolding residual_with
residual_with-same b built loads f g row inside same =
    in_turn-same sub_of (load_of loads row) (residual_term b f row) (residual_term b g row) (length (members_at b (row / 6)))
    (λ t below. rw (same (slice_index (members_at b (row / 6)) t) (numbers_in_range b built (row / 6) t (omega arith) below)))

pub residual_from-forces : (b : Built) → IsBuilt b → (loads : List Ends) (force : ℕ → Outcome) (forces : List Ends) (row : ℕ) → row < row_count b →
    HaveForces b force forces → residual_with b loads (λ k. ok_of (force_of forces k)) row ≡ residual_with b loads force row
residual_from-forces b built loads force forces row inside have =
    residual_with-same b built loads (λ k. ok_of (force_of forces k)) force row inside (λ k below. sym (have.value k below))

-- where a member has no force, a row of its first node has no residual
pub residual-without_force : (b : Built) → IsBuilt b → (force : ℕ → Outcome) (k : ℕ) (fault : IvFault) → k < length b.members →
    force k ≡ Err fault → (loads : List Ends) → (row : ℕ) × (row < row_count b) × IsErr (residual_with b loads force row)
unfolding residual_with
residual-without_force b built force k fault inside none loads =
    let node = (member_of b k).n1 in
    let row = 6 * node in
    let node_inside : node < built_nodes b = built.first_node k inside in
    let node_is : row / 6 ≡ node = omega arith in
    let place = placed (members_at b (row / 6)) k (subst (λ (n : ℕ). Contains (members_at b n) k) (sym node_is) ((built.touching node k node_inside).1 (inside, inl refl))) in
    let here : residual_term b force row place.0 ≡ Err fault = rw (place.2, none) in
    (row, omega arith, in_turn-some_fault sub_of (load_of loads row) (residual_term b force row) (length (members_at b (row / 6))) place.0 fault place.1 here)
