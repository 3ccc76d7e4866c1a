-- What the relations of the refinement say of its turns as a function of the system.
use Rattle.std.specs.Prelude.{nat_lt, not, is_err}
use Rattle.std.proofs.Common.{◌≡◌, ℕ, zero, suc, ◌+◌, ◌-◌, ◌*◌, ◌^◌, ◌<◌, ◌≤◌, inl, inr, refl, sym, ◌∙◌, ap, ap₂, subst, arith, Bool, true, false, Result, Ok, Err, All, List, length, ext_get_or, pow_pos, unsigned_abs, ℤ, pos, ◌+ℤ◌, ◌-ℤ◌, ◌*ℤ◌, ◌≤ℤ◌}
use Rattle.std.proofs.Math.Nat.{mul-le-mul_left}
use Rattle.std.proofs.Math.ListN.{length-replicate}
use Rattle.std.proofs.lemmas.Bool.{cases_lt, false≢true}
use Rattle.std.proofs.lemmas.List.{length-set, get_or-set_same, get_or-set_other}
use Rattle.std.proofs.lemmas.List.Elements.{All-get_or}
use Rattle.int_laws.specs.Sums.{sum_below}
use Rattle.int_laws.proofs.Sums.{int_sums}
use Rattle.int_laws.proofs.SumLaws.{sum_below-same, sum_below-le_more}
use Rattle.int_laws.specs.Division.{nearest_of}
use Rattle.int_laws.specs.Matrices.{Entries, Vector, absolute}
use Rattle.flex_interval.specs.Ends.{Ends}
use Rattle.flex_interval.specs.Operations.{middle_of}
use Rattle.flex_interval.specs.declared.fault.Wide.{Wide}
use Rattle.member_set.specs.Interval.{Outcome, found}
use Rattle.lists.specs.Listed.{listed}
use Rattle.lists.specs.Order.{IsOrder}
use Rattle.lists.specs.Results.{and_then}
use Rattle.lists.specs.Rows.{freedom_at, position_of}
use Rattle.lists.specs.Search.{any_below, greatest_to}
use Rattle.lists.proofs.RowLemmas.{position-below, row-of_position, row-below, position-of_row}
use Rattle.solve.specs.Numerators.{past}
use Rattle.solve.specs.Substitution.{at, forward_numerator, backward_numerator, IsForwardBelow, IsForward, ForwardBreaks, forward_size, IsBackwardFrom, IsBackward, BackwardBreaks}
use Rattle.solve.specs.Refinement.{Problem, size_of, problem_residual, AreMiddles, HasNoResidual, HasDigits, IsScaling, HasNoRoom, forward_side, backward_side, IsMoved, MovesTooFar, IsTurn, TurnBreaks, no_residual, no_room, forward_broad, backward_broad, too_far, LeadTo, IsTooWide}
use Rattle.solve.specs.Turns.{unless_wide, is_broad, forward_unknowns, forward_of, backward_unknowns, backward_of, middles_of, has_room, scale_of, moved_at, moved_by, turn_of, turns_of}
use Rattle.case_run.proofs.Searching.{int_le-yes, int_le-no, nat_le-yes, nat_le-no, nat_lt-yes, nat_lt-no, any_none, any_at, greatest-is, listed-is}

abbrev wide : {A : Type 0} → Result A Wide
wide = Err (record {})

-- ---- G y = r
length-forward : (n : ℕ) (g : Entries) (r : Vector) (j : ℕ) → length (forward_unknowns n g r j) ≡ n
length-forward n g r zero = length-replicate n (pos 0)
length-forward n g r (suc j) = length-set (forward_unknowns n g r j) j _ ∙ length-forward n g r j

forward_sum : (g : Entries) (y z : List ℤ) (j m : ℕ) (w : ℤ → ℤ) → ((k : ℕ) → k < m → at y k ≡ at z k) →
    sum_below m (λ k. w (g j k *ℤ at y k)) ≡ sum_below m (λ k. w (g j k *ℤ at z k))
forward_sum g y z j m w same =
    sum_below-same m (λ k. w (g j k *ℤ at y k)) (λ k. w (g j k *ℤ at z k)) (λ k below. ap (λ (u : ℤ). w (g j k *ℤ u)) (same k below))

-- the unknowns are those of any list that is solved below m
forward_agrees : (n m : ℕ) (g : Entries) (r : Vector) (y : List ℤ) → IsForwardBelow g r y m → (j k : ℕ) → j ≤ n → k < j → k < m →
    at (forward_unknowns n g r j) k ≡ at y k
forward_agrees n m g r y solved zero k le below known = absurd (omega arith)
forward_agrees n m g r y solved (suc j) k le below known =
    let before = forward_unknowns n g r j in
    elim (cases_lt k j) [
      | inl less ↦ get_or-set_other before j k _ (pos 0) (omega arith) ∙ forward_agrees n m g r y solved j k (omega arith) less known
      | inr not_less ↦
          let here : j ≡ k = omega arith in
          let inside : j < length before = omega (arith, length-forward n g r j) in
          let sum = forward_sum g before y j j (λ x. x) (λ i l. forward_agrees n m g r y solved j i (omega arith) l (omega arith)) in
          let value = ap (λ (u : ℤ). nearest_of (r j -ℤ u) (g j j)) sum in
          subst (λ (i : ℕ). at (forward_unknowns n g r (suc j)) i ≡ at y i) here
          (get_or-set_same before j _ (pos 0) inside ∙ value ∙ sym ((solved j (omega arith)).value))
    ]

forward_is : (n : ℕ) (g : Entries) (r : Vector) (y : List ℤ) → IsForward n g r y → forward_unknowns n g r n ≡ y
forward_is n g r y solved =
    let size = length-forward n g r n in
    ext_get_or (pos 0) (forward_unknowns n g r n) y (size ∙ sym solved.one_each)
    (λ k below. forward_agrees n n g r y solved.solved n k (omega arith) (omega (arith, size)) (omega (arith, size)))

pub forward_given : (n : ℕ) (g : Entries) (r : Vector) (y : List ℤ) → IsForward n g r y → forward_of n g r ≡ Ok y
forward_given n g r y solved =
    rw (forward_is n g r y solved)
    (ap (λ (t : Bool). unless_wide t y) (any_none n (λ j. is_broad (forward_numerator g r y j)) (λ j below. int_le-no _ _ (solved.solved j below).narrow)))

pub forward_broken : (n : ℕ) (g : Entries) (r : Vector) → ForwardBreaks n g r → forward_of n g r ≡ wide
forward_broken n g r breaks =
    let y = forward_unknowns n g r n in
    let k = breaks.known in
    let p = breaks.position in
    let before = breaks.not_past in
    let inside = breaks.inside in
    let same : (i : ℕ) → i < k → at y i ≡ at breaks.y i = λ i l. forward_agrees n k g r breaks.y breaks.solved_before n i (omega arith) (omega arith) l in
    let sum = forward_sum g y breaks.y p k absolute same in
    let size : forward_size g r y k p ≡ forward_size g r breaks.y k p = ap (λ (u : ℤ). absolute (r p) +ℤ u) sum in
    let more = sum_below-le_more k p (λ i. absolute (g p i *ℤ at y i)) before (λ i l. omega (arith, int_sums)) in
    let broad : pos (2 ^ 126) ≤ℤ forward_size g r y k p = rw size breaks.broad in
    let whole : pos (2 ^ 126) ≤ℤ (forward_numerator g r y p).size = omega (arith, int_sums, more, broad) in
    ap (λ (t : Bool). unless_wide t y) (any_at n (λ j. is_broad (forward_numerator g r y j)) p inside (int_le-yes _ _ whole))

-- ---- G^T z = s
length-backward : (n : ℕ) (g : Entries) (s : Vector) (j : ℕ) → length (backward_unknowns n g s j) ≡ n
length-backward n g s zero = length-replicate n (pos 0)
length-backward n g s (suc j) = length-set (backward_unknowns n g s j) (n - suc j) _ ∙ length-backward n g s j

past_same : (k i : ℕ) (u v : ℤ) → (k < i → u ≡ v) → past k i u ≡ past k i v
past_same k i u v same =
    elim (cases_lt k i) [
      | inl after ↦ ap (λ (z : ℤ). past k i z) (same after)
      | inr not_past ↦ rw (nat_lt-no k i not_past) refl
    ]

backward_sum : (n : ℕ) (g : Entries) (y z : List ℤ) (k : ℕ) (w : ℤ → ℤ) → ((i : ℕ) → k < i → i < n → at y i ≡ at z i) →
    sum_below n (λ i. past k i (w (g i k *ℤ at y i))) ≡ sum_below n (λ i. past k i (w (g i k *ℤ at z i)))
backward_sum n g y z k w same =
    sum_below-same n (λ i. past k i (w (g i k *ℤ at y i))) (λ i. past k i (w (g i k *ℤ at z i)))
    (λ i below. past_same k i _ _ (λ after. ap (λ (u : ℤ). w (g i k *ℤ u)) (same i after below)))

-- the unknowns are those of any list that is solved from j on
backward_agrees : (n j : ℕ) (g : Entries) (s : Vector) (z : List ℤ) → IsBackwardFrom n g s z j → (m k : ℕ) → m ≤ n → n ≤ k + m → j ≤ k → k < n →
    at (backward_unknowns n g s m) k ≡ at z k
backward_agrees n j g s z solved zero k le reached known inside = absurd (omega arith)
backward_agrees n j g s z solved (suc m) k le reached known inside =
    let before = backward_unknowns n g s m in
    elim (cases_lt (n - suc m) k) [
      | inl more ↦ get_or-set_other before (n - suc m) k _ (pos 0) (omega arith) ∙ backward_agrees n j g s z solved m k (omega arith) (omega arith) known inside
      | inr not_more ↦
          let last = n - suc m in
          let here : last ≡ k = omega arith in
          let sum = backward_sum n g before z last (λ x. x) (λ i after below. backward_agrees n j g s z solved m i (omega arith) (omega arith) (omega arith) below) in
          let value = ap (λ (u : ℤ). nearest_of (s last -ℤ u) (g last last)) sum in
          subst (λ (i : ℕ). at (backward_unknowns n g s (suc m)) i ≡ at z i) here
          (get_or-set_same before last _ (pos 0) (omega (arith, length-backward n g s m)) ∙ value ∙ sym ((solved last (omega arith) (omega arith)).value))
    ]

backward_is : (n : ℕ) (g : Entries) (s : Vector) (z : List ℤ) → IsBackward n g s z → backward_unknowns n g s n ≡ z
backward_is n g s z solved =
    let size = length-backward n g s n in
    ext_get_or (pos 0) (backward_unknowns n g s n) z (size ∙ sym solved.one_each)
    (λ k below. backward_agrees n 0 g s z solved.solved n k (omega arith) (omega arith) (omega arith) (omega (arith, size)))

pub backward_given : (n : ℕ) (g : Entries) (s : Vector) (z : List ℤ) → IsBackward n g s z → backward_of n g s ≡ Ok z
backward_given n g s z solved =
    rw (backward_is n g s z solved)
    (ap (λ (t : Bool). unless_wide t z)
    (any_none n (λ j. is_broad (backward_numerator n g s z j)) (λ j below. int_le-no _ _ (solved.solved j (omega arith) below).narrow)))

pub backward_broken : (n : ℕ) (g : Entries) (s : Vector) → BackwardBreaks n g s → backward_of n g s ≡ wide
backward_broken n g s breaks =
    let z = backward_unknowns n g s n in
    let p = breaks.position in
    let same : (i : ℕ) → p < i → i < n → at z i ≡ at breaks.z i =
    λ i after below. backward_agrees n (p + 1) g s breaks.z breaks.solved_after n i (omega arith) (omega arith) (omega arith) below in
    let sum = backward_sum n g z breaks.z p absolute same in
    let size = ap (λ (u : ℤ). absolute (s p) +ℤ u) sum in
    let broad : pos (2 ^ 126) ≤ℤ (backward_numerator n g s z p).size = rw size breaks.broad in
    ap (λ (t : Bool). unless_wide t z) (any_at n (λ j. is_broad (backward_numerator n g s z j)) p breaks.inside (int_le-yes _ _ broad))

-- ---- the steps of a turn
found_there : (o : Outcome) (e : Ends) → o ≡ Ok e → is_err o ≡ false
found_there o e is = ap (λ (x : Outcome). is_err x) is

middles_given : (p : Problem) (u r : List ℤ) → AreMiddles (size_of p) (problem_residual p u) r → middles_of p u ≡ Ok r
middles_given p u r are =
    let there : any_below (size_of p) (λ row. is_err (problem_residual p u row)) ≡ false =
    any_none (size_of p) _ (λ row below. let one = are.middle row below in found_there _ one.interval one.found) in
    let list = listed-is (pos 0) r (size_of p) (λ row. middle_of (found (problem_residual p u row))) are.one_each
    (λ row below. let one = are.middle row below in one.middle ∙ sym (ap (λ (o : Outcome). middle_of (found o)) one.found)) in
    ap₂ (λ (t : Bool) (x : List ℤ). unless_wide t x) there (sym list)

middles_broken : (p : Problem) (u : List ℤ) → HasNoResidual (size_of p) (problem_residual p u) → middles_of p u ≡ wide
middles_broken p u none =
    ap (λ (t : Bool). unless_wide t (listed (size_of p) (λ row. middle_of (found (problem_residual p u row)))))
    (any_at (size_of p) _ none.row none.inside none.none)

room-yes : (r : List ℤ) (d : ℕ) → HasDigits r d → has_room r d ≡ true
room-yes r d room = ap (λ (t : Bool). not t) (any_none (length r) _ (λ row below. nat_le-no (2 ^ 106) _ (room row below)))

room-less : (r : List ℤ) (d : ℕ) → HasDigits r d → HasDigits r 0
room-less r d room = λ i below.
    let least : 1 ≤ 2 ^ d = pow_pos d in
    let more = mul-le-mul_left (unsigned_abs (at r i)) least in
    omega (arith, more, room i below)

digits_of-no : (r : List ℤ) (d : ℕ) → (HasDigits r d → ⊥) → has_room r d ≡ false
digits_of-no r d none = decided (has_room r d) refl
  where
    decided : (t : Bool) → has_room r d ≡ t → has_room r d ≡ false
    decided false is = is
    decided true is = absurd (none (λ i below. elim (cases_lt (unsigned_abs (at r i) * 2 ^ d) (2 ^ 106)) [
      | inl small ↦ small
      | inr large ↦
          let none_there : has_room r d ≡ false = ap (λ (t : Bool). not t) (any_at (length r) _ i below (nat_le-yes (2 ^ 106) _ large)) in
          absurd (false≢true (sym none_there ∙ is))
    ]))

scale_given : (r : List ℤ) (d : ℕ) → IsScaling r d → scale_of r ≡ Ok d
scale_given r d scale =
    let some = room-yes r 0 (room-less r d scale.room) in
    let most = greatest-is 56 (has_room r) d scale.at_most (room-yes r d scale.room)
    (λ e past le. digits_of-no r e (λ room. omega (arith, scale.greatest e le room))) in
    ap₂ (λ (t : Bool) (n : ℕ). unless_wide (not t) n) some most

scale_broken : (r : List ℤ) → HasNoRoom r → scale_of r ≡ wide
scale_broken r none =
    let large : 2 ^ 106 ≤ unsigned_abs (at r none.row) * 2 ^ 0 = omega (arith, none.large) in
    let no_room_there : has_room r 0 ≡ false = ap (λ (t : Bool). not t) (any_at (length r) _ none.row none.inside (nat_le-yes (2 ^ 106) _ large)) in
    ap (λ (t : Bool). unless_wide (not t) (greatest_to 56 (has_room r))) no_room_there

moved-at : (p : Problem) (u z v : List ℤ) (row : ℕ) → IsOrder p.order → 6 * length p.order ≡ size_of p → IsMoved (size_of p) p.order u z v → row < size_of p →
    at v row ≡ moved_at p u z row
moved-at p u z v row ordered size moved below =
    let inside : row < 6 * length p.order = omega (arith, size) in
    let place = position-below p.order row ordered inside in
    let back = row-of_position p.order row ordered inside in
    rw back at (moved.sum (position_of p.order row) (omega (arith, size, place)))

moved_given : (p : Problem) (u z v : List ℤ) → IsOrder p.order → 6 * length p.order ≡ size_of p → IsMoved (size_of p) p.order u z v →
    All (λ x. unsigned_abs x ≤ 2 ^ 60) v → moved_by p u z ≡ Ok v
moved_given p u z v ordered size moved moderate =
    let each : (row : ℕ) → row < size_of p → at v row ≡ moved_at p u z row = λ row below. moved-at p u z v row ordered size moved below in
    let none : any_below (size_of p) (λ row. nat_lt (2 ^ 60) (unsigned_abs (moved_at p u z row))) ≡ false =
    any_none (size_of p) _
    (λ row below.
    let small = All-get_or (λ (x : ℤ). unsigned_abs x ≤ 2 ^ 60) v row (pos 0) (omega (arith, moved.one_each)) moderate in
    nat_lt-no (2 ^ 60) _ (rw (each row below) at small)) in
    ap₂ (λ (t : Bool) (x : List ℤ). unless_wide t x) none (sym (listed-is (pos 0) v (size_of p) (moved_at p u z) moved.one_each each))

moved_broken : (p : Problem) (u z : List ℤ) → IsOrder p.order → 6 * length p.order ≡ size_of p → MovesTooFar (size_of p) p.order u z → moved_by p u z ≡ wide
moved_broken p u z ordered size far =
    let j = far.position in
    let inside : j < 6 * length p.order = omega (arith, size, far.inside) in
    let below = row-below p.order j ordered inside in
    let back = position-of_row p.order j ordered inside in
    let passes : 2 ^ 60 < unsigned_abs (moved_at p u z (freedom_at p.order j)) = rw back far.passes in
    ap (λ (t : Bool). unless_wide t (listed (size_of p) (moved_at p u z))) (any_at (size_of p) _ (freedom_at p.order j) (omega (arith, size, below)) (nat_lt-yes (2 ^ 60) _ passes))

-- ---- a turn

-- the problem's order is one of its nodes
pub record IsOrdered (p : Problem) : Type 0 where
  pub ordered : IsOrder p.order
  pub size : 6 * length p.order ≡ size_of p

-- the steps of a turn from some step on
abbrev moves : Problem → List ℤ → List ℤ → Result (List ℤ) Wide
moves p u z = moved_by p u z

abbrev from_forward : Problem → List ℤ → ℕ → Result (List ℤ) Wide → Result (List ℤ) Wide
from_forward p u digits o = and_then o (λ y. and_then (backward_of (size_of p) p.factor (backward_side y digits)) (moved_by p u))

abbrev from_scale : Problem → List ℤ → List ℤ → Result ℕ Wide → Result (List ℤ) Wide
from_scale p u r o = and_then o (λ digits. from_forward p u digits (forward_of (size_of p) p.factor (forward_side p.order r digits)))

abbrev from_middles : Problem → List ℤ → Result (List ℤ) Wide → Result (List ℤ) Wide
from_middles p u o = and_then o (λ r. from_scale p u r (scale_of r))

abbrev from_backward : Problem → List ℤ → Result (List ℤ) Wide → Result (List ℤ) Wide
from_backward p u o = and_then o (moved_by p u)

turn_given : (p : Problem) (u v : List ℤ) → IsOrdered p → IsTurn p u v → turn_of p u ≡ Ok v
turn_given p u v ok t =
    ap (from_middles p u) (middles_given p u t.r t.middles)
    ∙ ap (from_scale p u t.r) (scale_given t.r t.digits t.scale)
    ∙ ap (from_forward p u t.digits) (forward_given (size_of p) p.factor _ t.y t.forward)
    ∙ ap (from_backward p u) (backward_given (size_of p) p.factor _ t.z t.backward)
    ∙ moved_given p u t.z v ok.ordered ok.size t.moved t.moderate

turn_broken : (p : Problem) (u : List ℤ) → IsOrdered p → TurnBreaks p u → turn_of p u ≡ wide
turn_broken p u ok (no_residual none) = ap (from_middles p u) (middles_broken p u none)
turn_broken p u ok (no_room r middles none) = ap (from_middles p u) (middles_given p u r middles) ∙ ap (from_scale p u r) (scale_broken r none)
turn_broken p u ok (forward_broad r digits middles scale breaks) =
    ap (from_middles p u) (middles_given p u r middles)
    ∙ ap (from_scale p u r) (scale_given r digits scale)
    ∙ ap (from_forward p u digits) (forward_broken (size_of p) p.factor _ breaks)
turn_broken p u ok (backward_broad r digits y middles scale forward breaks) =
    ap (from_middles p u) (middles_given p u r middles)
    ∙ ap (from_scale p u r) (scale_given r digits scale)
    ∙ ap (from_forward p u digits) (forward_given (size_of p) p.factor _ y forward)
    ∙ ap (from_backward p u) (backward_broken (size_of p) p.factor _ breaks)
turn_broken p u ok (too_far r digits y z middles scale forward backward far) =
    ap (from_middles p u) (middles_given p u r middles)
    ∙ ap (from_scale p u r) (scale_given r digits scale)
    ∙ ap (from_forward p u digits) (forward_given (size_of p) p.factor _ y forward)
    ∙ ap (from_backward p u) (backward_given (size_of p) p.factor _ z backward)
    ∙ moved_broken p u z ok.ordered ok.size far

-- ---- the turns
pub turns_given : (p : Problem) (n : ℕ) (v : List ℤ) → IsOrdered p → LeadTo p n v → turns_of p n ≡ Ok v
turns_given p zero v ok lead = ap (λ (x : List ℤ). Ok x) (sym lead)
turns_given p (suc n) v ok lead =
    ap (λ (o : Result (List ℤ) Wide). and_then o (turn_of p)) (turns_given p n lead.0 ok lead.1) ∙ turn_given p lead.0 v ok lead.2

turns_stay : (p : Problem) (n m : ℕ) → turns_of p n ≡ wide → n ≤ m → turns_of p m ≡ wide
turns_stay p n zero broken le = (let same : n ≡ 0 = omega arith in subst (λ (k : ℕ). turns_of p k ≡ wide) same broken)
turns_stay p n (suc m) broken le =
    elim (cases_lt n (suc m)) [
      | inl less ↦ ap (λ (o : Result (List ℤ) Wide). and_then o (turn_of p)) (turns_stay p n m broken (omega arith))
      | inr not_less ↦ (let same : n ≡ suc m = omega arith in subst (λ (k : ℕ). turns_of p k ≡ wide) same broken)
    ]

pub turns_broken : (p : Problem) → IsOrdered p → IsTooWide p → turns_of p 8 ≡ wide
turns_broken p ok t =
    turns_stay p (suc t.turns) 8
    (ap (λ (o : Result (List ℤ) Wide). and_then o (turn_of p)) (turns_given p t.turns t.u ok t.reached) ∙ turn_broken p t.u ok t.breaks)
    (omega (arith, t.before))
