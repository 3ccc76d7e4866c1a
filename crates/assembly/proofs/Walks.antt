-- The sum of an entry over the members at either of its nodes: each is that over all members.
use Rattle.std.proofs.Common.{◌≡◌, ◌≢◌, ℕ, zero, suc, ◌/◌, ◌<◌, ◌≤◌, ◌⊎◌, inl, inr, Bool, true, false, refl, sym, subst, ◌∙◌, arith, List, length, slice_index, Ok, Err, ℤ, pos, ◌+ℤ◌, if◌then◌else◌}
use Rattle.std.specs.Prelude.{Contains, ◌&&◌}
use Rattle.std.proofs.lemmas.Grind.{get_or_default_zero}
use Rattle.std.proofs.lemmas.Bool.{false≢true}
use Rattle.std.proofs.lemmas.Bool.Decides.{nat_tests}
use Rattle.int_laws.proofs.Sums.{int_sums}
use Rattle.lists.specs.Results.{and_then}
use Rattle.lists.specs.Rising.{IsRising}
use Rattle.flex_interval.specs.Ends.{Ends}
use Rattle.flex_interval.specs.Operations.{ends, is_small, add_of}
use Rattle.flex_interval.specs.declared.fault.IvFault.TheVariants.{Wide}
use Rattle.member_set.specs.declared.members.Member.{Member}
use Rattle.member_set.specs.declared.members.Built.{Built}
use Rattle.member_set.specs.Members.{IsBuilt, Touches, touches, nothing, member_of, members_at, built_nodes, row_count}
use Rattle.member_set.specs.Interval.{Outcome, in_turn}
use Rattle.assembly.specs.Stiffness.{entry_term, entry_sum}
use Rattle.assembly.specs.Filling.{pair_entry, pair_term}
use Rattle.assembly.proofs.Whole.{not_of}

abbrev pub ok : Ends → Outcome
ok e = Ok e

-- ---- exactly 0 added to a sum

-- the ends of a sum are small
abbrev IsSmall : Ends → Type 0
IsSmall e = (is_small e.lo ≡ true) × (is_small e.hi ≡ true)

small_by : (s t : Bool) (lo hi : ℤ) (e : Ends) → is_small lo ≡ s → is_small hi ≡ t →
    and_then (if s then Ok lo else Err Wide) (λ l. and_then (if t then Ok hi else Err Wide) (λ h. Ok (ends l h))) ≡ Ok e → IsSmall e
small_by true true lo hi e low high is =
    let same : ends lo hi ≡ e = cc in
    subst (λ (z : Ends). IsSmall z) same (low, high)
small_by true false lo hi e low high is = absurd (cc)
small_by false t lo hi e low high is = absurd (cc)

small_sum : (x y e : Ends) → add_of x y ≡ Ok e → IsSmall e
unfolding add_of
small_sum x y e is = small_by (is_small (x.lo +ℤ y.lo)) (is_small (x.hi +ℤ y.hi)) (x.lo +ℤ y.lo) (x.hi +ℤ y.hi) e refl refl is

nothing_added : (x : Ends) → IsSmall x → add_of x nothing ≡ Ok x
unfolding add_of
nothing_added x small =
    let lo : x.lo +ℤ pos 0 ≡ x.lo = omega (arith, int_sums) in
    let hi : x.hi +ℤ pos 0 ≡ x.hi = omega (arith, int_sums) in
    rw (lo, hi, small.0, small.1) refl

-- an answer of two steps has one of the first
pub first_of : (o : Outcome) (next : Ends → Outcome) (e : Ends) → and_then o next ≡ Ok e → (x : Ends) × (o ≡ Ok x) × (next x ≡ Ok e)
first_of (Ok x) next e is = (x, refl, is)
first_of (Err f) next e is = absurd (cc)

turns_small : (term : ℕ → Outcome) (n : ℕ) (e : Ends) → in_turn add_of nothing term n ≡ Ok e → IsSmall e
turns_small term zero e is =
    let same : nothing ≡ e = cc in
    subst (λ (z : Ends). IsSmall z) same (refl, refl)
turns_small term (suc n) e is =
    let before = first_of (in_turn add_of nothing term n) (λ total. and_then (term n) (λ x. add_of total x)) e is in
    let here = first_of (term n) (λ x. add_of before.0 x) e before.2 in
    small_sum before.0 here.0 e here.2

-- a last term of 0 changes nothing
nothing_last : (term : ℕ → Outcome) (n : ℕ) → term n ≡ Ok nothing → in_turn add_of nothing term (suc n) ≡ in_turn add_of nothing term n
nothing_last term n none = at (in_turn add_of nothing term n) refl
  where
    at : (o : Outcome) → in_turn add_of nothing term n ≡ o → and_then o (λ total. and_then (term n) (λ e. add_of total e)) ≡ o
    at (Ok x) is = rw none (nothing_added x (turns_small term n x is))
    at (Err f) is = refl

turns_same : (f g : ℕ → Outcome) (n : ℕ) → ((t : ℕ) → t < n → f t ≡ g t) → in_turn add_of nothing f n ≡ in_turn add_of nothing g n
turns_same f g zero same = refl
turns_same f g (suc n) same = rw (turns_same f g n (λ t below. same t (omega arith)), same n (omega arith)) refl

-- ---- a sum over a rising list

-- a number that is in a list has a place there
pub placed : (xs : List ℕ) (k : ℕ) → Contains xs k → (t : ℕ) × (t < length xs) × (slice_index xs t ≡ k)
placed xs k found = (found.0, found.1, sym (get_or_default_zero xs found.0 k found.1) ∙ found.2)

-- the list's first m numbers are those below n
record Splits (xs : List ℕ) (n m : ℕ) : Type 0 where
  pub few : m ≤ length xs
  pub below : (t : ℕ) → t < m → slice_index xs t < n
  pub past : (t : ℕ) → m ≤ t → t < length xs → n ≤ slice_index xs t

-- a number is listed, or gives exactly 0
abbrev Counts : List ℕ → (ℕ → Outcome) → ℕ → Type 0
Counts xs f k = Contains xs k ⊎ (f k ≡ Ok nothing)

-- where n isn't among the list's first m numbers it isn't listed
unlisted : (xs : List ℕ) (f : ℕ → Outcome) (n m : ℕ) → Splits xs (suc n) m → ((t : ℕ) → t < m → slice_index xs t < n) → Counts xs f n → f n ≡ Ok nothing
unlisted xs f n m splits less (inr none) = none
unlisted xs f n m splits less (inl found) =
    let place = placed xs n found in
    let side : (place.0 < m) ⊎ (m ≤ place.0) = search arith in
    elim side [
      | inl low ↦ let under = less place.0 low in absurd (omega (arith, under, place.2))
      | inr high ↦ let over = splits.past place.0 high place.1 in absurd (omega (arith, over, place.2))
    ]

-- the sum over the numbers of a rising list is that over all numbers, where each other gives exactly 0
walk : (xs : List ℕ) → IsRising xs → (f : ℕ → Outcome) (n m : ℕ) → Splits xs n m → ((k : ℕ) → k < n → Counts xs f k) →
    in_turn add_of nothing (λ t. f (slice_index xs t)) m ≡ in_turn add_of nothing f n
walk xs rising f zero zero splits counts = refl
walk xs rising f zero (suc m) splits counts = let first = splits.below m (omega arith) in absurd (omega (arith, first))
walk xs rising f (suc n) zero splits counts =
    let all : (t : ℕ) → t < zero → slice_index xs t < n = λ t none. absurd (omega (arith, none)) in
    walk xs rising f n zero
    (record { few = splits.few; below = all; past = λ t here inside. (let up = splits.past t here inside in omega (arith, up)) })
    (λ k below. counts k (omega arith))
    ∙ sym (nothing_last f n (unlisted xs f n zero splits all (counts n (omega arith))))
walk xs rising f (suc n) (suc m) splits counts =
    let last = splits.below m (omega arith) in
    let few = splits.few in
    let before : (t : ℕ) → t < m → slice_index xs t < slice_index xs m = λ t below. rising t m 0 below (omega arith) in
    let side : (slice_index xs m ≡ n) ⊎ (slice_index xs m < n) = search arith in
    elim side [
      | inl here ↦
          let least : (t : ℕ) → m ≤ t → t < length xs → n ≤ slice_index xs t =
          λ t at inside. (let own : (t ≡ m) ⊎ (suc m ≤ t) = search arith in elim own [
            | inl e ↦ rw e (omega (arith, here))
            | inr later ↦ let up = splits.past t later inside in omega (arith, up)
          ]) in
          let same = walk xs rising f n m
          (record { few = omega arith; below = λ t below. (let up = before t below in omega (arith, up, here)); past = least })
          (λ k below. counts k (omega arith)) in
          rw (same, here) refl
      | inr less ↦
          let all : (t : ℕ) → t < suc m → slice_index xs t < n =
          λ t below. (let own : (t ≡ m) ⊎ (t < m) = search arith in elim own [
            | inl e ↦ rw e less
            | inr under ↦ let up = before t under in omega (arith, up, less)
          ]) in
          walk xs rising f n (suc m)
          (record { few = few; below = all; past = λ t at inside. (let up = splits.past t at inside in omega (arith, up)) })
          (λ k below. counts k (omega arith))
          ∙ sym (nothing_last f n (unlisted xs f n (suc m) splits all (counts n (omega arith))))
    ]

-- ---- the sum of an entry

pub touches_of : (m : Member) (node : ℕ) → Touches m node → touches m node ≡ true
touches_of m node touch = grind (arith, nat_tests)

pub touch_or_not : (m : Member) (node : ℕ) → Touches m node ⊎ (touches m node ≡ false)
touch_or_not m node =
    let first : (m.n1 ≡ node) ⊎ (m.n1 ≢ node) = search arith in
    let second : (m.n2 ≡ node) ⊎ (m.n2 ≢ node) = search arith in
    elim first [
      | inl e ↦ inl (inl e)
      | inr not_first ↦ elim second [
        | inl e ↦ inl (inr e)
        | inr not_second ↦ inr (not_of m node not_first not_second)
      ]
    ]

pub tells_touch : (m : Member) (node : ℕ) → touches m node ≡ true → Touches m node
tells_touch m node is =
    elim (touch_or_not m node) [
      | inl touch ↦ touch
      | inr not ↦ absurd (false≢true (sym not ∙ is))
    ]

pub known : (b : Built) → IsBuilt b → (node t : ℕ) → node < built_nodes b → t < length (members_at b node) →
    (slice_index (members_at b node) t < length b.members) × Touches (member_of b (slice_index (members_at b node) t)) node
known b built node t node_inside inside =
    (built.touching node (slice_index (members_at b node) t) node_inside).0 (t, inside, get_or_default_zero (members_at b node) t _ inside)

and_no : (t : Bool) → (t && false) ≡ false
and_no true = refl
and_no false = refl

-- a member that misses one of the nodes gives nothing
pub pair_nothing : (b : Built) (row col node k : ℕ) → (node ≡ row / 6) ⊎ (node ≡ col / 6) → touches (member_of b k) node ≡ false → pair_entry b row col k ≡ Ok nothing
pair_nothing b row col node k (inl e) apart =
    let off : touches (member_of b k) (row / 6) ≡ false = rw e at apart in
    rw off refl
pair_nothing b row col node k (inr e) apart =
    let off : touches (member_of b k) (col / 6) ≡ false = rw e at apart in
    let none : (touches (member_of b k) (row / 6) && touches (member_of b k) (col / 6)) ≡ false = rw off (and_no (touches (member_of b k) (row / 6))) in
    rw none refl

node_sum : (b : Built) → IsBuilt b → (row col node : ℕ) → node < built_nodes b → (node ≡ row / 6) ⊎ (node ≡ col / 6) →
    in_turn add_of nothing (pair_term b row col node) (length (members_at b node)) ≡ in_turn add_of nothing (pair_entry b row col) (length b.members)
node_sum b built row col node node_inside own =
    walk (members_at b node) (built.rising node) (pair_entry b row col) (length b.members) (length (members_at b node))
    (record {
      few = omega arith;
      below = λ t inside. (known b built node t node_inside inside).0;
      past = λ t past inside. absurd (omega arith);
    })
    (λ k inside. elim (touch_or_not (member_of b k) node) [
      | inl touch ↦ inl ((built.touching node k node_inside).1 (inside, touch))
      | inr apart ↦ inr (pair_nothing b row col node k own apart)
    ])

row_sum : (b : Built) → IsBuilt b → (row col : ℕ) → row / 6 < built_nodes b →
    in_turn add_of nothing (pair_term b row col (row / 6)) (length (members_at b (row / 6))) ≡ entry_sum b row col
unfolding entry_sum
row_sum b built row col node_inside =
    turns_same (pair_term b row col (row / 6)) (entry_term b row col) (length (members_at b (row / 6)))
    (λ t inside.
    let k = slice_index (members_at b (row / 6)) t in
    let touch = touches_of (member_of b k) (row / 6) (known b built (row / 6) t node_inside inside).1 in
    rw touch refl)

-- the sum over the members at either node is that of the entry
pub walked_sum : (b : Built) → IsBuilt b → (row col walked : ℕ) → row < row_count b → col < row_count b → (walked ≡ row) ⊎ (walked ≡ col) →
    in_turn add_of nothing (pair_term b row col (walked / 6)) (length (members_at b (walked / 6))) ≡ entry_sum b row col
walked_sum b built row col walked row_inside col_inside (inl e) = rw e (row_sum b built row col (omega arith))
walked_sum b built row col walked row_inside col_inside (inr e) =
    rw e
    (node_sum b built row col (col / 6) (omega arith) (inr refl)
    ∙ sym (node_sum b built row col (row / 6) (omega arith) (inl refl))
    ∙ row_sum b built row col (omega arith))
