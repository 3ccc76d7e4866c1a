-- The members of a structure under given states, one by one.
use Rattle.std.proofs.Common.{◌≡◌, ℕ, suc, ◌/◌, ◌<◌, ◌⊎◌, inl, inr, Bool, true, false, refl, sym, subst, ap, ◌∙◌, arith, List, length, slice_index, Ok, Err, IsErr, slice_set, get_or-set_same, get_or-set_other, if◌then◌else◌}
use Rattle.std.specs.Prelude.{◌+◌, ◌↔◌}
use Rattle.std.proofs.lemmas.Bool.{cases_eq}
use Rattle.std.proofs.lemmas.List.FromFn.{length-map-range_with_len, get_or-map-range_with_len}
use Rattle.lists.specs.Results.{and_then}
use Rattle.flex_interval.specs.Ends.{Ends}
use Rattle.flex_interval.specs.Operations.{add_of, mul_of}
use Rattle.flex_interval.specs.declared.fault.IvFault.{IvFault}
use Rattle.member_set.specs.declared.members.Member.{Member}
use Rattle.member_set.specs.declared.members.Built.{Built}
use Rattle.member_set.specs.Members.{IsBuilt, touches, nothing, no_member, shape_at, member_of, members_at, force_of, built_nodes}
use Rattle.member_set.specs.Interval.{Outcome, in_turn, FaultsStay}
use Rattle.member_set.specs.States.{is_included, absent, member_under, under}
use Rattle.sym_blocks.specs.Matrix.{Matrix}
use Rattle.assembly.specs.Stiffness.{HasPatternOf, AreJoined, entry_term, entry_sum, limited_entry, upper_entry}
use Rattle.assembly.specs.Filling.{scaled_of, pair_entry, IsScaled, ScalesFirst}
use Rattle.assembly.proofs.Walks.{ok, placed, known, touches_of, tells_touch, pair_nothing}

pub members_under : (b : Built) (closed : List Bool) → length (under b closed).members ≡ length b.members
members_under b closed = length-map-range_with_len (member_under b closed) 0 (length b.members)

pub member_under-at : (b : Built) (closed : List Bool) (k : ℕ) → k < length b.members → member_of (under b closed) k ≡ member_under b closed k
member_under-at b closed k inside = get_or-map-range_with_len (member_under b closed) 0 (length b.members) k k no_member inside (omega arith)

-- its stiffness is the member's, or nothing; its nodes and its shape are the member's
kappa_is : (t : Bool) (m : Member) → (if t then m else absent m).kappa ≡ (if t then m.kappa else nothing)
kappa_is true m = refl
kappa_is false m = refl

pub kappa_under : (b : Built) (closed : List Bool) (k : ℕ) → k < length b.members →
    (member_of (under b closed) k).kappa ≡ (if is_included b closed k then (member_of b k).kappa else nothing)
kappa_under b closed k inside = ap (λ (m : Member). m.kappa) (member_under-at b closed k inside) ∙ kappa_is (is_included b closed k) (member_of b k)

shape_is : (t : Bool) (m : Member) (row : ℕ) → shape_at (if t then m else absent m) row ≡ shape_at m row
shape_is true m row = refl
shape_is false m row = refl

pub shape_under : (b : Built) (closed : List Bool) (k row : ℕ) → k < length b.members → shape_at (member_of (under b closed) k) row ≡ shape_at (member_of b k) row
shape_under b closed k row inside = ap (λ (m : Member). shape_at m row) (member_under-at b closed k inside) ∙ shape_is (is_included b closed k) (member_of b k) row

touches_is : (t : Bool) (m : Member) (node : ℕ) → touches (if t then m else absent m) node ≡ touches m node
touches_is true m node = refl
touches_is false m node = refl

pub touches_under : (b : Built) (closed : List Bool) (k node : ℕ) → k < length b.members → touches (member_of (under b closed) k) node ≡ touches (member_of b k) node
touches_under b closed k node inside = ap (λ (m : Member). touches m node) (member_under-at b closed k inside) ∙ touches_is (is_included b closed k) (member_of b k) node

-- ---- a scaled row

-- a member that touches the row's node has its place
scaled_at : (b : Built) (closed : List Bool) → IsBuilt b → (row k : ℕ) (scaled : List Ends) → row / 6 < built_nodes b → IsScaled (under b closed) row scaled →
    k < length b.members → touches (member_of b k) (row / 6) ≡ true → scaled_of (under b closed) row k ≡ Ok (force_of scaled k)
scaled_at b closed built row k scaled node_inside are inside touch =
    let place = placed (members_at b (row / 6)) k ((built.touching (row / 6) k node_inside).1 (inside, tells_touch (member_of b k) (row / 6) touch)) in
    subst (λ (n : ℕ). scaled_of (under b closed) row n ≡ Ok (force_of scaled n)) place.2 (are.value place.0 place.1)

pub pair_both : (b : Built) (closed : List Bool) → IsBuilt b → (row col k : ℕ) (scaled : List Ends) → row / 6 < built_nodes b → IsScaled (under b closed) row scaled →
    k < length b.members → touches (member_of b k) (row / 6) ≡ true → touches (member_of b k) (col / 6) ≡ true →
    pair_entry (under b closed) row col k ≡ mul_of (force_of scaled k) (shape_at (member_of b k) col) 56
pair_both b closed built row col k scaled node_inside are inside first second =
    let one = touches_under b closed k (row / 6) inside ∙ first in
    let two = touches_under b closed k (col / 6) inside ∙ second in
    rw (one, two, scaled_at b closed built row k scaled node_inside are inside first, shape_under b closed k col inside) refl

pub pair_off_row : (b : Built) (closed : List Bool) (row col k : ℕ) → k < length b.members → touches (member_of b k) (row / 6) ≡ false →
    pair_entry (under b closed) row col k ≡ Ok nothing
pair_off_row b closed row col k inside off = pair_nothing (under b closed) row col (row / 6) k (inl refl) (touches_under b closed k (row / 6) inside ∙ off)

pub pair_off_col : (b : Built) (closed : List Bool) (row col k : ℕ) → k < length b.members → touches (member_of b k) (col / 6) ≡ false →
    pair_entry (under b closed) row col k ≡ Ok nothing
pair_off_col b closed row col k inside off = pair_nothing (under b closed) row col (col / 6) k (inr refl) (touches_under b closed k (col / 6) inside ∙ off)

-- one member more is scaled
pub scales-next : (b : Built) (row n : ℕ) (scaled : List Ends) (k : ℕ) (v : Ends) → k ≡ slice_index (members_at b (row / 6)) n → k < length scaled →
    scaled_of b row k ≡ Ok v → ScalesFirst b row n scaled → ScalesFirst b row (n + 1) (slice_set scaled k v)
scales-next b row n scaled k v is inside value before t below =
    let number = slice_index (members_at b (row / 6)) t in
    let own : number ≡ k → scaled_of b row number ≡ Ok (force_of (slice_set scaled k v) number) =
    λ e. subst (λ (i : ℕ). scaled_of b row i ≡ Ok (force_of (slice_set scaled k v) i)) (sym e) (value ∙ ap ok (sym (get_or-set_same scaled k v nothing inside))) in
    elim (cases_eq number k) [
      | inl e ↦ own e
      | inr apart ↦
          let side : (t < n) ⊎ (t ≡ n) = search arith in
          elim side [
            | inl less ↦ before t less ∙ ap ok (sym (get_or-set_other scaled k number v nothing apart))
            | inr last ↦ absurd (apart (ap (λ (i : ℕ). slice_index (members_at b (row / 6)) i) last ∙ sym is))
          ]
    ]

-- ---- a member without an enclosure

-- where a member at the row's node has none, the row's entry on the diagonal has none
pub wide_diagonal : FaultsStay → (b : Built) → IsBuilt b → (row t : ℕ) (fault : IvFault) → row / 6 < built_nodes b → t < length (members_at b (row / 6)) →
    scaled_of b row (slice_index (members_at b (row / 6)) t) ≡ Err fault → IsErr (upper_entry b row row)
unfolding entry_sum
wide_diagonal stays b built row t fault node_inside inside none = at (in_turn add_of nothing (entry_term b row row) t) refl
  where
    term : entry_term b row row t ≡ Err fault
    term =
        let touch = touches_of (member_of b (slice_index (members_at b (row / 6)) t)) (row / 6) (known b built (row / 6) t node_inside inside).1 in
        rw (touch, none) refl

    whole : (e : IvFault) → in_turn add_of nothing (entry_term b row row) (suc t) ≡ Err e → IsErr (and_then (in_turn add_of nothing (entry_term b row row) (length (members_at b (row / 6)))) limited_entry)
    whole e is = rw (stays add_of nothing (entry_term b row row) (suc t) (length (members_at b (row / 6))) e (omega arith) is) refl

    at : (o : Outcome) → in_turn add_of nothing (entry_term b row row) t ≡ o → IsErr (and_then (in_turn add_of nothing (entry_term b row row) (length (members_at b (row / 6)))) limited_entry)
    at (Ok x) is = whole fault (rw (is, term) refl)
    at (Err e) is = whole e (rw is refl)

-- ---- the pattern

nodes_is : (t : Bool) (m : Member) → ((if t then m else absent m).n1 ≡ m.n1) × ((if t then m else absent m).n2 ≡ m.n2)
nodes_is true m = (refl, refl)
nodes_is false m = (refl, refl)

nodes_under : (b : Built) (closed : List Bool) (k : ℕ) → k < length b.members →
    ((member_of (under b closed) k).n1 ≡ (member_of b k).n1) × ((member_of (under b closed) k).n2 ≡ (member_of b k).n2)
nodes_under b closed k inside = rw (member_under-at b closed k inside) (nodes_is (is_included b closed k) (member_of b k))

-- the same nodes are joined under all states
joined_under : (b : Built) (closed : List Bool) (n k : ℕ) → AreJoined b n k ↔ AreJoined (under b closed) n k
joined_under b closed n k = (
  λ joined. elim joined [
    | inl own ↦ inl own
    | inr by ↦
        let nodes = nodes_under b closed by.0 by.1 in
        inr (by.0, rw (members_under b closed) (by.1), elim by.2 [ inl e ↦ inl (nodes.0 ∙ e.0, nodes.1 ∙ e.1) | inr e ↦ inr (nodes.0 ∙ e.0, nodes.1 ∙ e.1) ])
  ],
  λ joined. elim joined [
    | inl own ↦ inl own
    | inr by ↦
        let inside : by.0 < length b.members = rw (members_under b closed) at by.1 in
        let nodes = nodes_under b closed by.0 inside in
        inr (by.0, inside, elim by.2 [ inl e ↦ inl (sym nodes.0 ∙ e.0, sym nodes.1 ∙ e.1) | inr e ↦ inr (sym nodes.0 ∙ e.0, sym nodes.1 ∙ e.1) ])
  ],
)

pub pattern_under : (b : Built) (closed : List Bool) (m : Matrix) → HasPatternOf m b → HasPatternOf m (under b closed)
pattern_under b closed m has n k =
    let joined = joined_under b closed n k in
    (λ block. joined.0 ((has n k).0 block), λ known. (has n k).1 (joined.1 known))
