-- The whole matrices: what stands outside the pattern.
use Rattle.std.proofs.Common.{◌≡◌, ◌≢◌, ℕ, zero, suc, ◌/◌, ◌<◌, ◌⊎◌, inl, inr, List, length, get_or, slice_index, refl, arith, ◌≤◌, false, true, Ok, Err, pos, ◌≤ℤ◌}
use Rattle.std.specs.Prelude.{Contains, IsOk, Result, is_err, OnOk, OnErr}
use Rattle.std.proofs.lemmas.Bool.{cases_eq}
use Rattle.sym_blocks.specs.Matrix.{Matrix, pattern_of, HasBlock, entry, node_count as nodes_of, IsSymmetricByBlocks}
use Rattle.assembly.specs.Filling.{IsFilled, IsWideFrom}
use Rattle.std.proofs.lemmas.Bool.Decides.{nat_tests}
use Rattle.std.proofs.lemmas.Grind.{get_or_default_zero}
use Rattle.int_laws.specs.Division.{floor_of}
use Rattle.flex_interval.specs.Operations.{add_of}
use Rattle.member_set.specs.declared.members.Member.{Member}
use Rattle.member_set.specs.declared.members.Built.{Built}
use Rattle.member_set.specs.Members.{nothing, Touches, IsBuilt, row_count, built_nodes, member_of, members_at, touches}
use Rattle.member_set.specs.Interval.{Outcome, in_turn}
use Rattle.int_laws.proofs.Sums.{int_sums}
use Rattle.int_laws.proofs.Products.{mul_turn}
use Rattle.int_laws.proofs.SumLaws.{sum_below-same}
use Rattle.member_set.specs.Realisation.{Stiffness, every_member, exact_entry}
use Rattle.assembly.specs.Stiffness.{AreAssembled, stiffness_at, HasPatternOf, IsFirstWide, entry_term, entry_sum, upper_entry, Joins, AreJoined}

nothing_sum : (term : ℕ → Outcome) (n : ℕ) → ((t : ℕ) → t < n → term t ≡ Ok nothing) → in_turn add_of nothing term n ≡ Ok nothing
unfolding add_of
nothing_sum term zero all = refl
nothing_sum term (suc n) all = rw (nothing_sum term n (λ t below. all t (omega arith)), all n (omega arith)) refl

pub not_of : (m : Member) (k : ℕ) → m.n1 ≢ k → m.n2 ≢ k → touches m k ≡ false
not_of m k first second = grind (arith, nat_tests)

not_touching : (m : Member) (n k : ℕ) → (Joins m n k → ⊥) → Touches m n → n ≢ k → touches m k ≡ false
not_touching m n k apart touch other =
    let first : m.n1 ≢ k = λ e. elim touch [ inl f ↦ other (omega arith) | inr f ↦ apart (inr (e, f)) ] in
    let second : m.n2 ≢ k = λ e. elim touch [ inl f ↦ apart (inl (f, e)) | inr f ↦ other (omega arith) ] in
    not_of m k first second

outside_term : (b : Built) → IsBuilt b → (i j t : ℕ) → i / 6 < built_nodes b → (AreJoined b (i / 6) (j / 6) → ⊥) → t < length (members_at b (i / 6)) →
    entry_term b i j t ≡ Ok nothing
outside_term b built i j t node_inside apart inside =
    let k = slice_index (members_at b (i / 6)) t in
    let touch = (built.touching (i / 6) k node_inside).0 (t, inside, get_or_default_zero (members_at b (i / 6)) t _ inside) in
    let off = not_touching (member_of b k) (i / 6) (j / 6) (λ joins. apart (inr (k, touch.0, joins))) touch.1 (λ e. apart (inl (e, node_inside))) in
    rw off refl

-- an entry that no member gives is exactly 0
pub outside_value : (b : Built) → IsBuilt b → (i j : ℕ) → i / 6 < built_nodes b → (AreJoined b (i / 6) (j / 6) → ⊥) → upper_entry b i j ≡ Ok nothing
unfolding entry_sum floor_of
outside_value b built i j node_inside apart =
    rw (nothing_sum (entry_term b i j) (length (members_at b (i / 6))) (λ t inside. outside_term b built i j t node_inside apart inside)) refl

-- a list has a number, or has it not
any_below : (xs : List ℕ) (k n : ℕ) → ((t : ℕ) × (t < n) × (get_or xs t k ≡ k)) ⊎ ((t : ℕ) → t < n → get_or xs t k ≢ k)
any_below xs k zero = inr (λ t below. absurd (omega arith))
any_below xs k (suc n) =
    elim (any_below xs k n) [
      | inl f ↦ inl (f.0, omega (arith, f.1), f.2)
      | inr none ↦ elim (cases_eq (get_or xs n k) k) [
        | inl e ↦ inl (n, omega arith, e)
        | inr ne ↦ inr (λ t below. elim (cases_eq t n) [ inl f ↦ rw f ne | inr other ↦ none t (omega arith) ])
      ]
    ]

pub contained_or_not : (xs : List ℕ) (k : ℕ) → Contains xs k ⊎ (Contains xs k → ⊥)
contained_or_not xs k =
    elim (any_below xs k (length xs)) [
      | inl f ↦ inl f
      | inr none ↦ inr (λ found. none found.0 found.1 found.2)
    ]

-- from the diagonal on the entry is that of the two rows as they come
pub upper_is : (b : Built) (i j : ℕ) → i ≤ j → stiffness_at b i j ≡ upper_entry b i j
upper_is b i j order = grind (arith, nat_tests)

pub lower_is : (b : Built) (i j : ℕ) → j < i → stiffness_at b i j ≡ upper_entry b j i
lower_is b i j order = grind (arith, nat_tests)

-- where the entries of a pattern's row are filled, all entries of the row have values
pub upper_ok : (b : Built) → IsBuilt b → (km rd : Matrix) → HasPatternOf km b → (i j : ℕ) → i < row_count b →
    (HasBlock km (i / 6) (j / 6) → IsFilled b km rd i j) → IsOk (upper_entry b i j)
upper_ok b built km rd pattern i j inside filled =
    elim (contained_or_not (pattern_of km (i / 6)) (j / 6)) [
      | inl has ↦ rw ((filled has).are.value) refl
      | inr not ↦ rw (outside_value b built i j (omega arith) (λ joined. not ((pattern (i / 6) (j / 6)).1 joined))) refl
    ]

pub first_wide : (b : Built) → IsBuilt b → (km rd : Matrix) → HasPatternOf km b → (row : ℕ) → row < row_count b →
    ((i j : ℕ) → i < row → i ≤ j → HasBlock km (i / 6) (j / 6) → IsFilled b km rd i j) → IsWideFrom b row → IsFirstWide b row
first_wide b built km rd pattern row inside filled wide =
    record {
      in_range = inside;
      wide = (wide.0, wide.2, rw (upper_is b row wide.0 wide.1) wide.3);
      before = λ i j below j_inside.
          let side : (i ≤ j) ⊎ (j < i) = search arith in
          elim side [
            | inl up ↦ rw (upper_is b i j up) (upper_ok b built km rd pattern i j (omega arith) (filled i j below up))
            | inr down ↦ rw (lower_is b i j down) (upper_ok b built km rd pattern j i (omega arith) (filled j i (omega arith) (omega arith)))
          ];
    }

-- a step that did not fail
pub on_ok : {T E : Type 0} (r : Result T E) (P : Type 0) → is_err r ≡ false → OnOk r P → P
on_ok (Ok t) P e h = h
on_ok (Err x) P e h = grind arith

pub on_err : {T E : Type 0} (r : Result T E) (P : Type 0) → is_err r ≡ true → OnErr r P → P
on_err (Ok t) P e h = grind arith
on_err (Err x) P e h = h

filled_all : (b : Built) → IsBuilt b → (km rd : Matrix) → IsSymmetricByBlocks km → IsSymmetricByBlocks rd → HasPatternOf km b → HasPatternOf rd b → (i j : ℕ) → i < row_count b →
    (HasBlock km (i / 6) (j / 6) → IsFilled b km rd i j) → IsFilled b km rd i j
unfolding floor_of
filled_all b built km rd middles radii pattern pattern_too i j inside filled =
    elim (contained_or_not (pattern_of km (i / 6)) (j / 6)) [
      | inl has ↦ filled has
      | inr not ↦
          let apart : AreJoined b (i / 6) (j / 6) → ⊥ = λ joined. not ((pattern (i / 6) (j / 6)).1 joined) in
          let none = middles.outside i j not in
          let none_too = radii.outside i j (λ has. apart ((pattern_too (i / 6) (j / 6)).0 has)) in
          record {
            are = record { enclosure = nothing; value = outside_value b built i j (omega arith) apart; middle_is = none; radius_is = none_too };
            not_negative = rw none_too (omega (arith, int_sums));
          }
    ]

pub exact_symmetric : (s : Stiffness) (i j : ℕ) → exact_entry every_member s i j ≡ exact_entry every_member s j i
exact_symmetric s i j =
    sum_below-same s.members _ _ (λ k inside. mul_turn ((s.member k).shape i) (s.member k).stiffness ((s.member k).shape j))

-- a node that is joined is there
node_there : (b : Built) (n k : ℕ) → IsBuilt b → AreJoined b n k → n < built_nodes b
node_there b n k built (inl f) = f.1
node_there b n k built (inr f) =
    elim f.2 [
      | inl ends ↦ omega (arith, built.first_node f.0 f.1, ends.0)
      | inr ends ↦ omega (arith, built.second_node f.0 f.1, ends.1)
    ]

-- a matrix with a structure's pattern has the structure's nodes
same_nodes : (b : Built) (m : Matrix) → IsBuilt b → IsSymmetricByBlocks m → HasPatternOf m b → nodes_of m ≡ built_nodes b
same_nodes b m built kept pattern =
    let no_more : built_nodes b < nodes_of m → ⊥ = λ more.
    let there = node_there b (built_nodes b) (built_nodes b) built ((pattern (built_nodes b) (built_nodes b)).0 (kept.own (built_nodes b) more)) in omega arith in
    let no_less : nodes_of m < built_nodes b → ⊥ = λ less.
    let there = kept.in_range (nodes_of m) (nodes_of m) ((pattern (nodes_of m) (nodes_of m)).1 (inl (refl, less))) in omega arith in
    omega arith

pub assembled : (b : Built) → IsBuilt b → (km rd : Matrix) → IsSymmetricByBlocks km → IsSymmetricByBlocks rd → HasPatternOf km b → HasPatternOf rd b →
    ((i j : ℕ) → i < row_count b → i ≤ j → HasBlock km (i / 6) (j / 6) → IsFilled b km rd i j) → AreAssembled b km rd
assembled b built km rd middles radii pattern pattern_too filled =
    record {
      middles_nodes = same_nodes b km built middles pattern;
      radii_nodes = same_nodes b rd built radii pattern_too;
      middles_pattern = pattern;
      radii_pattern = pattern_too;
      entries = λ i j i_inside j_inside.
          let side : (i ≤ j) ⊎ (j < i) = search arith in
          elim side [
            | inl up ↦ rw (upper_is b i j up) (filled_all b built km rd middles radii pattern pattern_too i j i_inside (filled i j i_inside up)).are
            | inr down ↦ rw (lower_is b i j down, middles.symmetric i j, radii.symmetric i j)
                (filled_all b built km rd middles radii pattern pattern_too j i j_inside (filled j i j_inside (omega arith))).are
          ];
    }

pub all_not_negative : (b : Built) → IsBuilt b → (km rd : Matrix) → IsSymmetricByBlocks km → IsSymmetricByBlocks rd → HasPatternOf km b → HasPatternOf rd b →
    ((i j : ℕ) → i < row_count b → i ≤ j → HasBlock km (i / 6) (j / 6) → IsFilled b km rd i j) →
    (i j : ℕ) → i < row_count b → j < row_count b → pos 0 ≤ℤ entry rd i j
all_not_negative b built km rd middles radii pattern pattern_too filled i j i_inside j_inside =
    let side : (i ≤ j) ⊎ (j < i) = search arith in
    elim side [
      | inl up ↦ (filled_all b built km rd middles radii pattern pattern_too i j i_inside (filled i j i_inside up)).not_negative
      | inr down ↦ rw (radii.symmetric i j)
          (filled_all b built km rd middles radii pattern pattern_too j i j_inside (filled j i j_inside (omega arith))).not_negative
    ]
