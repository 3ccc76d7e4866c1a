use Rattle.std.proofs.Common.{◌≡◌, ℕ, zero, suc, ◌^◌, ◌<◌, ◌≤◌, inl, ◌∙◌, sym, ap, subst, arith, refl, List, [], ◌∷◌, length, slice_index, get_or}
use Rattle.std.proofs.lemmas.Result.{IfOk-weaker}
use Rattle.std.specs.Prelude.{All, AllPairs, Contains, ◌↔◌}
use Rattle.std.proofs.lemmas.Grind.{get_or_default_zero}
use Rattle.member_set.specs.declared.members.Member.{Member}
use Rattle.member_set.specs.declared.members.Built.{Built}
use Rattle.member_set.specs.Members.{no_member, Touches, member_of, IsBuilt, AreStiff}
use Rattle.matrix_tests.specs.Anchors.{IsAnchor}
use Rattle.matrix_tests.proofs.bounds.held_node.Goals as goal

-- the numbers from 0 on, at the only node
at_rising : (numbers : List ℕ) (n : ℕ) → length numbers ≡ n → ((k : ℕ) → k < n → slice_index numbers k ≡ k) →
    (node : ℕ) → AllPairs (λ x y. x < y) (get_or (numbers ∷ []) node [])
at_rising numbers n as_many count zero = λ i j d less inside.
    omega (arith, get_or_default_zero numbers i d (omega arith), get_or_default_zero numbers j d inside, count i (omega arith), count j (omega arith))
at_rising numbers n as_many count (suc node) = λ i j d less inside. absurd (omega arith)

at_touching : (members : List Member) (numbers : List ℕ) → length numbers ≡ length members → ((k : ℕ) → k < length members → slice_index numbers k ≡ k) →
    All IsAnchor members → (node k : ℕ) → node < 1 →
    Contains (get_or (numbers ∷ []) node []) k ↔ ((k < length members) × Touches (get_or members k no_member) node)
at_touching members numbers as_many count at_node zero k inside = (
  λ found.
      let k_inside : k < length members = omega (arith, found.2, get_or_default_zero numbers found.0 k found.1, count found.0 (omega arith)) in
      (k_inside, inl (at_node k no_member k_inside).0),
  λ touch. (k, omega arith, get_or_default_zero numbers k k (omega arith) ∙ count k touch.0),
)
at_touching members numbers as_many count at_node (suc node) k inside = absurd (omega arith)

counted_rising : (numbers : List ℕ) (n : ℕ) → length numbers ≡ n → ((k : ℕ) → k < n → slice_index numbers k ≡ k) → AllPairs (λ x y. x < y) numbers
counted_rising numbers n as_many count = at_rising numbers n as_many count 0

one_node : (b : Built) (numbers : List ℕ) (states : ℕ) → b.at ≡ numbers ∷ [] → length b.members ≤ 7 → states ≤ length b.members →
    length b.unilateral ≡ states → ((k : ℕ) → k < states → slice_index b.unilateral k ≡ k) → length numbers ≡ length b.members →
    ((k : ℕ) → k < length b.members → slice_index numbers k ≡ k) → All IsAnchor b.members → IsBuilt b
one_node b numbers states at_is seven few state_count state_is as_many count at_node =
    let one = ap (λ (xs : List (List ℕ)). length xs) at_is in
    record {
      numbered = omega (arith, one);
      members_numbered = omega (arith, seven);
      first_node = λ k inside. omega (arith, one, (at_node k no_member inside).0);
      second_node = λ k inside. omega (arith, one, (at_node k no_member inside).1);
      rising = λ node. subst (λ (xs : List (List ℕ)). AllPairs (λ x y. x < y) (get_or xs node [])) (sym at_is) (at_rising numbers (length b.members) as_many count node);
      touching = λ node k inside.
          subst (λ (xs : List (List ℕ)). Contains (get_or xs node []) k ↔ ((k < length b.members) × Touches (member_of b k) node)) (sym at_is)
          (at_touching b.members numbers as_many count at_node node k (omega (arith, one)));
      states_numbered = omega (arith, state_count, few, seven);
      states_rising = counted_rising b.unilateral states state_count state_is;
      states_inside = λ number inside. omega (arith, few, state_count, inside, state_is number (omega (arith, state_count, inside)));
    }

pub returns-clause-built : goal.returns-clause-built
returns-clause-built c =
    let P : Built → Type 0 = λ b. IsBuilt b in
    IfOk-weaker c.one_node.result _ IsBuilt
    (λ b is.
    subst P (sym is) (one_node _ c.in_ok-numbers.numbers.items c.args.states refl c.requires.some_members c.requires.few
    (omega (arith, c.in_ok-counted.ensures.0)) (λ k below. omega (arith, c.in_ok-counted.ensures.1 k (omega (arith, below))))
    (omega (arith, c.args.members.ok.0, c.in_ok-numbers.ensures.0)) (λ k below. omega (arith, c.in_ok-numbers.ensures.1 k (omega (arith, below, c.args.members.ok.0)))) c.requires.anchors))
    c.one_node.ensures

pub returns-clause-stiff : goal.returns-clause-stiff
returns-clause-stiff c =
    let P : Built → Type 0 = λ b. AreStiff b in
    IfOk-weaker c.one_node.result _ AreStiff
    (λ b is. subst P (sym is) (λ k inside. (c.requires.anchors k no_member inside).2))
    c.one_node.ensures
