-- The pattern of the members' pairs of nodes.
use Rattle.std.proofs.Common.{◌≡◌, ℕ, ◌<◌, inl, inr, List, length, map, get_or, refl, sym, ap, ◌∙◌, arith}
use Rattle.std.specs.Prelude.{◌↔◌}
use Rattle.std.proofs.lemmas.List.{get_or-map, length-map}
use Rattle.member_set.specs.declared.members.Member.{Member}
use Rattle.member_set.specs.declared.members.Built.{Built}
use Rattle.member_set.specs.Members.{IsBuilt, built_nodes, member_of, no_member}
use Rattle.sym_blocks.specs.Matrix.{Matrix, HasBlock, IsLinked}
use Rattle.assembly.specs.Stiffness.{AreJoined, HasPatternOf}

abbrev pub pair_of : Member → ℕ × ℕ
pair_of m = (m.n1, m.n2)

pair_at : (b : Built) (t : ℕ) (d : ℕ × ℕ) → t < length b.members → get_or (map pair_of b.members) t d ≡ pair_of (member_of b t)
pair_at b t d inside = get_or-map pair_of b.members t no_member d inside

count : (b : Built) → length (map pair_of b.members) ≡ length b.members
count b = length-map b.members _

pub pairs_in_range : (b : Built) → IsBuilt b → (pairs : List (ℕ × ℕ)) → pairs ≡ map pair_of b.members → (k : ℕ) (d : ℕ × ℕ) → k < length pairs →
    ((get_or pairs k d).0 < built_nodes b) × ((get_or pairs k d).1 < built_nodes b)
pairs_in_range b built pairs items k d below =
    let inside : k < length b.members = omega (arith, count b, ap (λ (xs : List (ℕ × ℕ)). length xs) items) in
    rw (items, pair_at b k d inside) (built.first_node k inside, built.second_node k inside)

to_joined : (b : Built) (n k : ℕ) → IsLinked (built_nodes b) (map pair_of b.members) n k → AreJoined b n k
to_joined b n k linked =
    elim linked [
      | inl own ↦ inl own
      | inr pair ↦ elim pair [
        | inl f ↦
            let inside : f.0 < length b.members = omega (arith, count b, f.1) in
            let is = sym (pair_at b f.0 (n, k) inside) ∙ f.2 in
            inr (f.0, inside, inl (ap (λ (p : ℕ × ℕ). p.0) is, ap (λ (p : ℕ × ℕ). p.1) is))
        | inr f ↦
            let inside : f.0 < length b.members = omega (arith, count b, f.1) in
            let is = sym (pair_at b f.0 (k, n) inside) ∙ f.2 in
            inr (f.0, inside, inr (ap (λ (p : ℕ × ℕ). p.0) is, ap (λ (p : ℕ × ℕ). p.1) is))
      ]
    ]

from_joined : (b : Built) (n k : ℕ) → AreJoined b n k → IsLinked (built_nodes b) (map pair_of b.members) n k
from_joined b n k joined =
    elim joined [
      | inl own ↦ inl own
      | inr by ↦
          let inside : by.0 < length (map pair_of b.members) = omega (arith, count b, by.1) in
          elim by.2 [
            | inl e ↦ inr (inl (by.0, inside, pair_at b by.0 (n, k) by.1 ∙ (rw (e.0, e.1) refl)))
            | inr e ↦ inr (inr (by.0, inside, pair_at b by.0 (k, n) by.1 ∙ (rw (e.0, e.1) refl)))
          ]
    ]

pub pattern_of_pairs : (b : Built) (m : Matrix) (nodes : ℕ) (pairs : List (ℕ × ℕ)) → nodes ≡ built_nodes b → pairs ≡ map pair_of b.members →
    ((n k : ℕ) → HasBlock m n k ↔ IsLinked nodes pairs n k) → HasPatternOf m b
pattern_of_pairs b m nodes pairs count_is items linked n k =
    let here : HasBlock m n k ↔ IsLinked (built_nodes b) (map pair_of b.members) n k = rw (← count_is, ← items) (linked n k) in
    (λ has. to_joined b n k (here.0 has), λ joined. here.1 (from_joined b n k joined))
