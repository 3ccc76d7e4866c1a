-- The nodes that a node's columns reach.
use Rattle.std.proofs.Common.{◌≡◌, ℕ, ◌<◌, ◌≤◌, List, [], ◌∷◌, ◌++◌, Option, Some, None, length, get_or, map, Contains, All, ◌⊎◌, inl, inr, ◌∙◌, sym, ap, arith, subst, refl, ◌↔◌, ℤ, IfSome}
use Rattle.std.proofs.lemmas.List.{get_or_default, get_or-map, length-map}
use Rattle.std.proofs.lemmas.List.Elements.{Contains-get_or, Contains-push_cases, All-contains}
use Rattle.lists.specs.Rising.{IsRising, InsertsLater}
use Rattle.lists.specs.Order.{place_of}
use Rattle.lists.proofs.PlaceLemmas.{place-found, place-at}
use Rattle.sym_blocks.specs.Matrix.{Matrix, pattern_of, IsSymmetricByBlocks}
use Rattle.elimination.specs.Elimination.{AreParents, parent_of}
use Rattle.factor.specs.State.{IsProblem, IsFront, IsWithParent, nodes_at}
use Rattle.factor.specs.declared.panel.Panel.{Panel}

-- a fact of each element, from one of each number listed
all_listed : (P : ℕ → Type 0) (xs : List ℕ) → ((x : ℕ) → Contains xs x → P x) → All P xs
all_listed P xs h k d lt = h (get_or xs k d) (Contains-get_or xs k d lt)

parent_bounds : (parents : List (Option ℕ)) (size n u : ℕ) → AreParents parents size → n < size → parent_of parents n ≡ Some u → (n < u) × (u < size)
parent_bounds parents size n u later in' is =
    let P : Option ℕ → Type 0 = λ o. IfSome o (λ v. (n < v) × (v < size)) in
    subst P is (later n in')

-- the places of a node's neighbours
pub adjacency_front : (k : Matrix) (order : List ℕ) (parents : List (Option ℕ)) (shift : ℤ) (n : ℕ) (start found nodes : List ℕ) → IsProblem k order parents shift → n < length order → IsSymmetricByBlocks k → IsWithParent parents n start → found ≡ map (λ m. place_of m order) (pattern_of k (get_or order n 0)) → InsertsLater start nodes found n → IsFront k order parents [] [] n nodes
adjacency_front k order parents shift n start found nodes p in' kept with is inserted =
    let size = length order in
    let pattern = pattern_of k (get_or order n 0) in
    let place = λ (m : ℕ). place_of m order in
    let listed : (x : ℕ) → Contains found x → (m : ℕ) × Contains pattern m × (place m ≡ x) =
    λ x (v, vl, at).
    let len = ap length is ∙ length-map pattern place in
    let vl' : v < length pattern = omega (arith, vl, len) in (
      get_or pattern v 0,
      Contains-get_or pattern v 0 vl',
      sym (get_or-map place pattern v 0 x vl') ∙ sym (ap (λ (xs : List ℕ). get_or xs v x) is) ∙ at,
    )
    in
    record {
      rising = inserted.rising;
      from_own = all_listed (λ q. (n ≤ q) × (q < size)) nodes (λ x h.
          elim ((inserted.members x).0 h) [
            | inl old ↦
                elim (with.only x old) [
                  | inl e ↦ (omega (arith, e), omega (arith, e, in'))
                  | inr parent ↦ (let b = parent_bounds parents size n x p.parents_later in' parent in (omega (arith, b.0), b.1))
                ]
            | inr (new, above) ↦
                let m = listed x new in
                let m-in = kept.in_range (get_or order n 0) m.0 m.1 in
                let found-in = (place-found order m.0 p.ordered (omega (arith, m-in, p.nodes))).0 in
                (omega (arith, above), omega (arith, found-in, m.2))
          ]);
      own = (inserted.members n).1 (inl with.own);
      parent = λ u h. (inserted.members u).1 (inl (with.parent u h));
      matrix = λ q above q-in (v, vl, at).
          let m = get_or order q 0 in
          let back : place m ≡ q = place-at order q p.ordered q-in in
          let here : get_or pattern v 0 ≡ m = get_or_default pattern v 0 m vl ∙ at in
          let len = ap length is ∙ length-map pattern place in
          let v-in : v < length found = omega (arith, vl, len) in
          let value : get_or found v q ≡ q =
          ap (λ (xs : List ℕ). get_or xs v q) is ∙ get_or-map place pattern v 0 q vl ∙ ap place here ∙ back
          in
          (inserted.members q).1 (inr ((v, v-in, value), above));
      reached = λ d q (v, vl, at) above h. absurd (omega arith);
      kept = kept;
    }

-- the nodes of a row pattern, one after another
pub front_start : (k : Matrix) (order : List ℕ) (parents : List (Option ℕ)) (panels : List Panel) (n : ℕ) (nodes : List ℕ) → IsFront k order parents [] [] n nodes → IsFront k order parents panels [] n nodes
front_start k order parents panels n nodes f =
    record { rising = f.rising; from_own = f.from_own; own = f.own; parent = f.parent; matrix = f.matrix; reached = λ d q (v, vl, at) above h. absurd (omega arith); kept = f.kept }

pub front_more : (k : Matrix) (order : List ℕ) (parents : List (Option ℕ)) (panels : List Panel) (row_pattern : List ℕ) (n d : ℕ) (old new : List ℕ) → IsFront k order parents panels row_pattern n old → InsertsLater old new (nodes_at panels d) n → ((x : ℕ) → Contains (nodes_at panels d) x → x < length order) → IsFront k order parents panels (row_pattern ++ d ∷ []) n new
front_more k order parents panels row_pattern n d old new f inserted within =
    let keep = λ (x : ℕ) (h : Contains old x). (inserted.members x).1 (inl h) in
    record {
      rising = inserted.rising;
      from_own = all_listed (λ q. (n ≤ q) × (q < length order)) new (λ x h.
          elim ((inserted.members x).0 h) [
            | inl o ↦ All-contains (λ (q : ℕ). (n ≤ q) × (q < length order)) old x f.from_own o
            | inr (reached, above) ↦ (omega (arith, above), within x reached)
          ]);
      own = keep n f.own;
      parent = λ u h. keep u (f.parent u h);
      matrix = λ q above q-in h. keep q (f.matrix q above q-in h);
      reached = λ e q earlier above h.
          elim (Contains-push_cases row_pattern d e earlier) [
            | inl before ↦ keep q (f.reached e q before above h)
            | inr same ↦
                (let P : ℕ → Type 0 = λ x. Contains (nodes_at panels x) q in
                (inserted.members q).1 (inr (subst P (sym same) h, above)))
          ];
      kept = f.kept;
    }

-- a node alone, and with its parent
alone_only : (n x : ℕ) → Contains (n ∷ []) x → x ≡ n
alone_only n x (k, lt, is) =
    let first : k ≡ 0 = omega arith in
    let P : ℕ → Type 0 = λ v. get_or (n ∷ []) v x ≡ x in
    sym (subst P first is)

alone : (n : ℕ) → Contains (n ∷ []) n
alone n = (0, omega arith, refl)

pub IsWithParent-none : (parents : List (Option ℕ)) (n : ℕ) (nodes : List ℕ) → nodes ≡ n ∷ [] → parent_of parents n ≡ None → IsWithParent parents n nodes
IsWithParent-none parents n nodes e none =
    let P : List ℕ → Type 0 = λ xs. IsWithParent parents n xs in
    subst P (sym e)
    record {
      rising = λ i j d lt in'. absurd (omega arith);
      own = alone n;
      parent = λ u is. (let h : None ≡ Some u = sym none ∙ is in absurd cc);
      only = λ x h. inl (alone_only n x h);
    }

pub IsWithParent-some : (parents : List (Option ℕ)) (n u : ℕ) (start nodes : List ℕ) → start ≡ n ∷ [] → parent_of parents n ≡ Some u → IsRising nodes → ((x : ℕ) → Contains nodes x ↔ (Contains start x ⊎ (x ≡ u))) → IsWithParent parents n nodes
IsWithParent-some parents n u start nodes e some up members =
    let P : List ℕ → Type 0 = λ xs. (x : ℕ) → Contains nodes x ↔ (Contains xs x ⊎ (x ≡ u)) in
    let members' = subst P e members in
    record {
      rising = up;
      own = (members' n).1 (inl (alone n));
      parent = λ v is. (let h : Some v ≡ Some u = sym is ∙ some in (members' v).1 (inr cc));
      only = λ x h.
          elim ((members' x).0 h) [
            | inl own ↦ inl (alone_only n x own)
            | inr same ↦ inr (some ∙ ap Some (sym same))
          ];
    }
