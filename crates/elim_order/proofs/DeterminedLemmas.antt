-- A graph has one order, or one broad node, and never both.
use Rattle.std.proofs.Common.{◌≡◌, ℕ, zero, suc, ◌<◌, ◌≤◌, List, [], ◌∷◌, ◌++◌, length, get_or, take, max, Contains, ◌⊎◌, inl, inr, ◌↔◌, ◌∙◌, sym, ap, arith, subst, length-append, append-nil, append_assoc}
use Rattle.std.proofs.lemmas.Bool.{cases_lt}
use Rattle.std.proofs.lemmas.List.{get_or_append_left}
use Rattle.lists.proofs.UniqueLemmas.{rising_unique}
use Rattle.elim_order.specs.Graph.{after, AreNeighbours, HasDegree}
use Rattle.elim_order.specs.Order.{IsLeft, IsLeastDegree, TakesRound, IsRound, LeadsTo, IsNarrowAt, IsBroadAt, IsEliminationOrder, IsFirstBroad, IsFirstBroadAt}
use Rattle.elim_order.proofs.GraphLemmas.{AreSame, after_same, narrow-append, front-append}

turned : (g h : ℕ → ℕ → Type 0) → AreSame g h → AreSame h g
turned g h same n k = ((same n k).1, (same n k).0)

neighbours_same : (g h : ℕ → ℕ → Type 0) (n : ℕ) (xs ys : List ℕ) → AreSame g h → AreNeighbours g n xs → AreNeighbours h n ys → xs ≡ ys
neighbours_same g h n xs ys same a b =
    rising_unique xs ys a.rising b.rising (λ k m. (b.members k).1 ((same n k).0 ((a.members k).0 m))) (λ k m. (a.members k).1 ((same n k).1 ((b.members k).0 m)))

degree_moved : (g h : ℕ → ℕ → Type 0) (n d : ℕ) → AreSame g h → HasDegree g n d → HasDegree h n d
degree_moved g h n d same (xs, a, len) =
    (xs, record { rising = a.rising; members = λ k. (λ m. (same n k).0 ((a.members k).0 m), λ m. (a.members k).1 ((same n k).1 m)) }, len)

least_below : (left : ℕ → Type 0) (g h : ℕ → ℕ → Type 0) (d e : ℕ) → AreSame g h → IsLeastDegree left g d → IsLeastDegree left h e → d ≤ e
least_below left g h d e same a b = let (n, l, has) = b.some in a.least n e l (degree_moved h g n e (turned g h same) has)

-- who is taken in one round is taken in the other, if those before are
taken_too : (left : ℕ → Type 0) (g h : ℕ → ℕ → Type 0) (limit : ℕ) (r s : List ℕ) (n : ℕ) → AreSame g h → TakesRound left g limit r → TakesRound left h limit s → ((k : ℕ) → k < n → Contains s k → Contains r k) → Contains r n → Contains s n
taken_too left g h limit r s n same a b before m =
    let (l, (d, has, le), apart) = (a.members n).0 m in
    (b.members n).1 (l, (d, degree_moved g h n d same has, le), λ k sk lt link. apart k (before k lt sk) lt ((same n k).1 link))

taken_below : (left : ℕ → Type 0) (g h : ℕ → ℕ → Type 0) (limit : ℕ) (r s : List ℕ) → AreSame g h → TakesRound left g limit r → TakesRound left h limit s → (b n : ℕ) → n < b → Contains r n ↔ Contains s n
taken_below left g h limit r s same x y zero n lt = absurd (omega arith)
taken_below left g h limit r s same x y (suc b) n lt =
    (taken_too left g h limit r s n same x y (λ k kl. (taken_below left g h limit r s same x y b k (omega arith)).1), taken_too left h g limit s r n (turned g h same) y x (λ k kl. (taken_below left g h limit r s same x y b k (omega arith)).0))

round_same : (nodes : ℕ) (g h : ℕ → ℕ → Type 0) (gone r s : List ℕ) → AreSame g h → IsRound nodes g gone r → IsRound nodes h gone s → r ≡ s
round_same nodes g h gone r s same (d, x, t) (e, y, u) =
    let left = IsLeft nodes gone in
    let alike = after_same g h gone same in
    let one = least_below left (after g gone) (after h gone) d e alike x y in
    let two = least_below left (after h gone) (after g gone) e d (turned (after g gone) (after h gone) alike) y x in
    let level : e ≡ d = omega arith in
    let P : ℕ → Type 0 = λ z. TakesRound left (after h gone) (max z 2) s in
    let u' = subst P level u in
    rising_unique r s t.rising u'.rising
    (λ k. (taken_below left (after g gone) (after h gone) (max d 2) r s alike t u' (suc k) k (omega arith)).0)
    (λ k. (taken_below left (after g gone) (after h gone) (max d 2) r s alike t u' (suc k) k (omega arith)).1)

-- an order begins with what was gone
leads_from : (nodes : ℕ) (g : ℕ → ℕ → Type 0) (gone : List ℕ) (rounds : List (List ℕ)) (order : List ℕ) → LeadsTo nodes g gone rounds order → (rest : List ℕ) × (gone ++ rest ≡ order)
leads_from nodes g gone [] order e = ([], append-nil gone ∙ e)
leads_from nodes g gone (r ∷ rounds) order (_, h) =
    let (rest, e) = leads_from nodes g (gone ++ r) rounds order h in
    (r ++ rest, sym (append_assoc gone r rest) ∙ e)

-- of two orders by rounds one begins with the other
begins : (nodes : ℕ) (g h : ℕ → ℕ → Type 0) (gone : List ℕ) (rs ss : List (List ℕ)) (a b : List ℕ) → AreSame g h → LeadsTo nodes g gone rs a → LeadsTo nodes h gone ss b → ((rest : List ℕ) × (a ++ rest ≡ b)) ⊎ ((rest : List ℕ) × (b ++ rest ≡ a))
begins nodes g h gone [] ss a b same e y =
    let (rest, f) = leads_from nodes h gone ss b y in
    inl (rest, ap (λ (xs : List ℕ). xs ++ rest) (sym e) ∙ f)
begins nodes g h gone (r ∷ rs) [] a b same x e =
    let (rest, f) = leads_from nodes g gone (r ∷ rs) a x in
    inr (rest, ap (λ (xs : List ℕ). xs ++ rest) (sym e) ∙ f)
begins nodes g h gone (r ∷ rs) (s ∷ ss) a b same (x, xs) (y, ys) =
    let P : List ℕ → Type 0 = λ z. LeadsTo nodes h (gone ++ z) ss b in
    begins nodes g h (gone ++ r) rs ss a b same xs (subst P (sym (round_same nodes g h gone r s same x y)) ys)

-- nothing follows a whole order
whole_last : (nodes : ℕ) (g h : ℕ → ℕ → Type 0) (gone : List ℕ) (rs ss : List (List ℕ)) (a b : List ℕ) → AreSame g h → ((n : ℕ) → n < nodes → Contains a n) → LeadsTo nodes g gone rs a → LeadsTo nodes h gone ss b → (rest : List ℕ) × (b ++ rest ≡ a)
whole_last nodes g h gone [] [] a b same whole e f = ([], append-nil b ∙ sym f ∙ e)
whole_last nodes g h gone [] (s ∷ ss) a b same whole e ((d, x, _), _) =
    let (n, (lt, out), _) = x.some in
    let P : List ℕ → Type 0 = λ xs. Contains xs n in
    absurd (out (subst P (sym e) (whole n lt)))
whole_last nodes g h gone (r ∷ rs) [] a b same whole x f =
    let (rest, e) = leads_from nodes g gone (r ∷ rs) a x in
    (rest, ap (λ (xs : List ℕ). xs ++ rest) (sym f) ∙ e)
whole_last nodes g h gone (r ∷ rs) (s ∷ ss) a b same whole (x, xs) (y, ys) =
    let P : List ℕ → Type 0 = λ z. LeadsTo nodes h (gone ++ z) ss b in
    whole_last nodes g h (gone ++ r) rs ss a b same whole xs (subst P (sym (round_same nodes g h gone r s same x y)) ys)

no_rest : (a rest : List ℕ) → length rest ≡ 0 → a ++ rest ≡ a
no_rest a [] e = append-nil a
no_rest a (x ∷ rest) e = absurd (omega (arith, e))

pub one_order : (nodes : ℕ) (g h : ℕ → ℕ → Type 0) (a b : List ℕ) → AreSame g h → IsEliminationOrder nodes g a → IsEliminationOrder nodes h b → a ≡ b
one_order nodes g h a b same x y =
    let (rest, e) = whole_last nodes g h [] x.by_rounds.0 y.by_rounds.0 a b same x.whole x.by_rounds.1 y.by_rounds.1 in
    let (more, f) = whole_last nodes h g [] y.by_rounds.0 x.by_rounds.0 b a (turned g h same) y.whole y.by_rounds.1 x.by_rounds.1 in
    let none : length rest ≡ 0 = omega (arith, ap (λ (xs : List ℕ). length xs) e, ap (λ (xs : List ℕ). length xs) f, length-append b rest, length-append a more) in
    sym e ∙ no_rest b rest none

-- no front is narrow and broad
conflict : (g h : ℕ → ℕ → Type 0) (xs : List ℕ) (p : ℕ) → AreSame g h → IsNarrowAt g xs p → IsBroadAt h xs p → ⊥
conflict g h xs p same (ns, f, few) (ms, e, many) =
    omega (arith, few, many, ap (λ (zs : List ℕ). length zs) (neighbours_same (after g (take p xs)) (after h (take p xs)) (get_or xs p 0) ns ms (after_same g h (take p xs) same) f e))

broad-append : (g : ℕ → ℕ → Type 0) (xs ys : List ℕ) (p : ℕ) → p < length xs → IsBroadAt g xs p → IsBroadAt g (xs ++ ys) p
broad-append g xs ys p lt (ns, f, many) = (ns, front-append g xs ys p ns lt f, many)

pub never_both : (nodes : ℕ) (g h : ℕ → ℕ → Type 0) (order : List ℕ) (node : ℕ) → AreSame g h → IsEliminationOrder nodes g order → IsFirstBroad nodes h node → ⊥
never_both nodes g h order node same x (b, q, y) =
    let (rest, e) = whole_last nodes g h [] x.by_rounds.0 y.by_rounds.0 order b same x.whole x.by_rounds.1 y.by_rounds.1 in
    let P : List ℕ → Type 0 = λ xs. IsBroadAt h xs q in
    let broad = subst P e (broad-append h b rest q y.in_range y.broad) in
    let lt : q < length order = omega (arith, y.in_range, ap (λ (xs : List ℕ). length xs) e, length-append b rest) in
    conflict g h order q same (x.narrow q lt) broad

-- where one order begins with the other, the first broad nodes are the same
same_node : (nodes m n : ℕ) (g h : ℕ → ℕ → Type 0) (a b rest : List ℕ) (p q : ℕ) → AreSame g h → a ++ rest ≡ b → IsFirstBroadAt nodes g a p m → IsFirstBroadAt nodes h b q n → m ≡ n
same_node nodes m n g h a b rest p q same e x y =
    elim (cases_lt p q) [
      | inl lt ↦
          (let P : List ℕ → Type 0 = λ xs. IsBroadAt g xs p in
          absurd (conflict h g b p (turned g h same) (y.before p lt) (subst P e (broad-append g a rest p x.in_range x.broad))))
      | inr from ↦
          elim (cases_lt q p) [
            | inl lt ↦
                (let P : List ℕ → Type 0 = λ xs. IsNarrowAt g xs q in
                absurd (conflict g h b q same (subst P e (narrow-append g a rest q (omega (arith, x.in_range)) (x.before q lt))) y.broad))
            | inr to ↦
                let level : q ≡ p = omega arith in
                sym x.node_is ∙ sym (get_or_append_left a rest 0 p x.in_range) ∙ ap (λ (xs : List ℕ). get_or xs p 0) e ∙ ap (λ (z : ℕ). get_or b z 0) (sym level) ∙ y.node_is
          ]
    ]

pub one_broad : (nodes : ℕ) (g h : ℕ → ℕ → Type 0) (m n : ℕ) → AreSame g h → IsFirstBroad nodes g m → IsFirstBroad nodes h n → m ≡ n
one_broad nodes g h m n same (a, p, x) (b, q, y) =
    elim (begins nodes g h [] x.by_rounds.0 y.by_rounds.0 a b same x.by_rounds.1 y.by_rounds.1) [
      | inl (rest, e) ↦ same_node nodes m n g h a b rest p q same e x y
      | inr (rest, e) ↦ sym (same_node nodes n m h g b a rest q p (turned g h same) e y x)
    ]
