-- The panels that reach a node.
use Rattle.std.proofs.Common.{◌≡◌, ℕ, suc, ◌+◌, ◌<◌, ◌≤◌, List, [], Option, length, get_or, Contains, ◌∙◌, sym, ap, arith, subst, inl, inr, ℤ}
use Rattle.std.proofs.lemmas.Bool.{cases_eq}
use Rattle.std.proofs.lemmas.List.{get_or-map}
use Rattle.std.proofs.lemmas.List.Elements.{Contains-get_or}
use Rattle.sym_blocks.specs.Matrix.{Matrix}
use Rattle.factor.specs.State.{ArePanels, IsRowPattern, IsFront, HoldsLeft, nodes_at, entries_at, sums_at}
use Rattle.factor.specs.declared.panel.Panel.{Panel}
use Rattle.factor.proofs.GapLemmas.{IsGap, AreBelow, none_first, none_between, gap_past}
use Rattle.factor.proofs.LeftLemmas.{HasNone, holds_over, none_outside_row_pattern}

-- the parts of a panel that is read
pub nodes_read : (panels : List Panel) (d : ℕ) (p : Panel) → d < length panels → p ≡ get_or panels d p → nodes_at panels d ≡ p.nodes.items
nodes_read panels d p lt is = get_or-map (λ (x : Panel). x.nodes.items) panels d p [] lt ∙ ap (λ (x : Panel). x.nodes.items) (sym is)

pub entries_read : (panels : List Panel) (d : ℕ) (p : Panel) → d < length panels → p ≡ get_or panels d p → entries_at panels d ≡ p.entries.items
entries_read panels d p lt is = get_or-map (λ (x : Panel). x.entries.items) panels d p [] lt ∙ ap (λ (x : Panel). x.entries.items) (sym is)

pub sums_read : (panels : List Panel) (d : ℕ) (p : Panel) → d < length panels → p ≡ get_or panels d p → sums_at panels d ≡ p.sums.items
sums_read panels d p lt is = get_or-map (λ (x : Panel). x.sums.items) panels d p [] lt ∙ ap (λ (x : Panel). x.sums.items) (sym is)

pub below : (panels : List Panel) (n q : ℕ) (row_pattern : List ℕ) → IsRowPattern panels n q row_pattern → AreBelow row_pattern n
below panels n q row_pattern u = record { rising = u.rising; below = λ d h. ((u.reaching d).0 h).0 }

-- a node of the row pattern, by its place
pub earlier_at : (panels : List Panel) (n q : ℕ) (row_pattern : List ℕ) (i : ℕ) → IsRowPattern panels n q row_pattern → i < length row_pattern → (get_or row_pattern i 0 < n) × Contains (nodes_at panels (get_or row_pattern i 0)) q
earlier_at panels n q row_pattern i u lt = (u.reaching (get_or row_pattern i 0)).0 (Contains-get_or row_pattern i 0 lt)

-- what a node of the row pattern reaches from the node on is kept
pub within_front : (k : Matrix) (order : List ℕ) (parents : List (Option ℕ)) (panels : List Panel) (row_pattern nodes : List ℕ) (n d q : ℕ) → IsFront k order parents panels row_pattern n nodes → Contains row_pattern d → Contains (nodes_at panels d) q → n ≤ q → Contains nodes q
within_front k order parents panels row_pattern nodes n d q front earlier reaches le =
    elim (cases_eq n q) [
      | inl e ↦ subst (λ (x : ℕ). Contains nodes x) e front.own
      | inr apart ↦ front.reached d q earlier (omega arith) reaches
    ]

-- a node before that is not in the row pattern
pub absent_none : (a : ℕ → ℕ → ℤ) (parents : List (Option ℕ)) (size n d : ℕ) (panels : List Panel) (row_pattern : List ℕ) → ArePanels a parents size n panels → IsRowPattern panels n n row_pattern → n < size → d < n → (Contains row_pattern d → ⊥) → HasNone a n d
absent_none a parents size n d panels row_pattern p u in' lt absent =
    none_outside_row_pattern a parents size n d (nodes_at panels d) (entries_at panels d) (sums_at panels d) lt in' (p.known d lt).panel
    (λ h. absent ((u.reaching d).1 (lt, h)))

pub holds_first : (a : ℕ → ℕ → ℤ) (parents : List (Option ℕ)) (size n m : ℕ) (panels : List Panel) (row_pattern nodes : List ℕ) (work : List ℤ) → ArePanels a parents size n panels → IsRowPattern panels n n row_pattern → n < size → HoldsLeft a size n nodes work 0 → IsGap row_pattern n 0 m → HoldsLeft a size n nodes work m
holds_first a parents size n m panels row_pattern nodes work p u in' start gap =
    let most = gap.most in
    holds_over a size n nodes work 0 m (omega arith)
    (λ d bd dm. absent_none a parents size n d panels row_pattern p u in' (omega arith) (none_first row_pattern n m d gap dm))
    start

pub holds_after : (a : ℕ → ℕ → ℤ) (parents : List (Option ℕ)) (size n i m : ℕ) (panels : List Panel) (row_pattern nodes : List ℕ) (work : List ℤ) → ArePanels a parents size n panels → IsRowPattern panels n n row_pattern → n < size → i < length row_pattern → HoldsLeft a size n nodes work (suc (get_or row_pattern i 0)) → IsGap row_pattern n (i + 1) m → HoldsLeft a size n nodes work m
holds_after a parents size n i m panels row_pattern nodes work p u in' lt start gap =
    let most = gap.most in
    let past = gap_past row_pattern n i m lt gap in
    holds_over a size n nodes work (suc (get_or row_pattern i 0)) m (omega arith)
    (λ d bd dm. absent_none a parents size n d panels row_pattern p u in' (omega arith) (none_between row_pattern n i m d (below panels n n row_pattern u) lt gap (omega arith) dm))
    start
