-- The panels and the row patterns, one node after another.
use Rattle.std.proofs.Common.{◌≡◌, ℕ, ◌+◌, ◌*◌, ◌/◌, ◌%◌, ◌<◌, List, [], ◌∷◌, ◌++◌, Option, length, get_or, map, Contains, ◌∙◌, sym, ap, arith, subst, inl, inr, ◌^◌, ◌≤ℤ◌, to_z, of_z, ℤ, pos, cond}
use Rattle.std.specs.Prelude.{Result, IsErrAnd, MatchResult}
use Rattle.std.proofs.lemmas.Result.{err_from_is_err_and}
use Rattle.std.proofs.lemmas.Bool.{cases_lt, lt-ltb, le-ltb}
use Rattle.std.proofs.lemmas.List.{get_or_append_left, get_or_push, length_push, length-map, map_push}
use Rattle.lists.specs.Lists.{list_of, ListsInAll}
use Rattle.factor_data.specs.Columns.{ColumnLists}
use Rattle.cholesky_laws.specs.Laws.{RecurrenceLaws}
use Rattle.cholesky_laws.specs.Recurrence.{cholesky}
use Rattle.factor.specs.Panel.{kept_for}
use Rattle.factor.specs.State.{ArePanels, IsRowPattern, IsNodePanel, nodes_at, entries_at, sums_at}
use Rattle.factor.specs.Columns.{ArePanelShapes, HasColumns}
use Rattle.factor.specs.Scalar.{IsFactorOf, IsBreakdown}
use Rattle.factor.specs.declared.fault.ScalarFault.{ScalarFault}
use Rattle.factor.specs.declared.fault.ScalarFault.TheVariants.{NoMemory}
use Rattle.factor.proofs.CastLemmas.{wide_is}
use Rattle.int_laws.proofs.Sums.{int_sums}
use Rattle.std.specs.Int.{w128}
use Rattle.factor.specs.declared.panel.Panel.{Panel}

-- a part of the panels, with one more
part_before : {X : Type 0} (f : Panel → List X) (panels : List Panel) (p : Panel) (d : ℕ) → d < length panels → get_or (map f (panels ++ p ∷ [])) d [] ≡ get_or (map f panels) d []
part_before f panels p d lt =
    ap (λ xs. get_or xs d []) (map_push f panels p)
    ∙ get_or_append_left (map f panels) (f p ∷ []) [] d (omega (arith, length-map panels f))

part_here : {X : Type 0} (f : Panel → List X) (panels : List Panel) (p : Panel) (d : ℕ) → d ≡ length panels → get_or (map f (panels ++ p ∷ [])) d [] ≡ f p
part_here f panels p d e =
    ap (λ xs. get_or xs d []) (map_push f panels p)
    ∙ get_or_push (map f panels) (f p) [] d (length-map panels f ∙ sym e)

pub panels_more : (a : ℕ → ℕ → ℤ) (parents : List (Option ℕ)) (size n : ℕ) (panels : List Panel) (p : Panel) → ArePanels a parents size n panels → IsNodePanel a parents size n p.nodes.items p.entries.items p.sums.items → ArePanels a parents size (n + 1) (panels ++ p ∷ [])
panels_more a parents size n panels p before new =
    record {
      count = length_push panels p ∙ ap (λ (x : ℕ). x + 1) before.count;
      known = λ d lt.
          let P : List ℕ → List ℤ → List ℤ → Type 0 = λ xs ys zs. IsNodePanel a parents size d xs ys zs in
          let xs = nodes_at (panels ++ p ∷ []) d in
          let ys = entries_at (panels ++ p ∷ []) d in
          elim (cases_lt d n) [
            | inl old ↦
                (let d-in : d < length panels = omega (arith, before.count) in
                subst (λ (z : List ℤ). P xs ys z) (sym (part_before (λ (x : Panel). x.sums.items) panels p d d-in))
                (subst (λ (y : List ℤ). P xs y (sums_at panels d)) (sym (part_before (λ (x : Panel). x.entries.items) panels p d d-in))
                (subst (λ (x : List ℕ). P x (entries_at panels d) (sums_at panels d)) (sym (part_before (λ (x : Panel). x.nodes.items) panels p d d-in))
                (before.known d old))))
            | inr from ↦
                let here : d ≡ length panels = omega (arith, before.count) in
                let same : n ≡ d = omega arith in
                let Q : ℕ → Type 0 = λ x. IsNodePanel a parents size x p.nodes.items p.entries.items p.sums.items in
                subst (λ (z : List ℤ). P xs ys z) (sym (part_here (λ (x : Panel). x.sums.items) panels p d here))
                (subst (λ (y : List ℤ). P xs y p.sums.items) (sym (part_here (λ (x : Panel). x.entries.items) panels p d here))
                (subst (λ (x : List ℕ). P x p.entries.items p.sums.items) (sym (part_here (λ (x : Panel). x.nodes.items) panels p d here))
                (subst Q same new)))
          ];
    }

pub row_pattern_more : (n q : ℕ) (panels : List Panel) (p : Panel) (old new : List (List ℕ)) → length panels ≡ n → IsRowPattern panels n q (list_of old q) → ListsInAll old new p.nodes.items n → IsRowPattern (panels ++ p ∷ []) (n + 1) q (list_of new q)
row_pattern_more n q panels p old new count row_pattern listed =
    let P : List ℕ → Type 0 = λ xs. Contains xs q in
    record {
      rising = listed.rising q;
      reaching = λ d. (
        λ h.
            elim ((listed.members q d).0 h) [
              | inl before ↦
                  (let was = (row_pattern.reaching d).0 before in
                  (omega (arith, was.0), subst P (sym (part_before (λ (x : Panel). x.nodes.items) panels p d (omega (arith, was.0, count)))) was.1))
              | inr (named, same) ↦ (omega (arith, same), subst P (sym (part_here (λ (x : Panel). x.nodes.items) panels p d (same ∙ sym count))) named)
            ],
        λ (lt, reaches).
            (listed.members q d).1
            (elim (cases_lt d n) [
              | inl before ↦ inl ((row_pattern.reaching d).1 (before, subst P (part_before (λ (x : Panel). x.nodes.items) panels p d (omega (arith, count))) reaches))
              | inr from ↦ inr (subst P (part_here (λ (x : Panel). x.nodes.items) panels p d (omega (arith, count))) reaches, omega arith)
            ]),
      );
    }

pub panel_shapes : (a : ℕ → ℕ → ℤ) (parents : List (Option ℕ)) (size : ℕ) (panels : List Panel) → ArePanels a parents size size panels → ArePanelShapes size panels
panel_shapes a parents size panels p =
    record {
      count = p.count;
      rising = λ d lt. (p.known d lt).panel.rising;
      from_own = λ d lt. (p.known d lt).panel.from_own;
      own = λ d lt. (p.known d lt).panel.own;
      whole = λ d lt. (p.known d lt).panel.whole;
    }

-- the factor has the recurrence's entries
pub factor_is : RecurrenceLaws → (a : ℕ → ℕ → ℤ) (order : List ℕ) (parents : List (Option ℕ)) (panels : List Panel) (f : ColumnLists) → ArePanels a parents (length order) (length order) panels → HasColumns order panels f → IsFactorOf a order parents f
factor_is laws a order parents panels f p c =
    record {
      order_is = c.order_is;
      entries = λ i j il jl.
          let d = j / 6 in
          let q = i / 6 in
          let kept = kept_for 36 (nodes_at panels d) (entries_at panels d) q (6 * (i % 6) + j % 6) in
          c.entries i j jl
          ∙ elim (cases_lt i j) [
            | inl above ↦ ap (λ b. cond b (pos 0) kept) (lt-ltb i j above) ∙ sym (laws.entries.above a i j above)
            | inr from ↦
                let row : 6 * q + i % 6 ≡ i = omega arith in
                let column : 6 * d + j % 6 ≡ j = omega arith in
                ap (λ b. cond b (pos 0) kept) (le-ltb i j from)
                ∙ (p.known d (omega arith)).panel.entry q (i % 6) (j % 6) (omega arith) (omega arith) (omega arith) (omega arith)
                ∙ ap (λ (x : ℕ). cholesky a x (6 * d + j % 6)) row
                ∙ ap (λ (x : ℕ). cholesky a i x) column
          ];
      passes = λ d lt. (p.known d lt).passes;
    }

-- the exit of a `?` where memory ran out is a breakdown
pub no_memory : (a : ℕ → ℕ → ℤ) (order : List ℕ) (parents : List (Option ℕ)) (r : Result ColumnLists ScalarFault) → IsErrAnd r (λ fault. fault ≡ NoMemory) → MatchResult r (IsFactorOf a order parents) (IsBreakdown a order parents)
no_memory a order parents r out =
    let p = err_from_is_err_and r out in
    let P : ScalarFault → Type 0 = λ f. IsBreakdown a order parents f in
    rw p.1 (subst P (sym p.2) (0, omega arith, tt))

-- the shift, as it is kept
pub shift_is : (s : ℤ) → pos 0 ≤ℤ s → s ≤ℤ pos (2 ^ 44) → to_z w128 (of_z w128 s) ≡ s
shift_is s low high = wide_is s (omega (arith, int_sums))
