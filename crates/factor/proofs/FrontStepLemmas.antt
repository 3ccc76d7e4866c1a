-- A front of a tree between its children, and what eliminating it answers.
use Rattle.std.proofs.Common.{◌≡◌, ℕ, zero, suc, ◌+◌, ◌-◌, ◌*◌, ◌<◌, ◌≤◌, Bool, true, false, eqb, inl, inr, List, [], ◌∷◌, length, get_or, Contains, Option, Some, None, ◌∙◌, sym, ap, refl, arith, subst, ℤ}
use Rattle.std.specs.Prelude.{Result, Ok, Err, slice_index}
use Rattle.std.specs.Option.{option_map_or}
use Rattle.std.specs.List.{slice_get}
use Rattle.std.proofs.lemmas.Bool.{cases_lt, cases_eq, eq-eqb, eqb-true, false≢true}
use Rattle.std.proofs.lemmas.List.{get_or_default, get_or_past}
use Rattle.std.proofs.lemmas.List.FromFn.{get_or-map-range_with_len, length-map-range_with_len}
use Rattle.lists.specs.Rising.{IsRising}
use Rattle.lists.specs.Lists.{list_of}
use Rattle.sym_blocks.specs.Matrix.{Matrix}
use Rattle.elimination.specs.Elimination.{is_parent}
use Rattle.elim_tree.specs.Fronts.{Fronts, IsAssemblyTree, AreChildren, parent_in, parents_in}
use Rattle.cholesky_laws.specs.Recurrence.{RecurrenceMeetsItsEquations}
use Rattle.cholesky_laws.specs.Breakdown.{Passes}
use Rattle.cholesky_laws.specs.Factor.{Breakdown, low, too_wide, node_fails}
use Rattle.cholesky_laws.specs.Fronts.{Front, Space, Update, Eliminated, parents_of, matrix_of, IsBase, assembled, front_columns, front_update, front_value, breakdown_of, SubtreePasses, IsNextChild, IsComplete}
use Rattle.cholesky_laws.specs.FrontLaws.{FrontLaws}
use Rattle.dense_front.specs.Tree.{tree_front, tree_fronts, IsLoad, TreeFrontLaws}
use Rattle.factor.specs.State.{shifted_matrix}
use Rattle.factor.specs.Scalar.{IsBreakdownAt, IsBreakdown}
use Rattle.factor.specs.Fronts.{IsOnTree, AreWaiting, update_at}
use Rattle.factor.specs.declared.fault.ScalarFault.{ScalarFault}
use Rattle.factor.specs.declared.fault.ScalarFault.TheVariants as F
use Rattle.factor.proofs.LowerLemmas.{Agree, breaks_at_pivot-alike, breaks_wide-alike}
use Rattle.factor.proofs.FrontValueLemmas.{passes, passing-self, breaks-pivot, breaks-wide, value-ok, value-err, low-names, wide-names}

-- with the updates of the children before m, of which the first i are listed
pub record IsAssembledTo (t : Fronts) (k : Matrix) (shift : ℤ) (f : ℕ) (children : List ℕ) (i : ℕ) (s : Space) (m : ℕ) : Type 0 where
  pub space : s ≡ assembled (tree_fronts t k shift) f m
  pub most : m ≤ f
  pub before : (p : ℕ) → p < i → get_or children p 0 < m
  pub later : (p : ℕ) → i ≤ p → p < length children → m ≤ get_or children p 0

module _ (t : Fronts) (k : Matrix) (shift : ℤ) (laws : FrontLaws) (trees : TreeFrontLaws) (tree : IsAssemblyTree t) (load : IsLoad k shift) where
  abbrev base : List Front
  base = tree_fronts t k shift

  is_base : IsBase base
  is_base = trees.base t k shift tree load

  pub size-is : length base ≡ length t.order
  size-is = length-map-range_with_len (tree_front t k shift) 0 (length t.order)

  parent-read : (d : ℕ) → d < length t.order → get_or (parents_in t) d None ≡ parent_in t d
  parent-read d lt = get_or-map-range_with_len (parent_in t) 0 (length t.order) d d None lt (omega arith)

  -- the children of a front, by a test
  is-child : (f d : ℕ) → d < length t.order → parent_in t d ≡ Some f → is_parent (parents_of base) f d ≡ true
  is-child f d lt e =
      ap (λ (ps : List (Option ℕ)). is_parent ps f d) (trees.parents t k shift)
      ∙ ap (λ (o : Option ℕ). option_map_or (λ v. eqb v f) o false) (parent-read d lt ∙ e)
      ∙ eq-eqb f f refl

  named : (o : Option ℕ) (f : ℕ) → option_map_or (λ v. eqb v f) o false ≡ true → o ≡ Some f
  named (Some v) f e = ap Some (eqb-true v f e)
  named None f e = absurd (false≢true e)

  pub child-is : (f d : ℕ) → is_parent (parents_of base) f d ≡ true → (d < length t.order) × (parent_in t d ≡ Some f)
  child-is f d e =
      let here = sym (ap (λ (ps : List (Option ℕ)). is_parent ps f d) (trees.parents t k shift)) ∙ e in
      let is = named (get_or (parents_in t) d None) f here in
      elim (cases_lt d (length t.order)) [
        | inl lt ↦ (lt, sym (parent-read d lt) ∙ is)
        | inr past ↦ (let none = get_or_past (parents_in t) d None (omega (arith, past, length-map-range_with_len (parent_in t) 0 (length t.order))) in cc)
      ]

  head-in : (xs : List ℕ) (u : ℕ) → slice_get xs 0 ≡ Some u → Contains xs u
  head-in [] u e = cc
  head-in (x ∷ xs) u e = (0, omega arith, cc)

  pub child-before : (f d : ℕ) → parent_in t d ≡ Some f → d < f
  child-before f d e = (tree.above d f (head-in (list_of t.later d) f e)).0

  -- where there is no child between, nothing is added
  skip : (f m n : ℕ) → ((d : ℕ) → m ≤ d → d < m + n → is_parent (parents_of base) f d ≡ true → ⊥) → assembled base f m ≡ assembled base f (m + n)
  skip f m zero none = (let same : m ≡ m + zero = omega arith in ap (λ (x : ℕ). assembled base f x) same)
  skip f m (suc n) none =
      let more : m + suc n ≡ suc (m + n) = omega arith in
      skip f m n (λ d from to. none d from (omega arith))
      ∙ sym (laws.assembly.others base f (m + n) (not-true (is_parent (parents_of base) f (m + n)) (none (m + n) (omega arith) (omega arith))))
      ∙ ap (λ (x : ℕ). assembled base f x) (sym more)
    where
      not-true : (b : Bool) → (b ≡ true → ⊥) → b ≡ false
      not-true true never = absurd (never refl)
      not-true false never = refl

  skip-to : (f m n : ℕ) → m ≤ n → ((d : ℕ) → m ≤ d → d < n → is_parent (parents_of base) f d ≡ true → ⊥) → assembled base f m ≡ assembled base f n
  skip-to f m n le none =
      let there : m + (n - m) ≡ n = omega arith in
      skip f m (n - m) (λ d from to. none d from (omega (arith, to, there))) ∙ ap (λ (x : ℕ). assembled base f x) there

  pub start : (f : ℕ) (children : List ℕ) (s : Space) → s ≡ assembled base f 0 → IsAssembledTo t k shift f children 0 s 0
  start f children s is = record { space = is; most = omega arith; before = λ p lt. absurd (omega arith); later = λ p from to. omega arith }

  module _ (f : ℕ) (children : List ℕ) (fl : f < length t.order) (cs : AreChildren t f children) where
    listed-child : (p : ℕ) → p < length children → (get_or children p 0 < length t.order) × (parent_in t (get_or children p 0) ≡ Some f)
    listed-child p lt = (cs.members (get_or children p 0)).0 (p, lt, get_or_default children p (get_or children p 0) 0 lt)

    pub listed-before : (p : ℕ) → p < length children → get_or children p 0 < f
    listed-before p lt = child-before f (get_or children p 0) (listed-child p lt).1

    -- no child stands between m and the next one listed
    none-between : (i m : ℕ) (s : Space) → IsAssembledTo t k shift f children i s m → i < length children → (d : ℕ) → m ≤ d → d < get_or children i 0 → is_parent (parents_of base) f d ≡ true → ⊥
    none-between i m s a il d from to e =
        let (p, pl, is) = (cs.members d).1 (child-is f d e) in
        let at : get_or children p 0 ≡ d = get_or_default children p 0 d pl ∙ is in
        elim (cases_lt p i) [
          | inl before ↦ omega (arith, a.before p before, at, from)
          | inr ge ↦
              elim (cases_eq p i) [
                | inl same ↦ omega (arith, at, to, ap (λ (x : ℕ). get_or children x 0) same)
                | inr apart ↦ omega (arith, cs.rising i p 0 (omega (arith, ge, apart)) pl, at, to)
              ]
        ]

    pub at-next : (i m : ℕ) (s : Space) → IsAssembledTo t k shift f children i s m → i < length children → s ≡ assembled base f (get_or children i 0)
    at-next i m s a il = a.space ∙ skip-to f m (get_or children i 0) (a.later i (omega arith) il) (none-between i m s a il)

    pub next-child : (i m : ℕ) (s : Space) (u : Update) (updates : List Update) → IsAssembledTo t k shift f children i s m → i < length children → AreWaiting t k shift f updates → u ≡ update_at updates (get_or children i 0) → IsNextChild base (get_or children i 0) s u
    next-child i m s u updates a il w is =
        let d = get_or children i 0 in
        let child = listed-child i il in
        let front : s.front ≡ f = ap (λ (x : Space). x.front) a.space in
        record {
          fronts = is_base;
          front = omega (arith, front, fl, size-is);
          child = subst (λ (x : ℕ). is_parent (parents_of base) x d ≡ true) (sym front) (is-child f d child.0 child.1);
          space = at-next i m s a il ∙ ap (λ (x : ℕ). assembled base x d) (sym front);
          update = is ∙ w.waiting d (listed-before i il) (λ v e. subst (λ (x : ℕ). f ≤ x) (same-parent (parent_in t d) f v child.1 e) (omega arith));
          passing = λ e le h. w.passing e (child-before f e (child-is f e (subst (λ (x : ℕ). is_parent (parents_of base) x e ≡ true) front h)).1);
        }
      where
        same-parent : (o : Option ℕ) (x y : ℕ) → o ≡ Some x → o ≡ Some y → x ≡ y
        same-parent o x y e e' = cc

    pub step : (i m : ℕ) (s new : Space) → IsAssembledTo t k shift f children i s m → i < length children → new ≡ assembled base s.front (suc (get_or children i 0)) → IsAssembledTo t k shift f children (i + 1) new (suc (get_or children i 0))
    step i m s new a il is =
        record {
          space = is ∙ ap (λ (x : ℕ). assembled base x (suc (get_or children i 0))) (ap (λ (x : Space). x.front) a.space);
          most = omega (arith, listed-before i il);
          before = λ p lt.
              elim (cases_eq p i) [
                | inl same ↦ omega (arith, ap (λ (x : ℕ). get_or children x 0) same)
                | inr apart ↦ omega (arith, a.before p (omega (arith, lt, apart)), a.later i (omega arith) il)
              ];
          later = λ p from to. omega (arith, cs.rising i p 0 (omega (arith, from)) to);
        }

    pub complete : (m : ℕ) (s : Space) (updates : List Update) → IsAssembledTo t k shift f children (length children) s m → AreWaiting t k shift f updates → IsComplete base s
    complete m s updates a w =
        let front : s.front ≡ f = ap (λ (x : Space). x.front) a.space in
        let whole : s ≡ assembled base f f =
        a.space ∙ skip-to f m f a.most (λ d from to e.
        let (p, pl, is) = (cs.members d).1 (child-is f d e) in
        omega (arith, a.before p pl, get_or_default children p 0 d pl, is, from))
        in
        record {
          fronts = is_base;
          front = omega (arith, front, fl, size-is);
          space = subst (λ (x : ℕ). s ≡ assembled base x x) (sym front) whole;
          passing = λ e h. w.passing e (child-before f e (child-is f e (subst (λ (x : ℕ). is_parent (parents_of base) x e ≡ true) front h)).1);
        }

  -- nodes before a front do not fail
  fine-before : (f : ℕ) (updates : List Update) → AreWaiting t k shift f updates → (m : ℕ) → m < f → node_fails (matrix_of base) (parents_of base) (length base) m ≡ false
  fine-before f updates w m lt = passing-self base m (w.passing m lt)

  pub answer-ok : (f : ℕ) (updates : List Update) → AreWaiting t k shift f updates → (e : Eliminated) → Ok e ≡ front_value base f → (e.columns ≡ front_columns base f) × (e.update ≡ front_update base f) × SubtreePasses base f
  answer-ok f updates w e is =
      let (same, fine) = value-ok base f (fine-before f updates w) e is in
      (ap (λ (x : Eliminated). x.columns) same, ap (λ (x : Eliminated). x.update) same, fine)

  module _ (meets : RecurrenceMeetsItsEquations) (on : IsOnTree k t shift) (f : ℕ) (fl : f < length t.order) (updates : List Update) (w : AreWaiting t k shift f updates) where
    agree : Agree (6 * length t.order) (matrix_of base) (shifted_matrix k t.order shift)
    agree i j le il = trees.matrix t k shift tree on i j le il

    before-pass : (m : ℕ) → m < f → Passes (matrix_of base) (parents_in t) (length t.order) m
    before-pass m lt =
        subst (λ (ps : List (Option ℕ)). Passes (matrix_of base) ps (length t.order) m) (trees.parents t k shift)
        (subst (λ (n : ℕ). Passes (matrix_of base) (parents_of base) n m) size-is (passes (matrix_of base) (parents_of base) (length base) m (fine-before f updates w m lt)))

    pub answer-pivot : (front dof : ℕ) → Err (low front dof) ≡ front_value base f → IsBreakdown (shifted_matrix k t.order shift) t.order (parents_in t) (F.Pivot (slice_index t.order front) dof)
    answer-pivot front dof is =
        let (bad, same) = value-err base f (fine-before f updates w) (low front dof) is in
        let (front_is, found) = low-names (matrix_of base) f front dof same in
        let (inside, breaks) = breaks-pivot (matrix_of base) (parents_in t) (length t.order) f dof fl before-pass found in
        (f, omega arith, (ap (slice_index t.order) (sym front_is), inside, breaks_at_pivot-alike meets (length t.order) (matrix_of base) (shifted_matrix k t.order shift) agree (parents_in t) (6 * f + dof) breaks))

    pub answer-wide : (front : ℕ) → Err (too_wide front) ≡ front_value base f → IsBreakdown (shifted_matrix k t.order shift) t.order (parents_in t) (F.Wide (slice_index t.order front))
    answer-wide front is =
        let (bad, same) = value-err base f (fine-before f updates w) (too_wide front) is in
        let (front_is, none) = wide-names (matrix_of base) f front same in
        let fails =
        subst (λ (ps : List (Option ℕ)). node_fails (matrix_of base) ps (length t.order) f ≡ true) (trees.parents t k shift)
        (subst (λ (n : ℕ). node_fails (matrix_of base) (parents_of base) n f ≡ true) size-is bad)
        in
        (f, omega arith, (ap (slice_index t.order) (sym front_is), breaks_wide-alike meets (length t.order) (matrix_of base) (shifted_matrix k t.order shift) agree (parents_in t) f (breaks-wide (matrix_of base) (parents_in t) (length t.order) f fl before-pass none fails)))

-- a front that is listed among a front's children has it as its parent
pub listed-parent : (t : Fronts) (f : ℕ) (children : List ℕ) → AreChildren t f children → (p d : ℕ) → p < length children → get_or children p 0 ≡ d → parent_in t d ≡ Some f
listed-parent t f children cs p d lt is = ((cs.members d).0 (p, lt, get_or_default children p d 0 lt ∙ is)).1
