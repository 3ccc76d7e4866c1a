-- How six intervals are added to the rows of a node, one after another.
use Rattle.std.proofs.Common.{◌≡◌, ◌≢◌, refl, subst, ℕ, ◌+◌, ◌*◌, ◌/◌, ◌%◌, ◌<◌, ◌≤◌, ◌⊎◌, inl, inr, List, length, set, length-set, get_or-set_same, get_or-set_other, arith, sym, ◌∙◌, Ok}
use Rattle.std.specs.List.{slice_index_or}
use Rattle.flex_interval.specs.Ends.{Ends}
use Rattle.flex_interval.specs.Operations.{add_of}
use Rattle.member_set.specs.Members.{nothing, load_of}
use Rattle.load_vectors.specs.Totals.{AddsParts, AreOfLoads, IsOfLoads}

-- the first parts are added
pub record IsAdding (old new : List Ends) (node : ℕ) (parts : List Ends) (freedoms : ℕ) : Type 0 where
  pub one_each : length new ≡ length old
  pub rest : (row : ℕ) → (row < 6 * node) ⊎ (6 * node + freedoms ≤ row) → load_of new row ≡ load_of old row
  pub done : (freedom : ℕ) → freedom < freedoms → add_of (load_of old (6 * node + freedom)) (slice_index_or parts freedom nothing) ≡ Ok (load_of new (6 * node + freedom))
  pub size : (n : ℕ) → AreOfLoads n old → (freedom : ℕ) → freedom < freedoms → IsOfLoads (n + 1) (load_of new (6 * node + freedom))

pub adding_start : (old : List Ends) (node : ℕ) (parts : List Ends) → IsAdding old old node parts 0
adding_start old node parts = record { one_each = refl; rest = λ row side. refl; done = λ freedom none. absurd (omega arith); size = λ n of freedom none. absurd (omega arith) }

off : (node i row : ℕ) → (row < 6 * node) ⊎ (6 * node + (i + 1) ≤ row) → row ≢ 6 * node + i
off node i row (inl less) = omega arith
off node i row (inr more) = omega arith

before : (node i row : ℕ) → (row < 6 * node) ⊎ (6 * node + (i + 1) ≤ row) → (row < 6 * node) ⊎ (6 * node + i ≤ row)
before node i row (inl less) = inl less
before node i row (inr more) = inr (omega arith)

pub adding_next : (old new : List Ends) (node : ℕ) (parts : List Ends) (i : ℕ) (r : Ends) → 6 * node + 6 ≤ length old → i < 6 → IsAdding old new node parts i →
    add_of (load_of new (6 * node + i)) (slice_index_or parts i nothing) ≡ Ok r → ((n : ℕ) → IsOfLoads n (load_of new (6 * node + i)) → IsOfLoads (n + 1) r) →
    IsAdding old (set new (6 * node + i) r) node parts (i + 1)
adding_next old new node parts i r rows below a sum size =
    let at = 6 * node + i in
    let inside : at < length new = omega (arith, a.one_each, rows, below) in
    let here : load_of new at ≡ load_of old at = a.rest at (inr (omega arith)) in
    record {
      one_each = length-set new at r ∙ a.one_each;
      rest = λ row side. rw (get_or-set_other new at row r nothing (off node i row side)) (a.rest row (before node i row side));
      done = λ freedom fewer.
          let which : (freedom ≡ i) ⊎ (freedom < i) = search arith in
          elim which [
            | inl e ↦ rw (e, get_or-set_same new at r nothing inside) (rw here at sum)
            | inr less ↦
                let apart : 6 * node + freedom ≢ at = omega (arith, less) in
                rw (get_or-set_other new at (6 * node + freedom) r nothing apart) (a.done freedom less)
          ];
      size = λ n of freedom fewer.
          let which : (freedom ≡ i) ⊎ (freedom < i) = search arith in
          elim which [
            | inl e ↦ rw (e, get_or-set_same new at r nothing inside) (size n (rw here (of at (omega (arith, a.one_each, inside)))))
            | inr less ↦
                let apart : 6 * node + freedom ≢ at = omega (arith, less) in
                rw (get_or-set_other new at (6 * node + freedom) r nothing apart) (a.size n of freedom less)
          ];
    }

sides : (node row : ℕ) → node ≢ row / 6 → (row < 6 * node) ⊎ (6 * node + 6 ≤ row)
sides node row apart = grind arith

pub adding_end : (old new : List Ends) (node : ℕ) (parts : List Ends) → IsAdding old new node parts 6 → AddsParts old new node parts
adding_end old new node parts a =
    record { one_each = a.one_each; here = a.done; elsewhere = λ row apart. a.rest row (sides node row (λ same. apart (sym same))) }

IsOfLoads-more : (n : ℕ) (e : Ends) → IsOfLoads n e → IsOfLoads (n + 1) e
IsOfLoads-more n e size = record { lo_most = omega (arith, size.lo_most); hi_most = omega (arith, size.hi_most) }

pub adding_size : (old new : List Ends) (node : ℕ) (parts : List Ends) (n : ℕ) → IsAdding old new node parts 6 → AreOfLoads n old → AreOfLoads (n + 1) new
adding_size old new node parts n a of row inside =
    let which : (node ≡ row / 6) ⊎ (node ≢ row / 6) = search arith in
    elim which [
      | inl same ↦
          let back : 6 * node + row % 6 ≡ row = omega (arith, same) in
          subst (λ (k : ℕ). IsOfLoads (n + 1) (load_of new k)) back (a.size n of (row % 6) (omega arith))
      | inr apart ↦ rw (a.rest row (sides node row apart)) (IsOfLoads-more n (load_of old row) (of row (omega (arith, a.one_each, inside))))
    ]

pub more_room : (n m : ℕ) (loads : List Ends) → n ≤ m → AreOfLoads n loads → AreOfLoads m loads
more_room n m loads fewer of row inside =
    let size = of row inside in
    record { lo_most = omega (arith, size.lo_most); hi_most = omega (arith, size.hi_most) }
