-- How the sums of loads grow by one load.
use Rattle.std.proofs.Common.{◌≡◌, ◌≢◌, refl, ap, subst, ℕ, ◌+◌, ◌*◌, ◌/◌, ◌%◌, ◌<◌, ◌⊎◌, inl, inr, ◌==◌, ◌∷◌, [], ◌++◌, List, map, length, take, get_or, arith, sym, ◌∙◌, Ok, Bool, true, false, cond, pos}
use Rattle.std.specs.List.{fold, flat_map, slice_index_or}
use Rattle.std.proofs.lemmas.List.{append_assoc, append-nil}
use Rattle.std.proofs.lemmas.List.Elements.{filter-append}
use Rattle.std.proofs.lemmas.List.Sums.{fold-append}
use Rattle.std.proofs.lemmas.Bool.Decides.{nat_tests}
use Rattle.flex_interval.specs.Ends.{Ends}
use Rattle.flex_interval.specs.Fraction.{Within, plus, whole}
use Rattle.flex_interval.specs.Operations.{add_of}
use Rattle.flex_interval.proofs.InclusionLaws.{sum_holds}
use Rattle.member_set.specs.Members.{nothing, load_of}
use Rattle.model_types.specs.Lists.{Lists}
use Rattle.model_types.specs.declared.records.Force.{Force}
use Rattle.load_vectors.specs.NodeLoads.{NodeLoad, Reading, IsReading}
use Rattle.load_vectors.specs.Loads.{on_row, sum_on, exact_sum_on, then_add}
use Rattle.load_vectors.specs.Totals.{AddsLoads, AddsParts, AreTotals, ArePartsOf, IsTotal}
use Rattle.load_vectors.proofs.Listing.{flat_map_take}

-- what stands for a force that isn't there
abbrev pub no_force : Force
no_force = record { case = record { 0 = 0 }; node = record { 0 = 0 }; fx = pos 0; fy = pos 0; fz = pos 0; mx = pos 0; my = pos 0; mz = pos 0 }

same_test : (a b : ℕ) → a ≡ b → (a == b) ≡ true
same_test a b same = grind (arith, nat_tests)

other_test : (a b : ℕ) → a ≢ b → (a == b) ≡ false
other_test a b apart = grind (arith, nat_tests)

on_row-here : (loads : List NodeLoad) (p : NodeLoad) (row : ℕ) → p.node ≡ row / 6 → on_row (loads ++ p ∷ []) row ≡ on_row loads row ++ p ∷ []
on_row-here loads p row same =
    filter-append (λ q. q.node == row / 6) loads (p ∷ []) ∙ ap (λ (b : Bool). on_row loads row ++ cond b (p ∷ []) []) (same_test p.node (row / 6) same)

on_row-elsewhere : (loads : List NodeLoad) (p : NodeLoad) (row : ℕ) → p.node ≢ row / 6 → on_row (loads ++ p ∷ []) row ≡ on_row loads row
on_row-elsewhere loads p row apart =
    filter-append (λ q. q.node == row / 6) loads (p ∷ []) ∙ ap (λ (b : Bool). on_row loads row ++ cond b (p ∷ []) []) (other_test p.node (row / 6) apart) ∙ append-nil (on_row loads row)

map_append : {A B : Type 0} (f : A → B) (xs ys : List A) → map f (xs ++ ys) ≡ map f xs ++ map f ys
map_append f [] ys = refl
map_append f (x ∷ xs) ys = ap (λ zs. f x ∷ zs) (map_append f xs ys)

-- a fold over one item more
fold_more : {A B C : Type 0} (step : B → C → B) (part : A → C) (start : B) (xs : List A) (x : A) → fold step start (map part (xs ++ x ∷ [])) ≡ step (fold step start (map part xs)) (part x)
fold_more step part start xs x = ap (λ ys. fold step start ys) (map_append part xs (x ∷ [])) ∙ fold-append step start (map part xs) (part x ∷ [])

sum_here : (loads : List NodeLoad) (p : NodeLoad) (row : ℕ) → p.node ≡ row / 6 → sum_on (loads ++ p ∷ []) row ≡ then_add (sum_on loads row) (p.part (row % 6))
sum_here loads p row same =
    ap (λ (ps : List NodeLoad). fold then_add (Ok nothing) (map (λ q. q.part (row % 6)) ps)) (on_row-here loads p row same)
    ∙ fold_more then_add (λ (q : NodeLoad). q.part (row % 6)) (Ok nothing) (on_row loads row) p

exact_here : (x : Reading) (loads : List NodeLoad) (p : NodeLoad) (row : ℕ) → p.node ≡ row / 6 → exact_sum_on x (loads ++ p ∷ []) row ≡ plus (exact_sum_on x loads row) (p.exact x (row % 6))
exact_here x loads p row same =
    ap (λ (ps : List NodeLoad). fold plus (whole (pos 0)) (map (λ q. q.exact x (row % 6)) ps)) (on_row-here loads p row same)
    ∙ fold_more plus (λ (q : NodeLoad). q.exact x (row % 6)) (whole (pos 0)) (on_row loads row) p

-- a load more on the rows of its node
total_here : (loads : List NodeLoad) (p : NodeLoad) (row : ℕ) (old part new : Ends) → p.node ≡ row / 6 → p.part (row % 6) ≡ Ok part → ((x : Reading) → IsReading x → Within part (p.exact x (row % 6))) →
    add_of old part ≡ Ok new → IsTotal loads row old → IsTotal (loads ++ p ∷ []) row new
total_here loads p row old part new same is within sum t =
    record {
      value = sum_here loads p row same ∙ rw (t.value, is) sum;
      within = λ x reading. rw (exact_here x loads p row same) (sum_holds old part new (exact_sum_on x loads row) (p.exact x (row % 6)) sum (t.within x reading) (within x reading));
    }

-- and none on the others
total_elsewhere : (loads : List NodeLoad) (p : NodeLoad) (row : ℕ) (e : Ends) → p.node ≢ row / 6 → IsTotal loads row e → IsTotal (loads ++ p ∷ []) row e
total_elsewhere loads p row e apart t =
    let same = on_row-elsewhere loads p row apart in
    record {
      value = ap (λ (ps : List NodeLoad). fold then_add (Ok nothing) (map (λ q. q.part (row % 6)) ps)) same ∙ t.value;
      within = λ x reading. subst (λ (ps : List NodeLoad). Within e (fold plus (whole (pos 0)) (map (λ q. q.exact x (row % 6)) ps))) (sym same) (t.within x reading);
    }

pub adds_load : (m : Lists) (p : NodeLoad) (old new parts : List Ends) → ArePartsOf p parts → AddsParts old new p.node parts → AddsLoads m (p ∷ []) old new
adds_load m p old new parts of adds before t =
    record { one_each = adds.one_each ∙ t.one_each; total = at }
  where
    at : (row : ℕ) → row < 6 * length m.nodes → IsTotal (before ++ p ∷ []) row (load_of new row)
    at row inside =
        let which : (p.node ≡ row / 6) ⊎ (p.node ≢ row / 6) = search arith in
        elim which [
          | inl same ↦
              let below : row % 6 < 6 = omega arith in
              let back : 6 * p.node + row % 6 ≡ row = omega (arith, same) in
              let sum = subst (λ (k : ℕ). add_of (load_of old k) (slice_index_or parts (row % 6) nothing) ≡ Ok (load_of new k)) back (adds.here (row % 6) below) in
              total_here before p row (load_of old row) (slice_index_or parts (row % 6) nothing) (load_of new row) same (of.value (row % 6) below) (λ x reading. of.within x reading (row % 6) below) sum (t.total row inside)
          | inr apart ↦ rw (adds.elsewhere row (λ same. apart (sym same))) (total_elsewhere before p row (load_of old row) apart (t.total row inside))
        ]

pub adds_nothing : (m : Lists) (loads : List Ends) → AddsLoads m [] loads loads
adds_nothing m loads before t = rw (append-nil before) t

pub adds_both : (m : Lists) (ps qs : List NodeLoad) (old now new : List Ends) → AddsLoads m ps old now → AddsLoads m qs now new → AddsLoads m (ps ++ qs) old new
adds_both m ps qs old now new first second before t = subst (λ (all : List NodeLoad). AreTotals m all new) (append_assoc before ps qs) (second (before ++ ps) (first before t))

-- the loads of one more record
pub adds_next : {X : Type 0} (m : Lists) (f : X → List NodeLoad) (xs : List X) (i : ℕ) (x d : X) (old now new : List Ends) → i < length xs → x ≡ get_or xs i d →
    AddsLoads m (flat_map f (take i xs)) old now → AddsLoads m (f x) now new → AddsLoads m (flat_map f (take (i + 1) xs)) old new
adds_next m f xs i x d old now new inside at first second =
    rw (flat_map_take f xs i d inside, ← at) (adds_both m (flat_map f (take i xs)) (f x) old now new first second)
