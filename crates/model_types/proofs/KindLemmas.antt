-- Lemmas on kinds, and on a list cut at a place.
use Rattle.std.proofs.Common.{◌≡◌, ℕ, zero, suc, ◌+◌, ◌<◌, ◌≤◌, ◌==◌, nat_lt, Bool, true, false, List, [], ◌∷◌, ◌++◌, ◌⊎◌, inl, inr, map, take, length, get_or, slice_get, Some, cond, if◌then◌else◌, refl, sym, ap, subst, ◌∙◌, arith}
use Rattle.std.proofs.Math.Seq.{take-append_seam}
use Rattle.std.proofs.lemmas.Bool.{cond-true, cond-false}
use Rattle.std.proofs.lemmas.Bool.Decides.{nat_tests}
use Rattle.std.proofs.lemmas.List.Sums.{length-filter, sum_by-append, sum_by-cons, sum_by_more_le}
use Rattle.std.proofs.lemmas.Option.{slice_get-get_or, slice_get_within, get_or_from_slice_get}
use Rattle.std.specs.List.{count_by}
use Rattle.model_types.specs.declared.records.Restraint.{Restraint}
use Rattle.model_types.specs.declared.records.Check.{Check}
use Rattle.model_types.specs.declared.records.Record.{Record}
use Rattle.model_types.specs.declared.records.Record.TheVariants as record_of
use Rattle.model_types.specs.Kinds.{Kind, material_kind, section_kind, node_kind, element_kind, tee_kind, restraint_kind, case_kind, temp_kind, pressure_kind, force_kind, move_kind, check_kind, place, Of, list, as_record, kind_of, value_of, count, key, keys, refs, check_refs, AreThere, is_stop, has_stop, stop_count, cut, before}
use Rattle.model_types.specs.Lists.{Lists, no_records, added}
use Rattle.model_types.specs.Rules.{KeepsOwn, NamesSustained}

-- what a kind's definitions say of each other
pub record OfKind (k : Kind) : Type 0 where
  pub counted : (m : Lists) → count m k ≡ length (list m k)
  pub keyed : (m : Lists) → keys m k ≡ map (λ x. key (as_record k x)) (list m k)
  pub cut_is : (m : Lists) (j : Kind) (i : ℕ) → list (before m j i) k ≡ cut (place k) (place j) i (list m k)
  pub kind_is : (x : Of k) → kind_of (as_record k x) ≡ k
  pub none : list no_records k ≡ []

pub of_kind : (k : Kind) → OfKind k
of_kind material_kind = record { counted = λ m. refl; keyed = λ m. refl; cut_is = λ m j i. refl; kind_is = λ x. refl; none = refl }
of_kind section_kind = record { counted = λ m. refl; keyed = λ m. refl; cut_is = λ m j i. refl; kind_is = λ x. refl; none = refl }
of_kind node_kind = record { counted = λ m. refl; keyed = λ m. refl; cut_is = λ m j i. refl; kind_is = λ x. refl; none = refl }
of_kind element_kind = record { counted = λ m. refl; keyed = λ m. refl; cut_is = λ m j i. refl; kind_is = λ x. refl; none = refl }
of_kind tee_kind = record { counted = λ m. refl; keyed = λ m. refl; cut_is = λ m j i. refl; kind_is = λ x. refl; none = refl }
of_kind restraint_kind = record { counted = λ m. refl; keyed = λ m. refl; cut_is = λ m j i. refl; kind_is = λ x. refl; none = refl }
of_kind case_kind = record { counted = λ m. refl; keyed = λ m. refl; cut_is = λ m j i. refl; kind_is = λ x. refl; none = refl }
of_kind temp_kind = record { counted = λ m. refl; keyed = λ m. refl; cut_is = λ m j i. refl; kind_is = λ x. refl; none = refl }
of_kind pressure_kind = record { counted = λ m. refl; keyed = λ m. refl; cut_is = λ m j i. refl; kind_is = λ x. refl; none = refl }
of_kind force_kind = record { counted = λ m. refl; keyed = λ m. refl; cut_is = λ m j i. refl; kind_is = λ x. refl; none = refl }
of_kind move_kind = record { counted = λ m. refl; keyed = λ m. refl; cut_is = λ m j i. refl; kind_is = λ x. refl; none = refl }
of_kind check_kind = record { counted = λ m. refl; keyed = λ m. refl; cut_is = λ m j i. refl; kind_is = λ x. refl; none = refl }

-- how many stops a record is
abbrev pub stop_count_of : Record → ℕ
stop_count_of r = cond (has_stop r) 1 0

stops_counted : (xs : List Restraint) → stop_count xs ≡ count_by (λ x. is_stop x.kind) xs
stops_counted xs = length-filter (λ x. is_stop x.kind) xs

stop_count-push : (xs : List Restraint) (r : Restraint) → stop_count (xs ++ r ∷ []) ≡ stop_count xs + cond (is_stop r.kind) 1 0
stop_count-push xs r =
    omega (arith, stops_counted xs, stops_counted (xs ++ r ∷ []), sum_by-append (λ (x : Restraint). cond (is_stop x.kind) 1 0) xs (r ∷ []), sum_by-cons (λ (x : Restraint). cond (is_stop x.kind) 1 0) r [])

-- before a stop there is one stop less than there are with it
pub stop_count-before : (xs : List Restraint) (i : ℕ) (r : Restraint) → slice_get xs i ≡ Some r → is_stop r.kind ≡ true → stop_count (take i xs) < stop_count xs
stop_count-before xs i r at stop =
    let here : is_stop (get_or xs i r).kind ≡ true = ap (λ (x : Restraint). is_stop x.kind) (get_or_from_slice_get xs i r r at) ∙ stop in
    omega (arith, stops_counted xs, stops_counted (take i xs), sum_by_more_le (λ (x : Restraint). cond (is_stop x.kind) 1 0) xs i r (slice_get_within xs i r at), cond-true {A = ℕ} (is_stop (get_or xs i r).kind) 1 0 here)

-- and what they say of a record: it is added at the end of its kind, and what its rule speaks of stands before it
pub record OfRecord (r : Record) : Type 0 where
  pub added_is : (m : Lists) → list (added m r) (kind_of r) ≡ list m (kind_of r) ++ value_of r ∷ []
  pub stops_are : (m : Lists) → stop_count (added m r).restraints ≡ stop_count m.restraints + stop_count_of r
  pub record_is : as_record (kind_of r) (value_of r) ≡ r
  pub known : (m : Lists) → AreThere m (refs r) → AreThere (before (added m r) (kind_of r) (length (list m (kind_of r)))) (refs r)
  pub own : (m : Lists) → KeepsOwn m r → KeepsOwn (before (added m r) (kind_of r) (length (list m (kind_of r)))) r

-- all others stand before a check that is added: checks are the last kind
before_a_check : (m : Lists) (r : Check) → before (added m (record_of.Check r)) check_kind (length m.checks) ≡ m
before_a_check m r = ap (λ checks. record m { checks = checks }) (take-append_seam m.checks (r ∷ []))

pub of_record : (r : Record) → OfRecord r
of_record (record_of.Material r) = record { added_is = λ m. refl; stops_are = λ m. omega arith; record_is = refl; known = λ m k. k; own = λ m k. k }
of_record (record_of.Section r) = record { added_is = λ m. refl; stops_are = λ m. omega arith; record_is = refl; known = λ m k. k; own = λ m k. k }
of_record (record_of.Node r) = record { added_is = λ m. refl; stops_are = λ m. omega arith; record_is = refl; known = λ m k. k; own = λ m k. k }
of_record (record_of.Element r) = record { added_is = λ m. refl; stops_are = λ m. omega arith; record_is = refl; known = λ m k. k; own = λ m k. record { span = k.span; shape = k.shape } }
of_record (record_of.Tee r) = record { added_is = λ m. refl; stops_are = λ m. omega arith; record_is = refl; known = λ m k. k; own = λ m k. k }
of_record (record_of.Restraint r) = record { added_is = λ m. refl; stops_are = λ m. stop_count-push m.restraints r; record_is = refl; known = λ m k. k; own = λ m k. k }
of_record (record_of.Case r) = record { added_is = λ m. refl; stops_are = λ m. omega arith; record_is = refl; known = λ m k. k; own = λ m k. k }
of_record (record_of.Temp r) = record { added_is = λ m. refl; stops_are = λ m. omega arith; record_is = refl; known = λ m k. k; own = λ m k. k }
of_record (record_of.Pressure r) = record { added_is = λ m. refl; stops_are = λ m. omega arith; record_is = refl; known = λ m k. k; own = λ m k. k }
of_record (record_of.Force r) = record { added_is = λ m. refl; stops_are = λ m. omega arith; record_is = refl; known = λ m k. k; own = λ m k. k }
of_record (record_of.Move r) = record { added_is = λ m. refl; stops_are = λ m. omega arith; record_is = refl; known = λ m k. k; own = λ m k. k }
of_record (record_of.Check r) = record {
  added_is = λ m. refl;
  stops_are = λ m. omega arith;
  record_is = refl;
  known = λ m k. subst (λ p. AreThere p (check_refs r.kind)) (sym (before_a_check m r)) k;
  own = λ m k. subst (λ p. NamesSustained p r.kind) (sym (before_a_check m r)) k;
}

-- what holds of the list with the record, and of the others as they were, holds of all
pub added_elim : (m : Lists) (r : Record) (P : (j : Kind) → List (Of j) → Type 0) → P (kind_of r) (list m (kind_of r) ++ value_of r ∷ []) → ((j : Kind) → P j (list m j)) → (j : Kind) → P j (list (added m r) j)
added_elim m (record_of.Material r) P new old material_kind = new
added_elim m (record_of.Material r) P new old j = old j
added_elim m (record_of.Section r) P new old section_kind = new
added_elim m (record_of.Section r) P new old j = old j
added_elim m (record_of.Node r) P new old node_kind = new
added_elim m (record_of.Node r) P new old j = old j
added_elim m (record_of.Element r) P new old element_kind = new
added_elim m (record_of.Element r) P new old j = old j
added_elim m (record_of.Tee r) P new old tee_kind = new
added_elim m (record_of.Tee r) P new old j = old j
added_elim m (record_of.Restraint r) P new old restraint_kind = new
added_elim m (record_of.Restraint r) P new old j = old j
added_elim m (record_of.Case r) P new old case_kind = new
added_elim m (record_of.Case r) P new old j = old j
added_elim m (record_of.Temp r) P new old temp_kind = new
added_elim m (record_of.Temp r) P new old j = old j
added_elim m (record_of.Pressure r) P new old pressure_kind = new
added_elim m (record_of.Pressure r) P new old j = old j
added_elim m (record_of.Force r) P new old force_kind = new
added_elim m (record_of.Force r) P new old j = old j
added_elim m (record_of.Move r) P new old move_kind = new
added_elim m (record_of.Move r) P new old j = old j
added_elim m (record_of.Check r) P new old check_kind = new
added_elim m (record_of.Check r) P new old j = old j

module _ {X : Type 0} where
  -- what a list has below its length it has with more
  pub slice_get-append_below : (xs ys : List X) (i : ℕ) → i < length xs → slice_get (xs ++ ys) i ≡ slice_get xs i
  slice_get-append_below [] ys i i_in = absurd (omega (arith, i_in))
  slice_get-append_below (x ∷ xs) ys zero i_in = refl
  slice_get-append_below (x ∷ xs) ys (suc i) i_in = slice_get-append_below xs ys i (omega (arith, i_in))

  -- what a list has with one more element: what it had, or that one at its end
  pub slice_get-push : (xs : List X) (v : X) (i : ℕ) (x : X) → slice_get (xs ++ v ∷ []) i ≡ Some x → (slice_get xs i ≡ Some x) ⊎ ((i ≡ length xs) × (v ≡ x))
  slice_get-push [] v zero x e = let same : v ≡ x = cc in inr (refl, same)
  slice_get-push [] v (suc i) x e = cc
  slice_get-push (w ∷ xs) v zero x e = inl e
  slice_get-push (w ∷ xs) v (suc i) x e = by (slice_get-push xs v i x e)
    where
      by : (slice_get xs i ≡ Some x) ⊎ ((i ≡ length xs) × (v ≡ x)) → (slice_get xs i ≡ Some x) ⊎ ((suc i ≡ length (w ∷ xs)) × (v ≡ x))
      by (inl had) = inl had
      by (inr last) = inr (omega (arith, last.0), last.1)

  pub slice_get-last : (xs : List X) (v : X) → slice_get (xs ++ v ∷ []) (length xs) ≡ Some v
  slice_get-last [] v = refl
  slice_get-last (x ∷ xs) v = slice_get-last xs v

  -- what the first i elements have
  pub slice_get-take : (i : ℕ) (xs : List X) (p : ℕ) (y : X) → slice_get (take i xs) p ≡ Some y → (p < i) × (slice_get xs p ≡ Some y)
  slice_get-take zero xs p y e = cc
  slice_get-take (suc i) [] p y e = cc
  slice_get-take (suc i) (x ∷ xs) zero y e = (omega arith, e)
  slice_get-take (suc i) (x ∷ xs) (suc p) y e = let rest = slice_get-take i xs p y e in (omega (arith, rest.0), rest.1)

  pub slice_get-in_take : (i : ℕ) (xs : List X) (p : ℕ) (y : X) → p < i → slice_get xs p ≡ Some y → slice_get (take i xs) p ≡ Some y
  slice_get-in_take zero xs p y inside e = absurd (omega arith)
  slice_get-in_take (suc i) [] p y inside e = cc
  slice_get-in_take (suc i) (x ∷ xs) zero y inside e = e
  slice_get-in_take (suc i) (x ∷ xs) (suc p) y inside e = slice_get-in_take i xs p y (omega (arith, inside)) e

  -- a list that has what another has is as long
  pub length-slices : (xs ys : List X) → ((i : ℕ) (x : X) → slice_get xs i ≡ Some x → slice_get ys i ≡ Some x) → length xs ≤ length ys
  length-slices [] ys has = omega arith
  length-slices (x ∷ xs) ys has =
      let inside : length xs < length (x ∷ xs) = omega arith in
      let last : length xs < length ys = slice_get_within ys (length xs) _ (has (length xs) _ (slice_get-get_or (x ∷ xs) (length xs) x inside)) in
      omega (arith, last)

  module _ (own now i : ℕ) (p : ℕ) (y : X) where
    -- a cut list has nothing that the list hasn't
    pub cut-within : (xs : List X) → slice_get (cut own now i xs) p ≡ Some y → slice_get xs p ≡ Some y
    cut-within xs = by (nat_lt own now) (own == now)
      where
        by : (b c : Bool) → slice_get (if b then xs else (if c then take i xs else [])) p ≡ Some y → slice_get xs p ≡ Some y
        by true c e = e
        by false true e = (slice_get-take i xs p y e).1
        by false false e = cc

    -- and more, where the list has more
    pub cut-more : (xs ys : List X) → ((q : ℕ) (x : X) → slice_get xs q ≡ Some x → slice_get ys q ≡ Some x) → slice_get (cut own now i xs) p ≡ Some y → slice_get (cut own now i ys) p ≡ Some y
    cut-more xs ys has = by (nat_lt own now) (own == now)
      where
        by : (b c : Bool) → slice_get (if b then xs else (if c then take i xs else [])) p ≡ Some y → slice_get (if b then ys else (if c then take i ys else [])) p ≡ Some y
        by true c e = has p y e
        by false true e = let part = slice_get-take i xs p y e in slice_get-in_take i ys p y part.0 (has p y part.1)
        by false false e = cc

  -- a kind's own list is cut to its first i records
  pub cut-own : (own i : ℕ) (xs : List X) → cut own own i xs ≡ take i xs
  cut-own own i xs = cond-false (nat_lt own own) _ _ (grind (arith, nat_tests)) ∙ cond-true (own == own) _ _ (grind (arith, nat_tests))
