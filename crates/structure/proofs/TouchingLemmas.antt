-- The lists of the members that touch each node.
use Rattle.std.proofs.Common.{◌≡◌, ℕ, ◌+◌, ◌<◌, List, [], get_or, replicate, Contains, inl, inr, ◌∙◌, sym, subst, arith, Result, OnOk, Ok, Err}
use Rattle.std.proofs.lemmas.Bool.{cases_lt}
use Rattle.std.proofs.lemmas.List.{get_or_past, get_or-replicate, length-replicate}
use Rattle.lists.specs.Rising.{IsRising}
use Rattle.lists.specs.Lists.{list_of, ListsNumber}
use Rattle.member_set.specs.declared.members.Member.{Member}
use Rattle.member_set.specs.Members.{Touches, no_member}
use Rattle.structure.specs.Touching.{ListsTouching, ListsMember}

-- a fact of an Ok
pub on_ok : {T E P Q : Type 0} (r : Result T E) → OnOk r P → (P → Q) → OnOk r Q
on_ok (Ok x) p f = f p
on_ok (Err e) p f = tt

-- a number put into the list of each of a member's two nodes
pub ListsMember-both : (old mid new : List (List ℕ)) (m : Member) (k : ℕ) → ListsNumber old mid m.n1 k → ListsNumber mid new m.n2 k → ListsMember old new m k
ListsMember-both old mid new m k first second =
    record {
      count = second.count ∙ first.count;
      rising = second.rising;
      members = λ node b. (
        λ found. elim ((second.members node b).0 found) [
          | inl before ↦ elim ((first.members node b).0 before) [
            | inl old' ↦ inl old'
            | inr (at, is) ↦ inr (inl (sym at), is)
          ]
          | inr (at, is) ↦ inr (inr (sym at), is)
        ],
        λ either. (second.members node b).1 (elim either [
          | inl old' ↦ inl ((first.members node b).1 (inl old'))
          | inr (touch, is) ↦ elim touch [
            | inl at ↦ inl ((first.members node b).1 (inr (sym at, is)))
            | inr at ↦ inr (sym at, is)
          ]
        ]),
      );
    }

-- empty lists list no member
empty_list : (nodes node : ℕ) → list_of (replicate {A = List ℕ} nodes []) node ≡ []
empty_list nodes node = elim (cases_lt node nodes) [
  | inl inside ↦ get_or-replicate nodes node [] [] inside
  | inr past ↦ get_or_past (replicate nodes []) node [] (omega (arith, length-replicate {A = List ℕ} nodes []))
]

pub ListsTouching-none : (members : List Member) (nodes : ℕ) (lists : List (List ℕ)) → lists ≡ replicate nodes [] → ListsTouching members 0 lists
ListsTouching-none members nodes lists are =
    subst (ListsTouching members 0) (sym are)
    record {
      rising = λ node. subst IsRising (sym (empty_list nodes node)) (λ i j d lt inside. absurd (omega arith));
      touching = λ node k. (
        λ found. (let none : Contains [] k = subst (λ (xs : List ℕ). Contains xs k) (empty_list nodes node) found in absurd (omega (arith, none.1))),
        λ (below, touch). absurd (omega arith),
      );
    }

-- one member more
pub ListsTouching-more : (members : List Member) (n : ℕ) (old new : List (List ℕ)) (m : Member) → get_or members n no_member ≡ m → ListsTouching members n old → ListsMember old new m n → ListsTouching members (n + 1) new
ListsTouching-more members n old new m at before step =
    record {
      rising = step.rising;
      touching = λ node k. (
        λ found. elim ((step.members node k).0 found) [
          | inl old' ↦ (let known = (before.touching node k).0 old' in let below : k < n = known.0 in (omega arith, known.1))
          | inr (touch, is) ↦ (
            omega arith,
            subst (λ (x : ℕ). Touches (get_or members x no_member) node) (sym is)
                (subst (λ (x : Member). Touches x node) (sym at) touch),
          )
        ],
        λ (below, touch). (step.members node k).1 (elim (cases_lt k n) [
          | inl less ↦ inl ((before.touching node k).1 (less, touch))
          | inr more ↦
              (let same : k ≡ n = omega arith in
              inr (subst (λ (x : Member). Touches x node) at (subst (λ (x : ℕ). Touches (get_or members x no_member) node) same touch), same))
        ]),
      );
    }
