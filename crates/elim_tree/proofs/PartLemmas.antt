-- The parts of a tree, one after another.
use Rattle.std.proofs.Common.{◌≡◌, ℕ, ◌+◌, ◌<◌, List, [], ◌∷◌, ◌++◌, length, get_or, take, replicate, inl, inr, ◌∙◌, sym, ap, arith, subst, Option, Some, None, Vec, Global}
use Rattle.std.proofs.lemmas.Bool.{cases_eq}
use Rattle.std.proofs.lemmas.List.{take_more, map-append}
use Rattle.std.proofs.lemmas.List.Sums.{sum_by_push}
use Rattle.lists.specs.Rising.{IsRising}
use Rattle.lists.specs.Lists.{contents, ListsNumber}
use Rattle.elim_tree.specs.Fronts.{front_entries, entries_of}
use Rattle.elim_tree.specs.Parts.{ListsChildren}
use Rattle.elim_tree.proofs.HeadLemmas.{empty_at, list_of-empty}

-- one front's entries more
pub entries_more : (vs : List (Vec ℕ Global)) (i : ℕ) (v : Vec ℕ Global) → i < length vs → v ≡ get_or vs i v → entries_of (contents (take (i + 1) vs)) ≡ entries_of (contents (take i vs)) + front_entries (length v.items)
entries_more vs i v lt is =
    let one : take (i + 1) vs ≡ take i vs ++ v ∷ [] = take_more vs i v lt ∙ ap (λ (w : Vec ℕ Global). take i vs ++ w ∷ []) (sym is) in
    ap (λ (ws : List (Vec ℕ Global)). entries_of (contents ws)) one
    ∙ ap entries_of (map-append (λ (w : Vec ℕ Global). w.items) (take i vs) (v ∷ []))
    ∙ sum_by_push (λ (places : List ℕ). front_entries (length places)) (contents (take i vs)) v.items

pub children_none : (parents : List (Option ℕ)) (count : ℕ) (lists : List (List ℕ)) → lists ≡ replicate count [] → ListsChildren parents 0 lists
children_none parents count lists empty =
    let P : List (List ℕ) → Type 0 = λ ls. ListsChildren parents 0 ls in
    subst P (sym empty)
    record {
      rising = λ f. subst IsRising (sym (empty_at count f)) (λ i j d il jl. absurd (omega arith));
      members = λ f c. (λ h. absurd (list_of-empty count f c h), λ (lt, _). absurd (omega arith));
    }

pub children_more : (parents : List (Option ℕ)) (n u : ℕ) (cur new : List (List ℕ)) → get_or parents n None ≡ Some u → ListsChildren parents n cur → ListsNumber cur new u n → ListsChildren parents (n + 1) new
children_more parents n u cur new is l step =
    record {
      rising = step.rising;
      members = λ f c. (
        λ h.
            elim ((step.members f c).0 h) as (λ _. (c < n + 1) × (get_or parents c None ≡ Some f)) [
              | inl old ↦ (let both = (l.members f c).0 old in (omega (arith, both.0), both.1))
              | inr (e, e') ↦
                  (let P : ℕ → Type 0 = λ z. get_or parents z None ≡ Some f in
                  (omega (arith, e'), subst P (sym e') (is ∙ ap (λ (x : ℕ). Some x) (sym e))))
            ],
        λ (lt, e).
            (step.members f c).1
            (elim (cases_eq c n) [
              | inl same ↦ (let P : ℕ → Type 0 = λ z. get_or parents z None ≡ Some f in inr (some_same (sym (subst P same e) ∙ is), same))
              | inr ne ↦ inl ((l.members f c).1 (omega arith, e))
            ]),
      );
    }
  where
    some_same : {a b : ℕ} → Some a ≡ Some b → a ≡ b
    some_same e = cc

pub children_skip : (parents : List (Option ℕ)) (n : ℕ) (cur : List (List ℕ)) → get_or parents n None ≡ None → ListsChildren parents n cur → ListsChildren parents (n + 1) cur
children_skip parents n cur is l =
    record {
      rising = l.rising;
      members = λ f c. (
        λ h. let both = (l.members f c).0 h in (omega (arith, both.0), both.1),
        λ (lt, e).
            elim (cases_eq c n) [
              | inl same ↦ (let P : ℕ → Type 0 = λ z. get_or parents z None ≡ Some f in none_some (sym is ∙ subst P same e))
              | inr ne ↦ (l.members f c).1 (omega arith, e)
            ],
      );
    }
  where
    none_some : {b : ℕ} {Q : Type 0} → None ≡ Some b → Q
    none_some e = cc
