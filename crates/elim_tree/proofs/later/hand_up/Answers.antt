use Rattle.std.proofs.Common.{◌≡◌, ℕ, List, [], Vec, Global, length, set, Contains, ◌∙◌, sym, ap, subst, arith}
use Rattle.std.specs.List.{slice_get}
use Rattle.std.proofs.lemmas.List.{map-set, length-set}
use Rattle.lists.specs.Rising.{IsRising}
use Rattle.lists.specs.Lists.{contents, list_of}
use Rattle.lists.proofs.ListsLemmas.{length-contents}
use Rattle.elim_tree.specs.Parts.{HandsTo}
use Rattle.elim_tree.proofs.HeadLemmas.{list_at, rising_emptied}
use Rattle.elim_tree.proofs.HandLemmas.{HandsUp, hands_none, hands_turn, hands_all}
use Rattle.elim_tree.proofs.later.hand_up.Goals as goal

pub loop-place-init : goal.loop-place-init
loop-place-init c = hands_none (contents c.args.lists.now) c.requires

pub hand_to_first-requires-clause-in_range : goal.hand_to_first-requires-clause-in_range
hand_to_first-requires-clause-in_range c q h =
    let vs = c.loop-place.lists in
    let p = c.loop-place.place in
    let is : c.deref.result.now ≡ list_of (contents vs) p = c.deref.ensures.value ∙ ap (λ (v : Vec ℕ Global). v.items) c.replace-own.ensures.value ∙ sym (list_at vs p c.index-lists-place.result (omega arith)) in
    let P : List ℕ → Type 0 = λ xs. Contains xs q in
    omega (arith, (c.loop-place.invariant.above p q (subst P is h)).1, length-contents c.args.lists.now, c.loop-place.auto.lists, length-set vs p c.replace-own.new.dest)

pub hand_to_first-requires-clause-rising : goal.hand_to_first-requires-clause-rising
hand_to_first-requires-clause-rising c q =
    let vs = c.loop-place.lists in
    let p = c.loop-place.place in
    let is : c.deref.result.now ≡ list_of (contents vs) p = c.deref.ensures.value ∙ ap (λ (v : Vec ℕ Global). v.items) c.replace-own.ensures.value ∙ sym (list_at vs p c.index-lists-place.result (omega arith)) in
    let out : contents (set vs p c.replace-own.new.dest) ≡ set (contents vs) p [] =
    map-set (λ (v : Vec ℕ Global). v.items) vs p c.replace-own.new.dest ∙ ap (λ (xs : List ℕ). set (contents vs) p xs) (ap (λ (v : Vec ℕ Global). v.items) c.replace-own.ensures.after ∙ c.new.ensures.items) in
    let P : List (List ℕ) → Type 0 = λ ls. IsRising (list_of ls q) in
    subst P (sym out) (rising_emptied (contents vs) p (omega (arith, length-contents vs)) c.loop-place.invariant.rising q)

pub loop-place-preserved : goal.loop-place-preserved
loop-place-preserved c =
    let vs = c.loop-place.lists in
    let p = c.loop-place.place in
    let is : c.deref.result.now ≡ list_of (contents vs) p = c.deref.ensures.value ∙ ap (λ (v : Vec ℕ Global). v.items) c.replace-own.ensures.value ∙ sym (list_at vs p c.index-lists-place.result (omega arith)) in
    let out : contents (set vs p c.replace-own.new.dest) ≡ set (contents vs) p [] =
    map-set (λ (v : Vec ℕ Global). v.items) vs p c.replace-own.new.dest ∙ ap (λ (xs : List ℕ). set (contents vs) p xs) (ap (λ (v : Vec ℕ Global). v.items) c.replace-own.ensures.after ∙ c.new.ensures.items) in
    let own = c.deref.result.now in
    let new = c.hand_to_first.new.lists in
    let P : List (List ℕ) → Type 0 = λ ls. HandsTo (slice_get own 0) own ls (contents new) in
    hands_turn (contents c.args.lists.now) p own (contents vs) (contents new) (contents (set new p c.replace-own.result)) (omega (arith, length-contents new, c.hand_to_first.auto.lists, length-set vs p c.replace-own.new.dest)) c.requires c.loop-place.invariant is (subst P out c.in_ok-hand_to_first.ensures)
    (map-set (λ (v : Vec ℕ Global). v.items) new p c.replace-own.result ∙ ap (λ (xs : List ℕ). set (contents new) p xs) (sym c.deref.ensures.value))

pub returns : goal.returns
returns c =
    let all : c.loop-place.place ≡ length c.args.lists.now = omega arith in
    let P : ℕ → Type 0 = λ n. HandsUp (contents c.args.lists.now) n (contents c.loop-place.lists) in
    hands_all (contents c.args.lists.now) (contents c.loop-place.lists) (length c.args.lists.now) (omega (arith, length-contents c.args.lists.now, length-contents c.loop-place.lists, c.loop-place.auto.lists)) (length-contents c.args.lists.now) (subst P all c.loop-place.invariant)
