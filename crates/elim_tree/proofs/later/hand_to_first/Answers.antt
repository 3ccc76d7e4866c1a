use Rattle.std.proofs.Common.{◌≡◌, ◌<◌, ℕ, List, [], Option, Some, Vec, Global, length, get_or, set, ◌∙◌, sym, ap, subst, arith}
use Rattle.std.specs.Result.{OnOk}
use Rattle.std.proofs.lemmas.Result.{on_ok_weaker}
use Rattle.std.proofs.lemmas.List.{map-set, get_or-set_same, get_or-set_other}
use Rattle.lists.specs.Rising.{IsRising, InsertsLater}
use Rattle.lists.specs.Lists.{contents, list_of}
use Rattle.lists.proofs.ListsLemmas.{length-contents}
use Rattle.elim_tree.specs.Parts.{HandsTo}
use Rattle.elim_tree.proofs.HeadLemmas.{head_contained, list_at}
use Rattle.elim_tree.proofs.later.hand_to_first.Goals as goal

pub bounds-lists-first : goal.bounds-lists-first
bounds-lists-first c = c.requires.in_range c.in-Some.first (head_contained c.args.own.now c.in-Some.first (sym c.in-Some.ensures))

pub insert_later-requires : goal.insert_later-requires
insert_later-requires c =
    let lt = c.requires.in_range c.in-Some.first (head_contained c.args.own.now c.in-Some.first (sym c.in-Some.ensures)) in
    subst IsRising (list_at c.args.lists.now c.in-Some.first c.index-lists-first.result lt) (c.requires.rising c.in-Some.first)

-- the list that is named is written
written : (vs : List (Vec ℕ Global)) (own : List ℕ) (v : ℕ) (d new : Vec ℕ Global) → v < length vs → InsertsLater (get_or vs v d).items new.items own v → HandsTo (Some v) own (contents vs) (contents (set vs v new))
written vs own v d new lt inserts =
    let whole = map-set (λ (w : Vec ℕ Global). w.items) vs v new in
    let here : list_of (contents (set vs v new)) v ≡ new.items = ap (λ (ls : List (List ℕ)). list_of ls v) whole ∙ get_or-set_same (contents vs) v new.items [] (omega (arith, length-contents vs)) in
    let P : List ℕ → Type 0 = λ xs. InsertsLater xs new.items own v in
    let Q : List ℕ → Type 0 = λ xs. InsertsLater (list_of (contents vs) v) xs own v in (
      subst Q (sym here) (subst P (sym (list_at vs v d lt)) inserts),
      λ c ne. ap (λ (ls : List (List ℕ)). list_of ls c) whole ∙ get_or-set_other (contents vs) v c new.items [] ne,
    )

pub returns-in-Some : goal.returns-in-Some
returns-in-Some c =
    let lt = c.requires.in_range c.in-Some.first (head_contained c.args.own.now c.in-Some.first (sym c.in-Some.ensures)) in
    let P : Option ℕ → Type 0 = λ o. OnOk c.insert_later.result (HandsTo o c.args.own.now (contents c.args.lists.now) (contents (set c.args.lists.now c.in-Some.first c.insert_later.new.list))) in
    subst P c.in-Some.ensures (on_ok_weaker c.insert_later.result (written c.args.lists.now c.args.own.now c.in-Some.first c.index-lists-first.result c.insert_later.new.list lt) c.insert_later.ensures)
