use Rattle.std.proofs.Common.{◌≡◌, ℕ, Contains, ◌∙◌, sym, subst, arith, below_more, Option, Some, None, false}
use Rattle.std.specs.Option.{MatchOption, is_some}
use Rattle.std.proofs.lemmas.List.{get_or_default}
use Rattle.elim_order.proofs.rounds.meets.Goals as goal

absent : (r : Option ℕ) (P : Type 0) (Q : ℕ → Type 0) → MatchOption r P Q → is_some r ≡ false → P
absent None P Q h e = h
absent (Some x) P Q h e = cc

pub loop-number-preserved : goal.loop-number-preserved
loop-number-preserved c = below_more _ _ c.loop-number.invariant (absent c.find_rising.result _ _ c.find_rising.ensures (sym c.is_some.ensures ∙ c.if-is_some.false))

pub returns : goal.returns
returns c k (i, in', is) taken =
    c.loop-number.invariant i (omega arith) (let P : ℕ → Type 0 = λ n. Contains c.args.taken.now n in subst P (sym (get_or_default c.args.list.now i 0 k in' ∙ is)) taken)
