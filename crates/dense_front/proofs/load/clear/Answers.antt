use Rattle.std.proofs.Common.{◌≡◌, ℕ, ◌+◌, ◌<◌, length, get_or, set, ◌∙◌, ap, subst, sym, arith, inl, inr, pos}
use Rattle.std.proofs.lemmas.Bool.{cases_eq, cases_lt}
use Rattle.std.proofs.lemmas.List.{get_or-set_same, get_or-set_other, get_or_past, length-set}
use Rattle.dense_front.proofs.load.clear.Goals as goal

pub loop-s-preserved : goal.loop-s-preserved
loop-s-preserved c =
    let cur = c.loop-s.square in
    let at = c.loop-s.s in (
      length-set cur at (pos 0) ∙ c.loop-s.invariant.0,
      λ s lt.
          elim (cases_eq s at) [
            | inl e ↦ (let P : ℕ → Type 0 = λ x. get_or (set cur at (pos 0)) x (pos 0) ≡ pos 0 in subst P (sym e) (get_or-set_same cur at (pos 0) (pos 0) (omega (arith, c.loop-s.invariant.0))))
            | inr apart ↦ get_or-set_other cur at s (pos 0) (pos 0) apart ∙ c.loop-s.invariant.1 s (omega arith)
          ],
    )

pub returns-clause-zero : goal.returns-clause-zero
returns-clause-zero c s =
    elim (cases_lt s (length c.loop-s.square)) [
      | inl lt ↦ c.loop-s.invariant.1 s (omega (arith, c.loop-s.invariant.0, lt))
      | inr past ↦ get_or_past c.loop-s.square s (pos 0) past
    ]
