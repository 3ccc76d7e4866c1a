use Rattle.std.proofs.Common.{◌≡◌, ℕ, ◌<◌, ◌⊎◌, inl, inr, length, sym, ap, arith, subst, ◌∙◌, slice_set, get_or-set_same, get_or-set_other, Ok, IsErr, refl}
use Rattle.std.proofs.Math.ListN.{length-set}
use Rattle.std.proofs.lemmas.Result.{err_from_is_err_and}
use Rattle.flex_interval.specs.Ends.{Ends}
use Rattle.member_set.specs.Members.{nothing, force_of, system}
use Rattle.member_set.specs.Interval.{Outcome}
use Rattle.certificate.specs.States.{state_past}
use Rattle.certificate.proofs.states.put_pasts.Goals as goal

abbrev answered : Ends → Outcome
answered e = Ok e

pub returns-in_err-pasts-clause-none : goal.returns-in_err-pasts-clause-none
returns-in_err-pasts-clause-none c =
    let p = err_from_is_err_and c.from_residual.result c.from_residual.ensures.1 in
    rw p.1 (λ loads. (
      c.loop-number.number,
      omega (arith, c.loop-number.invariant.one_each),
      subst (λ (o : Outcome). IsErr o) (c.in_err-pasts.ensures loads) refl,
    ))

pub loop-number-preserved : goal.loop-number-preserved
loop-number-preserved c =
    let k = c.loop-number.number in
    let old = c.loop-number.pasts in
    let room : k < length old = omega (arith, c.loop-number.invariant.one_each) in
    let here = get_or-set_same old k c.in_ok-pasts.field-0 nothing room in
    let new = slice_set old k c.in_ok-pasts.field-0 in
    record {
      one_each = length-set old k c.in_ok-pasts.field-0 ∙ c.loop-number.invariant.one_each;
      pasts = λ loads n below.
          let past = state_past (system c.args.b.now c.args.laws.now loads) c.args.bounds.now in
          let side : (n < k) ⊎ (n ≡ k) = search arith in
          elim side [
            | inl less ↦ c.loop-number.invariant.pasts loads n less ∙ ap answered (sym (get_or-set_other old k n c.in_ok-pasts.field-0 nothing (omega arith)))
            | inr same ↦ subst (λ (i : ℕ). past i ≡ answered (force_of new i)) (sym same) (sym (c.in_ok-pasts.ensures loads) ∙ ap answered (sym here))
          ];
    }
