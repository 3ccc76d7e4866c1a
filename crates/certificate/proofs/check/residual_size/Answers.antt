use Rattle.std.proofs.Common.{◌≡◌, ℕ, ◌*◌, ◌^◌, ◌<◌, Option, None, Some, IfSome, IsNone, MatchOption, inr, sym, ap, subst, ◌∙◌, ℤ, pos, ◌+ℤ◌, ◌≤ℤ◌}
use Rattle.certificate.specs.RowResidual.{HasResidual}
use Rattle.certificate.specs.RowSums.{sizes_total}
use Rattle.certificate.proofs.check.residual_size.Goals as goal

-- by whether a total stays below the limit
by_total : {Lost : Type 0} (Has : ℤ → Type 0) (r : Option ℕ) (total : ℤ) → IfSome r (λ t. (t < 2 ^ 126) × (pos t ≡ total)) → (IsNone r → pos (2 ^ 126) ≤ℤ total)
    → Has total → (pos (2 ^ 126) ≤ℤ total → Lost) → MatchOption r Lost (λ t. Has (pos t))
by_total Has None total below over has lost = lost (over cc)
by_total Has (Some t) total below over has lost = subst Has (sym below.1) has

pub returns-clause-cases : goal.returns-clause-cases
returns-clause-cases c =
    let added = c.if-not-add_row.ensures in
    let taken = c.in_ok-taken.ensures.some.1 in
    let Has = HasResidual c.args.g.now c.args.entries.now c.args.middle.now (pos c.args.shift) c.args.places.now c.args.row in
    let total = pos c.in_ok-taken.taken +ℤ sizes_total c.take_residuals.new.sums in
    let has : Has total = record {
      sums = c.add_row.new.sums;
      positions = added.length_kept ∙ c.clear.ensures.length_kept ∙ c.requires.positions ∙ ap (λ nodes. 6 * nodes) (sym c.requires.same_size);
      summed = added.summed cc;
      total = sym taken;
    } in
    by_total Has c.drain.result total c.drain.ensures.some c.drain.ensures.none has (λ over. inr (total, has, over))
