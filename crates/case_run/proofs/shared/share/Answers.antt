use Rattle.std.proofs.Common.{◌∙◌, ap, map, to_z-of_z, rules, FitsSigned}
use Rattle.std.specs.Int.{w128}
use Rattle.std.proofs.lemmas.Result.{err_from_is_err_and}
use Rattle.sym_blocks.specs.Matrix.{entry}
use Rattle.case_run.specs.declared.contacts.Contact.{Contact}
use Rattle.case_run.proofs.Chained.{tells_also, base_no_structure, base_no_matrices, base_no_margin, base_is}
use Rattle.case_run.proofs.shared.share.Goals as goal

pub returns-clause-ready : goal.returns-clause-ready
returns-clause-ready g c =
    let fits : FitsSigned w128 c.in_ok-lambda.lambda = search rules in
    record {
      model = c.nodes-nodes.ensures.model;
      structure = c.in_ok-b.ensures.structure;
      stiff = c.in_ok-b.ensures.stiff;
      contacts = c.in_ok-contacts.ensures;
      start = c.in_ok-start.ensures ∙ ap (map (λ (x : Contact). x.closed)) (c.deref.ensures.value ∙ c.in_ok-contacts.ensures);
      positive = rw (to_z-of_z fits) c.in_ok-lambda.ensures.positive;
      plan = c.requires.plan;
      nodes = c.requires.nodes;
      takes_structure = c.requires.takes_model c.in_ok-b.b c.in_ok-b.ensures.structure;
      given = rw c.deref-2.ensures.value at c.factor_under-first.ensures.given;
      own_order = c.factor_under-first.ensures.own_order;
      fits = c.factor_under-first.ensures.fits;
    }

pub returns-in_err-b-clause-given : goal.returns-in_err-b-clause-given
returns-in_err-b-clause-given g c =
    let p = err_from_is_err_and c.from_residual.result c.from_residual.ensures.1 in
    rw (p.1, p.2) (tells_also _ _ c.in_err-b.field-0.0 (λ e is. base_no_structure c.args.m.now (g.M.Maker.plan c.args.maker.now) e is) c.in_err-b.ensures.given)

pub returns-in_err-middles-clause-given : goal.returns-in_err-middles-clause-given
returns-in_err-middles-clause-given g c =
    let p = err_from_is_err_and c.from_residual-in_err-middles.result c.from_residual-in_err-middles.ensures.1 in
    rw (p.1, p.2)
    (tells_also _ _ c.in_err-middles.field-0.0
    (λ e is. base_no_matrices c.args.m.now (g.M.Maker.plan c.args.maker.now) c.in_ok-b.b e c.in_ok-b.ensures.given is) c.in_err-middles.ensures.given)

pub returns-in_err-lambda-clause-given : goal.returns-in_err-lambda-clause-given
returns-in_err-lambda-clause-given g c =
    let p = err_from_is_err_and c.from_residual-in_err-lambda.result c.from_residual-in_err-lambda.ensures.1 in
    rw (p.1, p.2)
    (tells_also _ _ c.in_err-lambda.field-0.0
    (λ e is.
    base_no_margin c.args.m.now (g.M.Maker.plan c.args.maker.now) c.in_ok-b.b (entry c.in_ok-middles.middles) (entry c.in_ok-middles.radii) e
    c.in_ok-b.ensures.given c.in_ok-middles.ensures.given is)
    c.in_err-lambda.ensures.given)

pub returns-clause-given : goal.returns-clause-given
returns-clause-given g c =
    let fits : FitsSigned w128 c.in_ok-lambda.lambda = search rules in
    rw (to_z-of_z fits)
    (base_is c.args.m.now (g.M.Maker.plan c.args.maker.now) c.in_ok-b.b (entry c.in_ok-middles.middles) (entry c.in_ok-middles.radii) c.in_ok-lambda.lambda
    c.in_ok-b.ensures.given c.in_ok-middles.ensures.given c.in_ok-lambda.ensures.given)
