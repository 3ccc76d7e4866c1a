use Rattle.std.proofs.Common.{◌≡◌, ℕ, ◌+◌, ◌∷◌, [], ◌++◌, List, None, replicate, refl}
use Rattle.std.proofs.lemmas.List.{replicate_more}
use Rattle.model_types.specs.declared.answers.CaseAnswer.TheVariants.{Uncertified}
use Rattle.case_run.proofs.cases.same_runs.Goals as goal

-- one more of the same
one_more : {X : Type 0} (n : ℕ) (x same : X) (old new : List X) → new ≡ old ++ x ∷ [] → old ≡ replicate n same → x ≡ same → new ≡ replicate (n + 1) same
one_more n x same old new step so_far is = rw (step, so_far, is) (replicate_more n same)

pub loop-case-preserved : goal.loop-case-preserved
loop-case-preserved c =
    let before = c.loop-case.invariant in
    record {
      answers = one_more c.loop-case._case c.uncertified.result (Uncertified c.args.cause []) c.loop-case.answers.items c.push.new.self.items c.in_ok-push.ensures.items before.answers c.uncertified.ensures;
      forces = one_more c.loop-case._case None None c.loop-case.forces.items _ c.in_ok-push-2.ensures.items before.forces refl;
    }
