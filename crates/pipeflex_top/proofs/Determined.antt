-- A model has one report.
use Rattle.std.proofs.Common.{◌≡◌, List, refl, sym, ap, subst, ◌∙◌, arith}
use Rattle.accepted_text.specs.Accepted.{OneModelTree}
use Rattle.flex_io.specs.declared.outcome.Status.{Status}
use Rattle.flex_io.specs.declared.outcome.Status.TheVariants.{Done, Uncertified, Refused, Usage, ReadFault, WriteFault, NoMemory}
use Rattle.model_types.specs.declared.answers.CaseAnswer.{CaseAnswer}
use Rattle.pipeflex_top.specs.Analysis.{EndsWith, ReportIsDetermined, analysis_of, report_by}

-- the same answers have one ending
one_ending : (answers : List CaseAnswer) (first second : Status) → EndsWith answers first → EndsWith answers second → first ≡ second
one_ending answers Done Done all also = refl
one_ending answers Done Uncertified none some = absurd (omega (arith, none, some))
one_ending answers Uncertified Done some none = absurd (omega (arith, none, some))
one_ending answers Uncertified Uncertified none also = refl
one_ending answers Done Refused all also = absurd also
one_ending answers Done Usage all also = absurd also
one_ending answers Done ReadFault all also = absurd also
one_ending answers Done WriteFault all also = absurd also
one_ending answers Done NoMemory all also = absurd also
one_ending answers Uncertified Refused none also = absurd also
one_ending answers Uncertified Usage none also = absurd also
one_ending answers Uncertified ReadFault none also = absurd also
one_ending answers Uncertified WriteFault none also = absurd also
one_ending answers Uncertified NoMemory none also = absurd also
one_ending answers Refused second here also = absurd here
one_ending answers Usage second here also = absurd here
one_ending answers ReadFault second here also = absurd here
one_ending answers WriteFault second here also = absurd here
one_ending answers NoMemory second here also = absurd here

pub one_report : OneModelTree → ReportIsDetermined
one_report one_tree m first second status other a b =
    let same = one_tree m a.tree b.tree a.tree_is b.tree_is in (
      a.written ∙ ap (report_by m) same ∙ sym b.written,
      one_ending (analysis_of m b.tree) status other (subst (λ t. EndsWith (analysis_of m t) status) same a.ends) b.ends,
    )
