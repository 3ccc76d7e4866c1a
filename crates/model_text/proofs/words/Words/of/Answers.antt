use Rattle.std.proofs.Common.{ℕ, List, map, set, option_copied, Bor, sym, ap, subst, ◌∙◌}
use Rattle.std.proofs.lemmas.List.{map-set}
use Rattle.model_text.specs.Words.{parts_left}
use Rattle.model_text.proofs.WordLemmas.{IsCutUpTo, IsCutUpTo-none, IsCutUpTo-word, IsCutUpTo-blank, AreFirstWords-all, count_small}
use Rattle.model_text.proofs.words.Words.of.Goals as goal

pub loop-rest-init : goal.loop-rest-init
loop-rest-init c = IsCutUpTo-none c.args.line.now c.before_comment.result.now c.before_comment.ensures

pub one_more-count-requires : goal.one_more-count-requires
one_more-count-requires c =
    let next = ap (λ o. parts_left (option_copied o)) c.in-Some.is ∙ c.cut_part.ensures in
    count_small c.args.line.now _ c.loop-rest.count _ c.loop-rest.invariant c.cut_part.result.0.now _ next (sym c.is_word.ensures ∙ c.if-is_word.true)

pub loop-rest-preserved-then-is_word : goal.loop-rest-preserved-then-is_word
loop-rest-preserved-then-is_word c =
    let next = ap (λ o. parts_left (option_copied o)) c.in-Some.is ∙ c.cut_part.ensures in
    let first = map (λ (part : Bor (List ℕ)). part.now) c.loop-rest.first in
    let part = c.cut_part.result.0 in
    let behind = parts_left (option_copied c.cut_part.result.1) in
    let more = IsCutUpTo-word c.args.line.now _ c.loop-rest.count first c.loop-rest.invariant part.now behind next
    c.place_of.result c.place_of.ensures.own c.place_of.ensures.other c.place_of.ensures.inside (sym c.is_word.ensures ∙ c.if-is_word.true) in
    let counted : IsCutUpTo c.args.line.now behind c.one_more-count.result (set first c.place_of.result part.now) =
    subst (λ n. IsCutUpTo c.args.line.now behind n (set first c.place_of.result part.now)) (sym c.one_more-count.ensures) more in
    subst (λ f. IsCutUpTo c.args.line.now behind c.one_more-count.result f) (sym (map-set (λ (part : Bor (List ℕ)). part.now) c.loop-rest.first c.place_of.result part)) counted

pub loop-rest-preserved : goal.loop-rest-preserved
loop-rest-preserved c =
    let next = ap (λ o. parts_left (option_copied o)) c.in-Some.is ∙ c.cut_part.ensures in
    IsCutUpTo-blank c.args.line.now _ c.loop-rest.count _ c.loop-rest.invariant c.cut_part.result.0.now _ next (sym c.is_word.ensures ∙ c.if-is_word.false)

pub invariant_of-result : goal.invariant_of-result
invariant_of-result c =
    let first = map (λ (part : Bor (List ℕ)). part.now) c.loop-rest.first in
    let none = ap (λ o. parts_left (option_copied o)) c.in_default.is in
    AreFirstWords-all c.args.line.now c.loop-rest.count first (subst (λ left. IsCutUpTo c.args.line.now left c.loop-rest.count first) none c.loop-rest.invariant)
