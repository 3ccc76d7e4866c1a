use Rattle.std.proofs.Common.{◌≡◌, ◌++◌, length, drop, replicate, subst, sym, ◌∙◌}
use Rattle.std.proofs.lemmas.List.{drop-replicate}
use Rattle.text_words.specs.Names.{HoldsName}
use Rattle.text_words.proofs.NameLemmas.{HoldsName-written}
use Rattle.text_words.proofs.names.Name.new.Goals as goal

pub invariant_of-result : goal.invariant_of-result
invariant_of-result c =
    let written : c.copy_from_slice.new.self ≡ c.args.bytes.now = c.copy_from_slice.ensures.after in
    subst (λ bytes. HoldsName (bytes ++ drop (length c.args.bytes.now) (replicate 16 0)) (length c.args.bytes.now)) (sym written)
    (HoldsName-written c.args.bytes.now _ (drop-replicate (length c.args.bytes.now) 16 0) (sym c.is_name.ensures ∙ c.if-not-is_name.false))
