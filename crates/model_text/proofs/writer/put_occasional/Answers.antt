use Rattle.std.proofs.Common.{rules, ◌≡◌, ℕ, List, [], ◌∷◌, ◌++◌, codes, OnOk, subst}
use Rattle.std.specs.Fmt.{signed_decimal}
use Rattle.text_words.specs.Fields.{line}
use Rattle.model_text.proofs.writer.put_occasional.Goals as goal

pub returns : goal.returns
returns c =
    let row : List ℕ → List ℕ → Type 0 =
    λ sh percent. OnOk c.push_line.result (c.push_line.new.out.items ≡ c.args.out.now.items ++ line (codes "check" ∷ c.args.name.now ∷ codes "occasional" ∷ c.args.case.now ∷ sh ∷ percent ∷ [])) in
    let sh : c.as_bytes-sh.result.now ≡ signed_decimal c.args.sh = search rules in
    subst (row (signed_decimal c.args.sh)) c.or_default-percent.ensures (subst (λ s. row s c.or_default-percent.result.now) sh c.push_line.ensures.written)
