use Rattle.std.proofs.Common.{rules, ◌≡◌, ℕ, List, [], ◌∷◌, ◌++◌, codes, OnOk, subst}
use Rattle.std.specs.Fmt.{signed_decimal}
use Rattle.text_words.specs.Fields.{line}
use Rattle.model_text.proofs.writer.put_expansion.Goals as goal

pub returns : goal.returns
returns c =
    let row : List ℕ → List ℕ → List ℕ → List ℕ → Type 0 =
    λ sc sh cycles fm. OnOk c.push_line.result
    (c.push_line.new.out.items ≡ c.args.out.now.items ++ line (codes "check" ∷ c.args.name.now ∷ codes "expansion" ∷ c.args.case1.now ∷ c.args.case2.now ∷ sc ∷ sh ∷ cycles ∷ fm ∷ c.args.sus.now ∷ [])) in
    let sc : c.as_bytes-sc.result.now ≡ signed_decimal c.args.sc = search rules in
    let sh : c.as_bytes-sh.result.now ≡ signed_decimal c.args.sh = search rules in
    let cycles : c.as_bytes-cycles.result.now ≡ signed_decimal c.args.cycles = search rules in
    let fm : c.as_bytes-fm.result.now ≡ signed_decimal c.args.fm = search rules in
    let read = c.push_line.ensures.written in
    let first = subst (λ w. row w c.as_bytes-sh.result.now c.as_bytes-cycles.result.now c.as_bytes-fm.result.now) sc read in
    let second = subst (λ w. row (signed_decimal c.args.sc) w c.as_bytes-cycles.result.now c.as_bytes-fm.result.now) sh first in
    let third = subst (λ w. row (signed_decimal c.args.sc) (signed_decimal c.args.sh) w c.as_bytes-fm.result.now) cycles second in
    subst (row (signed_decimal c.args.sc) (signed_decimal c.args.sh) (signed_decimal c.args.cycles)) fm third
