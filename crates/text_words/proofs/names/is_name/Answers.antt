use Rattle.std.proofs.Common.{◌≡◌, ◌&&◌, nat_lt, nat_le, not, true, length, codes, sym, ap, ◌∙◌, arith}
use Rattle.std.proofs.lemmas.Bool.{and_from}
use Rattle.std.proofs.lemmas.Bool.Decides.{nat_tests}
use Rattle.std.specs.List.{list_all}
use Rattle.std.specs.Str.{bytes_eq}
use Rattle.text_words.specs.Names.{is_name_byte}
use Rattle.text_words.proofs.names.is_name.Goals as goal
use Rattle.text_words.proofs.names.is_name.Goals.{then-not-is_empty, else-not-is_empty, then-bytes-le-LONGEST, else-bytes-le-LONGEST}

pub returns-then-are_name_bytes : goal.returns-then-are_name_bytes
returns-then-are_name_bytes c =
    let bytes = c.args.bytes.now in
    let test = c.ne.ensures ∙ ap (λ d. not (bytes_eq bytes d)) c.as_slice.ensures in
    elim c.if-bytes-le-LONGEST.branch [
      | then-bytes-le-LONGEST w ↦
          let each : list_all is_name_byte bytes ≡ true = sym w.are_name_bytes.ensures ∙ sym w.value-is ∙ c.if-are_name_bytes.true in
          elim c.if-not-is_empty.branch [
            | then-not-is_empty v ↦
                let some : nat_lt 0 (length bytes) ≡ true = grind (arith, nat_tests) in
                let short : nat_le (length bytes) 16 ≡ true = grind (arith, nat_tests) in
                test ∙ ap (λ b. b && not (bytes_eq bytes (codes "-"))) (sym (and_from _ _ (and_from _ _ some short) each))
            | else-not-is_empty v ↦ cc
          ]
      | else-bytes-le-LONGEST w ↦ cc
    ]
