-- The lines of records are read one after the other.
use Rattle.std.proofs.Common.{◌≡◌, ℕ, ◌+◌, ◌==◌, true, List, ◌++◌, length, None, Ok, Err, refl, ap, ◌∙◌}
use Rattle.std.proofs.lemmas.Bool.{cond-true, cond-false}
use Rattle.std.specs.List.{list_all, join_with_byte}
use Rattle.text_words.specs.Fields.{line, lines}
use Rattle.model_types.specs.declared.records.Record.{Record}
use Rattle.model_types.specs.Lists.{Lists, added}
use Rattle.model_types.specs.Refusals.{refusal}
use Rattle.model_text.specs.Grammar.{after_lines}
use Rattle.model_text.specs.Lines.{State, after_line, after_words, judged, record_taken, taken}
use Rattle.model_text.specs.Records.{record_of_words}
use Rattle.model_text.specs.Words.{is_allowed, words}
use Rattle.model_text.proofs.LineLemmas.{after_lines-Ok}
use Rattle.model_text.proofs.PlainWords.{words-joined, allowed-joined, lines-line}
use Rattle.model_text.proofs.WrittenRecords.{IsWritten}
use Rattle.model_text.proofs.WrittenWords.{after_step}

-- reading a text, from whatever line number, leads to reading what is left of it
pub record Leads (s : State) (text : List ℕ) (t : State) (left : List ℕ) : Type 0 where
  pub from : (n : ℕ) → (k : ℕ) × (after_lines s n (lines text) ≡ after_lines t k (lines left))

pub Leads-on : (s t u : State) (text middle left : List ℕ) → Leads s text t middle → Leads t middle u left → Leads s text u left
Leads-on s t u text middle left first second = record {
  from = λ n.
      let a = first.from n in
      let b = second.from a.0 in
      (b.0, a.1 ∙ b.1);
}

-- the records below the header
abbrev pub below : Lists → State
below m = record { header = true; draft = m }

module _ (m : Lists) (r : Record) (accepted : refusal m r ≡ None) where
  taken_next : taken m r ≡ Ok (added m r)
  taken_next = ap (λ o. judged r o m) accepted

  module _ (ws : List (List ℕ)) (is : IsWritten m r ws) where
    words_read : after_words (below m) ws ≡ Ok (below (added m r))
    words_read =
        cond-false (length ws == 0) (Ok (below m)) _ is.some
        ∙ after_step (record_taken m ws) (added m r) (λ n. Ok (below n)) _ (after_step (record_of_words m ws) r (taken m) _ is.made taken_next) refl

    line_read : after_line (below m) (join_with_byte 32 ws) ≡ Ok (below (added m r))
    line_read =
        cond-true (list_all is_allowed (join_with_byte 32 ws)) (after_words (below m) (words (join_with_byte 32 ws))) (Err 2) (allowed-joined ws is.plain)
        ∙ ap (after_words (below m)) (words-joined ws is.plain) ∙ words_read

    -- one more record is read
    pub Leads-record : (left : List ℕ) → Leads (below m) (line ws ++ left) (below (added m r)) left
    Leads-record left = record { from = λ n. (n + 1, ap (after_lines (below m) n) (lines-line ws is.plain left) ∙ after_lines-Ok (below m) n (join_with_byte 32 ws) (lines left) (below (added m r)) line_read) }
