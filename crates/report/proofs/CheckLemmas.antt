-- The lines of checks and of their stations, written one by one.
use Rattle.std.proofs.Common.{◌≡◌, ℕ, ◌+◌, ◌*◌, ◌<◌, List, [], ◌∷◌, ◌++◌, length, get_or, drop, codes, arith, append_assoc, append-nil, sym, ap, ◌∙◌}
use Rattle.std.proofs.lemmas.List.{get_or-map}
use Rattle.std.proofs.lemmas.List.Concat.{flat_map-append}
use Rattle.std.proofs.lemmas.List.FromFn.{map-range_with_len_more}
use Rattle.std.specs.List.{flat_map, slice_index_or}
use Rattle.lists.specs.Listed.{listed}
use Rattle.text_words.specs.Fields.{line}
use Rattle.model_types.specs.Lists.{Lists}
use Rattle.model_types.specs.declared.answers.CheckAnswer.{CheckAnswer}
use Rattle.model_types.specs.declared.answers.CheckAnswer.TheVariants.{Stations}
use Rattle.model_types.specs.declared.answers.StationAnswer.{StationAnswer}
use Rattle.model_types.specs.declared.answers.StationAnswer.TheVariants.{Wide}
use Rattle.model_types.specs.declared.records.Check.{Check}
use Rattle.model_types.specs.declared.records.Element.{Element}
use Rattle.report.specs.Checks.{check_lines, element_lines, judgement_lines, kind_word, result_words, station_lines, station_words}
use Rattle.report.specs.Report.{element_name}
use Rattle.report.proofs.LineLemmas.{next_item, written}

-- the lines of one more element
pub element_written : (m : Lists) (answer : ℕ → StationAnswer) (old out mid new name : List ℕ) (n : ℕ) (e : Element) (from to : StationAnswer) → n < length m.elements → e ≡ get_or m.elements n e → name ≡ e.name
    → from ≡ answer (2 * n) → to ≡ answer (2 * n + 1) → out ≡ old ++ flat_map line (flat_map (λ lines. lines) (listed n (element_lines m answer)))
    → mid ≡ out ++ line (station_words name (codes "from") from) → new ≡ mid ++ line (station_words name (codes "to") to)
    → new ≡ old ++ flat_map line (flat_map (λ lines. lines) (listed (n + 1) (element_lines m answer)))
element_written m answer old out mid new name n e from to inside is named from_is to_is so_far first second =
    let own : name ≡ element_name m n = named ∙ ap (λ (r : Element). r.name) is ∙ sym (get_or-map (λ (r : Element). r.name) m.elements n e [] inside) in
    let more : listed (n + 1) (element_lines m answer) ≡ listed n (element_lines m answer) ++ element_lines m answer n ∷ [] = map-range_with_len_more (element_lines m answer) 0 n n (omega arith) in
    rw (second, first, so_far, more, own, from_is, to_is) (simp (append_assoc, append-nil, flat_map-append))

-- the lines of a check with stations
pub stations_written : (m : Lists) (c : Check) (answer : CheckAnswer) (answers slice counted : List StationAnswer) (old begun said new name kind : List ℕ) → answer ≡ Stations answers → slice ≡ answers → counted ≡ answers
    → name ≡ c.name → kind ≡ kind_word c.kind → begun ≡ old ++ line (codes "check" ∷ name ∷ kind ∷ [])
    → said ≡ begun ++ flat_map line (station_lines m (λ k. slice_index_or slice k Wide)) → new ≡ said ++ line (result_words counted) → new ≡ old ++ flat_map line (judgement_lines m c answer)
stations_written m c answer answers slice counted old begun said new name kind is slice_is counted_is named kind_is begin first second =
    rw (is, second, first, begin, slice_is, counted_is, named, kind_is) (simp (append_assoc, append-nil, flat_map-append))

-- the lines of one more check
pub check_written : (m : Lists) (whole out new : List ℕ) (checks : List Check) (answers : List CheckAnswer) (i : ℕ) (c : Check) (answer : CheckAnswer) → i < length checks → c ≡ get_or checks i c → i < length answers → answer ≡ get_or answers i answer
    → out ++ flat_map line (check_lines m (drop i checks) (drop i answers)) ≡ whole → new ≡ out ++ flat_map line (judgement_lines m c answer) → new ++ flat_map line (check_lines m (drop (i + 1) checks) (drop (i + 1) answers)) ≡ whole
check_written m whole out new checks answers i c answer inside is inside_too answer_is so_far step =
    let left = check_lines m (drop (i + 1) checks) (drop (i + 1) answers) in
    written whole out new (flat_map line (judgement_lines m c answer)) (flat_map line (check_lines m (drop i checks) (drop i answers))) (flat_map line left)
    (rw (next_item checks i c inside is, next_item answers i answer inside_too answer_is) (flat_map-append line (judgement_lines m c answer) left)) so_far step
