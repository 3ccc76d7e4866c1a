-- The line that tells why a text is refused.
use Rattle.std.specs.Prelude.{ℕ, ◌==◌, List, [], ◌∷◌, if◌then◌else◌, codes}
use Rattle.std.specs.Fmt.{decimal}
use Rattle.model_text.specs.Grammar.{Refusal}
use Rattle.text_words.specs.Fields.{line}

-- the word of a number of refusal, 1 to 17
abbrev pub refusal_word : ℕ → List ℕ
refusal_word number =
    if number == 1 then codes "toolong" else
    if number == 2 then codes "badbyte" else
    if number == 3 then codes "header" else
    if number == 4 then codes "unknownrecord" else
    if number == 5 then codes "wordcount" else
    if number == 6 then codes "badnumber" else
    if number == 7 then codes "outofrange" else
    if number == 8 then codes "doubled" else
    if number == 9 then codes "unknownname" else
    if number == 10 then codes "zerolength" else
    if number == 11 then codes "longelement" else
    if number == 12 then codes "geometry" else
    if number == 13 then codes "walltoothick" else
    if number == 14 then codes "toomany" else
    if number == 15 then codes "missing" else
    if number == 16 then codes "front" else
    codes "unbuilt"

abbrev pub refusal_line : Refusal → List ℕ
refusal_line r = line (codes "refused" ∷ decimal r.number ∷ codes "line" ∷ decimal r.line ∷ refusal_word r.number ∷ [])
