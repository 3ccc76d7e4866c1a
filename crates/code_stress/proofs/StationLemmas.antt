-- The stations of a model, and what the answers at them are.
use Rattle.std.proofs.Common.{◌≡◌, ℕ, ◌+◌, ◌*◌, ◌<◌, Bool, List, [], ◌∷◌, ◌++◌, map, take, get_or, length, All, refl, ap, sym, ◌∙◌, arith}
use Rattle.std.proofs.Math.Seq.{take-length}
use Rattle.std.proofs.lemmas.List.{take_more, map-append}
use Rattle.std.proofs.lemmas.List.Elements.{All-weaker}
use Rattle.std.specs.List.{range_with_len}
use Rattle.std.proofs.lemmas.List.FromFn.{length-range_with_len}
use Rattle.member_set.specs.declared.members.Built.{Built}
use Rattle.member_set.specs.declared.members.Station.{Station}
use Rattle.model_types.specs.Lists.{Lists}
use Rattle.model_types.specs.declared.answers.CheckAnswer.{CheckAnswer}
use Rattle.model_types.specs.Fits.{IsStationAnswer}
use Rattle.model_types.specs.declared.answers.StationAnswer.{StationAnswer}
use Rattle.model_types.specs.declared.answers.StationAnswer.TheVariants.{Judged, Wide}
use Rattle.model_types.specs.declared.records.CheckKind.{CheckKind}
use Rattle.structure.specs.Stations.{station_of, stations_of}
use Rattle.code_stress.specs.Actions.{Place, place}
use Rattle.code_stress.specs.Checks.{CaseForces, station_answer_of, stations_in}
use Rattle.code_stress.specs.Meaning.{StationHolds, StationsHold}
use Rattle.code_stress.specs.Rules.{IsStationOf, StationInOrder}
use Rattle.code_stress.proofs.EndLemmas.{ends-all, ends-map, ends-length, ends-each}

pub stations-are : (m : Lists) → All (IsStationOf m) (stations_of m)
stations-are m = ends-all (IsStationOf m) (station_of m) 0 (length m.elements) (λ n e low high. record { there = omega arith; is_so = refl })

-- the end that a station stands at
abbrev pub place_of : Station → Place
place_of s = place s.element s.end

pub answers-are : (m : Lists) (b : Built) (forces : CaseForces) (earlier : List CheckAnswer) (kind : CheckKind) →
    map (λ s. station_answer_of m b forces earlier kind (place_of s)) (stations_of m) ≡ stations_in m b forces earlier kind
answers-are m b forces earlier kind = ends-map (λ (s : Station). station_answer_of m b forces earlier kind (place_of s)) (station_of m) (range_with_len 0 (length m.elements))

pub stations-count : (m : Lists) (b : Built) (forces : CaseForces) (earlier : List CheckAnswer) (kind : CheckKind) →
    length (stations_in m b forces earlier kind) ≡ 2 * length m.elements
stations-count m b forces earlier kind =
    ends-length (λ n (e : Bool). station_answer_of m b forces earlier kind (place n e)) (range_with_len 0 (length m.elements))
    ∙ ap (λ (n : ℕ). 2 * n) (length-range_with_len 0 (length m.elements))

-- one more item, and its image behind those of the items before it
pub mapped-more : {X Y : Type 0} (g : X → Y) (xs : List X) (i : ℕ) (x : X) (ys zs : List Y) (y : Y) → i < length xs → x ≡ get_or xs i x → y ≡ g x →
    zs ≡ ys ++ y ∷ [] → ys ≡ map g (take i xs) → zs ≡ map g (take (i + 1) xs)
mapped-more g xs i x ys zs y inside at here pushed before =
    let image : g (get_or xs i x) ≡ y = sym (here ∙ ap g at) in
    rw (pushed, before, take_more xs i x inside, map-append g (take i xs) (get_or xs i x ∷ []), image) refl

pub mapped-all : {X Y : Type 0} (g : X → Y) (xs : List X) (i : ℕ) (ys : List Y) → i ≡ length xs → ys ≡ map g (take i xs) → ys ≡ map g xs
mapped-all g xs i ys all is = is ∙ ap (λ (k : ℕ). map g (take k xs)) all ∙ ap (map g) (take-length xs)

-- what holds at the stations of a model holds at each end
pub stations-each : (m : Lists) (b : Built) (forces : CaseForces) (earlier : List CheckAnswer) (kind : CheckKind) →
    All (λ s. StationHolds m earlier kind (place_of s) (station_answer_of m b forces earlier kind (place_of s))) (stations_of m) → StationsHold m b forces earlier kind
stations-each m b forces earlier kind all = λ p there.
    ends-each (λ (s : Station). StationHolds m earlier kind (place_of s) (station_answer_of m b forces earlier kind (place_of s))) (station_of m) (length m.elements) p.element p.at_to there all

answer-fits : (a : StationAnswer) → StationInOrder a → IsStationAnswer a
answer-fits (Judged stress allowable) keeps = (keeps.stress_interval, keeps.allowable_interval)
answer-fits Wide keeps = tt

pub answers-fit : (answers : List StationAnswer) → All StationInOrder answers → All IsStationAnswer answers
answers-fit = All-weaker StationInOrder IsStationAnswer answer-fits
