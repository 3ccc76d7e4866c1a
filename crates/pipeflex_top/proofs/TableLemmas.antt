-- The lines of a table that is written line by line.
use Rattle.std.proofs.Common.{◌≡◌, ℕ, suc, ◌+◌, ◌<◌, ℤ, FitsSigned, List, [], ◌∷◌, ◌++◌, length, take, get_or, Result, Ok, Some, slice_get, unwrap_or, append_assoc, append-nil, refl, sym, ap, subst, ◌∙◌, arith}
use Rattle.std.proofs.lemmas.Int.{ints}
use Rattle.std.proofs.lemmas.List.{take_more, length-take-le, flat_map_more}
use Rattle.std.proofs.lemmas.List.Concat.{flat_map-append}
use Rattle.std.proofs.lemmas.Option.{slice_get-get_or, unwrap_or-slice_get}
use Rattle.std.specs.List.{flat_map, slice_index_or}
use Rattle.std.specs.Int.{w64}
use Rattle.flex_interval.specs.declared.fault.Wide.{Wide}
use Rattle.member_set.specs.declared.members.Member.{Member}
use Rattle.model_types.specs.Lists.{Lists}
use Rattle.model_types.specs.Ranges.{BendInForm, ShapeInForm, IsIn, from_to}
use Rattle.model_types.specs.Rules.{IsBendSpan, IsShapeSpan, Keeps}
use Rattle.model_types.specs.Bends.{difference_to}
use Rattle.model_types.specs.declared.records.Element.{Element}
use Rattle.model_types.specs.declared.records.Record.TheVariants as record_of
use Rattle.model_types.specs.declared.records.Section.{Section}
use Rattle.model_types.specs.declared.records.Shape.{Shape}
use Rattle.model_types.specs.declared.records.Shape.TheVariants.{Bend}
use Rattle.sif_factors.specs.Characteristic.{IsBendRadius}
use Rattle.structure.specs.Elements.{no_node}
use Rattle.pipeflex_top.specs.MemberTable.{kappa_words, kappa_lines, shape_lines, element_lines}
use Rattle.text_words.specs.Fields.{line}

-- the line of one more member
pub kappa_lines-more : (j : ℕ) (members : List Member) (member : Member) → flat_map line (kappa_lines j (members ++ member ∷ [])) ≡ flat_map line (kappa_lines j members) ++ line (kappa_words (j + length members) member.kappa)
kappa_lines-more j [] member =
    let zero : j + 0 ≡ j = omega arith in
    rw zero (append-nil (line (kappa_words j member.kappa)))
kappa_lines-more j (first ∷ rest) member =
    let next : suc j + length rest ≡ j + suc (length rest) = omega arith in
    rw (kappa_lines-more (suc j) rest member, next) (simp append_assoc)

-- the same where the members are taken one by one
pub kappa_lines-taken : (members : List Member) (i : ℕ) (member : Member) → i < length members → member ≡ get_or members i member
    → flat_map line (kappa_lines 1 (take (i + 1) members)) ≡ flat_map line (kappa_lines 1 (take i members)) ++ line (kappa_words (i + 1) member.kappa)
kappa_lines-taken members i member inside is =
    let more : take (i + 1) members ≡ take i members ++ member ∷ [] = take_more members i member inside ∙ ap (λ m. take i members ++ m ∷ []) (sym is) in
    let count : 1 + length (take i members) ≡ i + 1 = omega (arith, length-take-le i members (omega arith)) in
    rw (more, kappa_lines-more 1 (take i members) member, count) refl

-- what is written for one more element
pub flat_map-taken : {X : Type 0} (f : X → List ℕ) (old : List ℕ) (xs : List X) (i : ℕ) (x : X) → i < length xs → x ≡ get_or xs i x
    → (old ++ flat_map f (take i xs)) ++ f x ≡ old ++ flat_map f (take (i + 1) xs)
flat_map-taken f old xs i x inside is =
    let more : take (i + 1) xs ≡ take i xs ++ x ∷ [] = take_more xs i x inside ∙ ap (λ m. take i xs ++ m ∷ []) (sym is) in
    flat_map_more f old (take i xs) x ∙ ap (λ taken. old ++ flat_map f taken) (sym more)

-- the line of a member is written behind those before it
pub member_written : (old out new : List ℕ) (members : List Member) (i number : ℕ) (member : Member) → i < length members → member ≡ get_or members i member → number ≡ i + 1
    → out ≡ old ++ flat_map line (kappa_lines 1 (take i members)) → new ≡ out ++ line (kappa_words number member.kappa) → new ≡ old ++ flat_map line (kappa_lines 1 (take (i + 1) members))
member_written old out new members i number member inside is counted so_far step =
    rw (step, so_far, counted, kappa_lines-taken members i member inside is) (simp append_assoc)

-- lines behind others
lines_after : (old : List ℕ) (first rest : List (List (List ℕ))) → (old ++ flat_map line first) ++ flat_map line rest ≡ old ++ flat_map line (first ++ rest)
lines_after old first rest = simp (append_assoc, flat_map-append)

-- the lines of an element's members are written behind its first lines
pub element_written : (old head new name : List ℕ) (s : Section) (shape : Shape) (made : Result (List Member) Wide) (members : List Member) → made ≡ Ok members
    → head ≡ old ++ flat_map line (shape_lines name s shape) → new ≡ head ++ flat_map line (kappa_lines 1 members) → new ≡ old ++ flat_map line (element_lines name s shape made)
element_written old head new name s shape made members is begun step =
    rw (step, begun, is) (lines_after old (shape_lines name s shape) (kappa_lines 1 members))

-- one line and others behind it
pub lines_next : (old mid new : List ℕ) (first : List (List ℕ)) (rest : List (List (List ℕ))) → mid ≡ old ++ line first → new ≡ mid ++ flat_map line rest → new ≡ old ++ flat_map line (first ∷ rest)
lines_next old mid new first rest begun step = rw (step, begun) (simp append_assoc)

-- the record of that number
pub at_number : {X : Type 0} (xs : List X) (i : ℕ) (x none : X) → slice_get xs i ≡ Some x → x ≡ slice_index_or xs i none
at_number xs i x none e = ap (λ o. unwrap_or o none) (sym e) ∙ unwrap_or-slice_get xs i none

-- the radius of a model's bend has room for its pipe
pub bend_room : (m : Lists) (e : Element) (s : Section) (r : ℤ) (angle : ℕ) (x y z : ℤ) → Keeps m (record_of.Element e) → slice_get m.sections e.section.0 ≡ Some s → e.shape ≡ Bend r angle x y z → IsBendRadius s r
bend_room m e s r angle x y z keeps found is =
    let a = get_or m.nodes e.from.0 no_node in
    let b = get_or m.nodes e.to.0 no_node in
    let from = slice_get-get_or m.nodes e.from.0 no_node keeps.known.0 in
    let to = slice_get-get_or m.nodes e.to.0 no_node keeps.known.1.0 in
    let form : BendInForm r angle x y z = subst ShapeInForm is keeps.form.shape in
    let span : IsBendSpan a b s r angle (difference_to a x y z) = subst (IsShapeSpan a b s) is (keeps.own.shape a b s from to found) in
    record { range = record { least = form.radius.least; most = form.radius.most }; room = span.room }

pub radius_fits : (r : ℤ) → IsIn (from_to 1000 15000000) r → FitsSigned w64 r
radius_fits r range = omega (arith, ints, range.least, range.most)
