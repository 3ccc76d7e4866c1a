-- The line of a record that keeps the rules is read as that record.
use Rattle.std.proofs.Common.{◌≡◌, ◌≢◌, ℕ, ◌<◌, ◌==◌, true, false, List, [], map, take, length, get_or, Some, None, Ok, All, AllPairs, refl, sym, subst, arith}
use Rattle.std.proofs.lemmas.Bool.{ne_eqb}
use Rattle.std.proofs.lemmas.List.{length-map, length-take, get_or-take, take-map}
use Rattle.std.proofs.lemmas.List.Elements.{All-map, All-take, All-weaker}
use Rattle.text_words.specs.Names.{IsName}
use Rattle.model_types.specs.declared.records.Shape.{Shape}
use Rattle.model_types.specs.declared.records.Shape.TheVariants.{Straight, Bend}
use Rattle.model_types.specs.declared.records.RestraintKind.{RestraintKind}
use Rattle.model_types.specs.declared.records.RestraintKind.TheVariants.{Anchor, Linear, Twist, Oneway, Gap, Hanger}
use Rattle.model_types.specs.declared.records.Check.{Check}
use Rattle.model_types.specs.declared.records.CheckKind.{CheckKind}
use Rattle.model_types.specs.declared.records.CheckKind.TheVariants as check
use Rattle.model_types.specs.declared.records.Record.{Record}
use Rattle.model_types.specs.declared.records.Record.TheVariants as record_of
use Rattle.model_types.specs.declared.ids.Space.TheVariants as space_of
use Rattle.model_types.specs.Lists.{Lists, names_in}
use Rattle.model_types.specs.Ranges.{KindInForm, ShapeInForm, CheckInForm}
use Rattle.model_types.specs.Kinds.{Kind, material_kind, section_kind, node_kind, element_kind, tee_kind, restraint_kind, case_kind, temp_kind, pressure_kind, force_kind, move_kind, check_kind, check_refs, AreThere, Of, as_record, before}
use Rattle.model_types.specs.Rules.{Keeps, IsModel}
use Rattle.model_text.specs.Records.{record_of_words}
use Rattle.model_text.specs.Rows.{first_word, form_of, row, Values, made, record_in, form_words, element_words, restraint_words, check_words, words_of}
use Rattle.model_text.specs.declared.records.Form.{Form}
use Rattle.model_text.specs.declared.records.Form.TheVariants as form_named
use Rattle.model_text.proofs.PlainWords.{is_plain, ArePlain, one_more}
use Rattle.model_text.proofs.WrittenWords.{AreInRow, IsNamed, IsNamedCheck, after_step, is_short_row, form_plain, form_read, plain_name, reads_name, found_name}

-- a line's words are plain, there are some, and they are read as the record
pub record IsWritten (m : Lists) (r : Record) (ws : List (List ℕ)) : Type 0 where
  pub plain : ArePlain ws
  pub some : (length ws == 0) ≡ false
  pub made : record_of_words m ws ≡ Ok r

named : {X : Type 0} (name : X → List ℕ) (Keeps : X → Type 0) (keeps : (x : X) → Keeps x → IsName (name x)) (xs : List X) (n : ℕ) → All Keeps xs → AllPairs (λ a b. a ≢ b) (map name xs) → n < length xs → IsNamed (map name xs) n
named name Keeps keeps xs n each distinct inside =
    let names_all : All IsName (map name xs) = All-map IsName name xs (All-weaker Keeps (λ x. IsName (name x)) keeps xs each) in
    let there : n < length (map name xs) = omega (arith, length-map xs name) in
    let own = names_all n [] there in
    record { plain = plain_name (get_or (map name xs) n []) own; reads = reads_name (get_or (map name xs) n []) own; found = found_name (map name xs) n distinct there }

-- pairs of a list's elements are pairs of its first ones
pairs_taken : {X : Type 0} (R : X → X → Type 0) (i : ℕ) (xs : List X) → AllPairs R xs → AllPairs R (take i xs)
pairs_taken R n xs each i j d before inside =
    let sizes = length-take n xs in
    let second : j < n = omega (arith, inside, sizes) in
    subst (λ x. R x (get_or (take n xs) j d)) (sym (get_or-take n xs i d (omega (arith, before, second))))
    (subst (R (get_or xs i d)) (sym (get_or-take n xs j d second)) (each i j d before (omega (arith, inside, sizes))))

-- a form's own words are plain and tell it, and its numbers have at most 18 digits
record IsForm (f : Form) : Type 0 where
  word : is_plain (first_word f) ≡ true
  short : is_short_row (row f) ≡ true
  found : (m : Lists) (vs : Values (row f)) → form_of (form_words m f vs) ≡ Ok f

form : (f : Form) → IsForm f
unfolding form_of
form form_named.Material = record { word = refl; short = refl; found = λ m vs. refl }
form form_named.Section = record { word = refl; short = refl; found = λ m vs. refl }
form form_named.Node = record { word = refl; short = refl; found = λ m vs. refl }
form form_named.Straight = record { word = refl; short = refl; found = λ m vs. refl }
form form_named.Bend = record { word = refl; short = refl; found = λ m vs. refl }
form form_named.Tee = record { word = refl; short = refl; found = λ m vs. refl }
form form_named.Anchor = record { word = refl; short = refl; found = λ m vs. refl }
form form_named.Linear = record { word = refl; short = refl; found = λ m vs. refl }
form form_named.Twist = record { word = refl; short = refl; found = λ m vs. refl }
form form_named.Oneway = record { word = refl; short = refl; found = λ m vs. refl }
form form_named.Gap = record { word = refl; short = refl; found = λ m vs. refl }
form form_named.Hanger = record { word = refl; short = refl; found = λ m vs. refl }
form form_named.Case = record { word = refl; short = refl; found = λ m vs. refl }
form form_named.Temp = record { word = refl; short = refl; found = λ m vs. refl }
form form_named.Pressure = record { word = refl; short = refl; found = λ m vs. refl }
form form_named.Force = record { word = refl; short = refl; found = λ m vs. refl }
form form_named.Move = record { word = refl; short = refl; found = λ m vs. refl }
form form_named.Sustained = record { word = refl; short = refl; found = λ m vs. refl }
form form_named.Occasional = record { word = refl; short = refl; found = λ m vs. refl }
form form_named.Expansion = record { word = refl; short = refl; found = λ m vs. refl }

module _ (m : Lists) where
  form_written : (f : Form) (vs : Values (row f)) → AreInRow m (row f) vs → IsWritten m (made f vs) (form_words m f vs)
  form_written f vs are = record {
    plain = one_more _ _ (record { passes = (form f).word }) (form_plain m f vs (form f).short are);
    some = ne_eqb (length (form_words m f vs)) 0 (λ none. omega arith);
    made = after_step (form_of (form_words m f vs)) f (λ g. record_in m g (form_words m f vs)) _ ((form f).found m vs) (form_read m f vs (form f).short are);
  }

  element_written : (name : List ℕ) (from to section : ℕ) → IsName name → IsNamed (names_in m space_of.Node) from → IsNamed (names_in m space_of.Node) to → IsNamed (names_in m space_of.Section) section
      → (shape : Shape) → ShapeInForm shape
      → IsWritten m (record_of.Element (record { name = name; from = record { 0 = from }; to = record { 0 = to }; section = record { 0 = section }; shape = shape })) (element_words m name from to section shape)
  element_written name from to section is at_from at_to at_section Straight shape =
      form_written form_named.Straight (name, (from, (to, (section, tt)))) (is, (at_from, (at_to, (at_section, tt))))
  element_written name from to section is at_from at_to at_section (Bend r angle x y z) shape =
      form_written form_named.Bend (name, (from, (to, (section, (r, (angle, (x, (y, (z, tt)))))))))
      (is, (at_from, (at_to, (at_section, (shape.radius, (shape.listed, (shape.x, (shape.y, (shape.z, tt)))))))))

  restraint_written : (name : List ℕ) (node : ℕ) → IsName name → IsNamed (names_in m space_of.Node) node → (kind : RestraintKind) → KindInForm kind
      → IsWritten m (record_of.Restraint (record { name = name; node = record { 0 = node }; kind = kind })) (restraint_words m name node kind)
  restraint_written name node is at (Anchor kt kr) kind = form_written form_named.Anchor (name, (node, (kt, (kr, tt)))) (is, (at, (kind.0, (kind.1, tt))))
  restraint_written name node is at (Linear x y z k) kind = form_written form_named.Linear (name, (node, (record { x = x; y = y; z = z }, (k, tt)))) (is, (at, (kind.0, (kind.1, tt))))
  restraint_written name node is at (Twist x y z k) kind = form_written form_named.Twist (name, (node, (record { x = x; y = y; z = z }, (k, tt)))) (is, (at, (kind.0, (kind.1, tt))))
  restraint_written name node is at (Oneway x y z gap k) kind =
      form_written form_named.Oneway (name, (node, (record { x = x; y = y; z = z }, (gap, (k, tt))))) (is, (at, (kind.0, (kind.1, (kind.2, tt)))))
  restraint_written name node is at (Gap x y z gap k) kind =
      form_written form_named.Gap (name, (node, (record { x = x; y = y; z = z }, (gap, (k, tt))))) (is, (at, (kind.0, (kind.1, (kind.2, tt)))))
  restraint_written name node is at (Hanger rate load) kind = form_written form_named.Hanger (name, (node, (rate, (load, tt)))) (is, (at, (kind.0, (kind.1, tt))))

  -- the cases of a check have names, and the sustained check that it names has one
  abbrev AreNamedIn : CheckKind → Type 0
  AreNamedIn (check.Sustained case sh) = IsNamed (names_in m space_of.Case) case.0
  AreNamedIn (check.Occasional case sh percent) = IsNamed (names_in m space_of.Case) case.0
  AreNamedIn (check.Expansion case1 case2 sc sh cycles fm sus) = IsNamed (names_in m space_of.Case) case1.0 × IsNamed (names_in m space_of.Case) case2.0 × IsNamedCheck m sus

  check_written : (name : List ℕ) → IsName name → (kind : CheckKind) → CheckInForm kind → AreNamedIn kind → IsWritten m (record_of.Check (record { name = name; kind = kind })) (check_words m name kind)
  check_written name is (check.Sustained case sh) form at = form_written form_named.Sustained (name, (tt, (case.0, (sh, tt)))) (is, (tt, (at, (form, tt))))
  check_written name is (check.Occasional case sh percent) form at =
      form_written form_named.Occasional (name, (tt, (case.0, (sh, (percent, tt))))) (is, (tt, (at, (form.0, (form.1, tt)))))
  check_written name is (check.Expansion case1 case2 sc sh cycles fm sus) form at =
      form_written form_named.Expansion (name, (tt, (case1.0, (case2.0, (sc, (sh, (cycles, (fm, (sus, tt)))))))))
      (is, (tt, (at.0, (at.1, (form.cold, (form.hot, (form.cycles, (form.factor, (at.2, tt)))))))))

-- a record of a model is read from its words behind those before it
module _ (m : Lists) (is : IsModel m) where
  material_at : (n : ℕ) → n < length m.materials → IsNamed (names_in m space_of.Material) n
  material_at n inside = named (λ x. x.name) (λ x. Keeps m (record_of.Material x)) (λ x k. k.form.name) m.materials n is.kept.materials (is.rules.distinct material_kind refl) inside

  section_at : (n : ℕ) → n < length m.sections → IsNamed (names_in m space_of.Section) n
  section_at n inside = named (λ x. x.name) (λ x. Keeps m (record_of.Section x)) (λ x k. k.form.name) m.sections n is.kept.sections (is.rules.distinct section_kind refl) inside

  node_at : (n : ℕ) → n < length m.nodes → IsNamed (names_in m space_of.Node) n
  node_at n inside = named (λ x. x.name) (λ x. Keeps m (record_of.Node x)) (λ x k. k.form.name) m.nodes n is.kept.nodes (is.rules.distinct node_kind refl) inside

  element_at : (n : ℕ) → n < length m.elements → IsNamed (names_in m space_of.Element) n
  element_at n inside = named (λ x. x.name) (λ x. Keeps m (record_of.Element x)) (λ x k. k.form.name) m.elements n is.kept.elements (is.rules.distinct element_kind refl) inside

  case_at : (n : ℕ) → n < length m.cases → IsNamed (names_in m space_of.Case) n
  case_at n inside = named (λ x. x.name) (λ x. Keeps m (record_of.Case x)) (λ x k. k.form.name) m.cases n is.kept.cases (is.rules.distinct case_kind refl) inside

  restraint_at : (n : ℕ) → n < length m.restraints → IsNamed (names_in m space_of.Restraint) n
  restraint_at n inside = named (λ x. x.name) (λ x. Keeps m (record_of.Restraint x)) (λ x k. k.form.0) m.restraints n is.kept.restraints (is.rules.distinct restraint_kind refl) inside

  -- the name of a check before another
  earlier_check_at : (i n : ℕ) → n < length (take i m.checks) → IsNamed (names_in (before m check_kind i) space_of.Check) n
  earlier_check_at i n inside =
      named (λ x. x.name) (λ x. IsName x.name) (λ x name. name) (take i m.checks) n
      (All-take (λ (x : Check). IsName x.name) i m.checks (All-weaker (λ x. Keeps m (record_of.Check x)) (λ (x : Check). IsName x.name) (λ x k. k.form.0) m.checks is.kept.checks))
      (subst (AllPairs (λ a b. a ≢ b)) (take-map (λ (x : Check). x.name) i m.checks) (pairs_taken (λ a b. a ≢ b) i (map (λ (x : Check). x.name) m.checks) (is.rules.distinct check_kind refl))) inside

  named_in_check : (i : ℕ) (kind : CheckKind) → AreThere (before m check_kind i) (check_refs kind) → AreNamedIn (before m check_kind i) kind
  named_in_check i (check.Sustained case sh) known = case_at case.0 known.0
  named_in_check i (check.Occasional case sh percent) known = case_at case.0 known.0
  named_in_check i (check.Expansion case1 case2 sc sh cycles fm None) known = (case_at case1.0 known.0, case_at case2.0 known.1.0, tt)
  named_in_check i (check.Expansion case1 case2 sc sh cycles fm (Some sus)) known = (case_at case1.0 known.0, case_at case2.0 known.1.0, earlier_check_at i sus.0 known.1.1.0)

  pub written : (k : Kind) (i : ℕ) (x : Of k) → Keeps (before m k i) (as_record k x) → IsWritten (before m k i) (as_record k x) (words_of (before m k i) (as_record k x))
  written material_kind i r k =
      let f = k.form in
      form_written (before m material_kind i) form_named.Material (r.name, (r.e, (r.nu, (r.alpha, (r.rho, tt))))) (f.name, (f.e, (f.nu, (f.alpha, (f.rho, tt)))))
  written section_kind i r k =
      let f = k.form in
      form_written (before m section_kind i) form_named.Section (r.name, (r.material.0, (r.d, (r.t, (r.allowance, (r.extra, tt))))))
      (f.name, (material_at r.material.0 k.known.0, (f.d, (f.t, (f.allowance, (f.extra, tt))))))
  written node_kind i r k =
      let f = k.form in
      form_written (before m node_kind i) form_named.Node (r.name, (r.x, (r.y, (r.z, tt)))) (f.name, (f.x, (f.y, (f.z, tt))))
  written element_kind i r k =
      element_written (before m element_kind i) r.name r.from.0 r.to.0 r.section.0 k.form.name (node_at r.from.0 k.known.0) (node_at r.to.0 k.known.1.0) (section_at r.section.0 k.known.1.1.0) r.shape k.form.shape
  written tee_kind i r k =
      form_written (before m tee_kind i) form_named.Tee (r.node.0, (r.branch.0, (r.header.0, (r.kind, tt))))
      (node_at r.node.0 k.known.0, (element_at r.branch.0 k.known.1.0, (section_at r.header.0 k.known.1.1.0, (k.form, tt))))
  written restraint_kind i r k = restraint_written (before m restraint_kind i) r.name r.node.0 k.form.0 (node_at r.node.0 k.known.0) r.kind k.form.1
  written case_kind i r k =
      let f = k.form in
      form_written (before m case_kind i) form_named.Case (r.name, (r.gx, (r.gy, (r.gz, (r.hangers, (r.dt, (r.p, tt))))))) (f.name, (f.gx, (f.gy, (f.gz, (tt, (f.dt, (f.p, tt)))))))
  written temp_kind i r k =
      form_written (before m temp_kind i) form_named.Temp (r.case.0, (r.section.0, (r.dt, tt))) (case_at r.case.0 k.known.0, (section_at r.section.0 k.known.1.0, (k.form, tt)))
  written pressure_kind i r k =
      form_written (before m pressure_kind i) form_named.Pressure (r.case.0, (r.section.0, (r.p, tt))) (case_at r.case.0 k.known.0, (section_at r.section.0 k.known.1.0, (k.form, tt)))
  written force_kind i r k =
      let f = k.form in
      form_written (before m force_kind i) form_named.Force (r.case.0, (r.node.0, (r.fx, (r.fy, (r.fz, (r.mx, (r.my, (r.mz, tt))))))))
      (case_at r.case.0 k.known.0, (node_at r.node.0 k.known.1.0, (f.fx, (f.fy, (f.fz, (f.mx, (f.my, (f.mz, tt))))))))
  written move_kind i r k =
      let f = k.form in
      form_written (before m move_kind i) form_named.Move (r.case.0, (r.anchor.0, (r.x, (r.y, (r.z, tt)))))
      (case_at r.case.0 k.known.0, (restraint_at r.anchor.0 k.known.1.0, (f.x, (f.y, (f.z, tt)))))
  written check_kind i r k = check_written (before m check_kind i) r.name k.form.0 r.kind k.form.1 (named_in_check i r.kind k.known)
