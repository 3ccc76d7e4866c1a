-- How the elements at a node make a tee: a straight as the branch, and two straights of a header.
use Rattle.std.specs.Prelude.{◌≡◌, ℕ, ◌==◌, Bool, true, false, not, ◌||◌, ◌&&◌, IsTrue, List, [], ◌∷◌, filter, position, slice_get, All, ◌↔◌, Option, Some, None}
use Rattle.std.specs.Str.{bytes_eq}
use Rattle.model_types.specs.declared.spans.Difference.{Difference}
use Rattle.model_types.specs.declared.records.Node.{Node}
use Rattle.model_types.specs.declared.records.Element.{Element}
use Rattle.model_types.specs.declared.records.Shape.{Shape}
use Rattle.model_types.specs.declared.records.Shape.TheVariants.{Straight, Bend}
use Rattle.model_types.specs.declared.records.Tee.{Tee}
use Rattle.model_types.specs.Bends.{difference_between, AreParallel, are_parallel}
use Rattle.model_types.specs.Lists.{Lists}

abbrev pub is_straight : Shape → Bool
is_straight Straight = true
is_straight (Bend r angle x y z) = false

-- an element ends at a node
abbrev pub ends_at : ℕ → Element → Bool
ends_at node e = e.from.0 == node || e.to.0 == node

-- the elements that end at a node, without the one of that name
abbrev pub is_beside : ℕ → List ℕ → Element → Bool
is_beside node name e = ends_at node e && not (bytes_eq e.name name)

abbrev pub beside : ℕ → List ℕ → List Element → List Element
beside node name elements = filter (is_beside node name) elements

-- the difference of an element's nodes, where both are there
abbrev pub run_between : Option Node → Option Node → Option Difference
run_between (Some a) (Some b) = Some (difference_between a b)
run_between _ _ = None

abbrev pub run_of : List Node → Element → Option Difference
run_of nodes e = run_between (slice_get nodes e.from.0) (slice_get nodes e.to.0)

-- two elements that share a node lie on one line: their differences are parallel
pub record AreInLine (nodes : List Node) (e f : Element) : Type 0 where
  pub u : Difference
  pub v : Difference
  pub u_is : run_of nodes e ≡ Some u
  pub v_is : run_of nodes f ≡ Some v
  pub parallel : AreParallel u v

-- an element is a straight of a tee's header
pub record IsHeader (t : Tee) (e : Element) : Type 0 where
  pub straight : IsTrue (is_straight e.shape)
  pub section : e.section.0 ≡ t.header.0

-- an element is a straight that ends at a tee's node
pub record IsBranch (t : Tee) (e : Element) : Type 0 where
  pub straight : IsTrue (is_straight e.shape)
  pub end : IsTrue (ends_at t.node.0 e)

-- the elements at a tee's node make a tee: beside its branch there are two straights of its header, which lie on one line, off which
-- the branch leads
pub record IsTee (m : Lists) (t : Tee) : Type 0 where
  pub branch : Element
  pub first : Element
  pub second : Element
  pub branch_there : slice_get m.elements t.branch.0 ≡ Some branch
  pub beside_it : beside t.node.0 branch.name m.elements ≡ first ∷ second ∷ []
  pub branch_is : IsBranch t branch
  pub first_is : IsHeader t first
  pub second_is : IsHeader t second
  pub on_line : AreInLine m.nodes first second
  pub off_line : ¬ (AreInLine m.nodes branch first)

-- ---- the test

-- two elements, where there are just two
abbrev pub just_two : List Element → Option (Element × Element)
just_two (e ∷ f ∷ []) = Some (e, f)
just_two _ = None

abbrev pub is_header : Tee → Element → Bool
is_header t e = is_straight e.shape && e.section.0 == t.header.0

abbrev pub is_branch : Tee → Element → Bool
is_branch t e = is_straight e.shape && ends_at t.node.0 e

abbrev pub are_in_line : Option Difference → Option Difference → Bool
are_in_line (Some u) (Some v) = are_parallel u v
are_in_line _ _ = false

-- a branch and the elements beside it make a tee
abbrev pub make_tee : List Node → Tee → Element → Option (Element × Element) → Bool
make_tee nodes t branch (Some (e, f)) =
    is_branch t branch && (is_header t e && (is_header t f && (are_in_line (run_of nodes e) (run_of nodes f) && not (are_in_line (run_of nodes branch) (run_of nodes e)))))
make_tee nodes t branch None = false

abbrev pub is_tee_by : List Node → List Element → Tee → Option Element → Bool
is_tee_by nodes elements t (Some branch) = make_tee nodes t branch (just_two (beside t.node.0 branch.name elements))
is_tee_by nodes elements t None = false

abbrev pub is_tee : List Node → List Element → Tee → Bool
is_tee nodes elements t = is_tee_by nodes elements t (slice_get elements t.branch.0)

-- the number of the first tee that the elements at its node don't make
abbrev pub broken_tee : Lists → Option ℕ
broken_tee m = position (λ t. not (is_tee m.nodes m.elements t)) m.tees

-- the test finds none exactly where each tee is made
abbrev pub TeesAreJudged : Type 0
TeesAreJudged = (m : Lists) → (broken_tee m ≡ None) ↔ All (IsTee m) m.tees
