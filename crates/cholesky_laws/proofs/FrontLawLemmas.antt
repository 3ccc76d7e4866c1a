-- The laws of fronts, as they are told.
use Rattle.std.proofs.Common.{◌≡◌, ℕ, suc, ◌-◌, ◌*◌, ◌^◌, ◌<◌, ◌≤◌, List, length, Contains, sym, arith, subst, true, inl, inr, ℤ, pos, neg_ℤ, ◌<ℤ◌, unsigned_abs}
use Rattle.int_laws.proofs.Sums.{int_sums}
use Rattle.lists.specs.Rising.{IsRising}
use Rattle.lists.specs.Rows.{freedom_at}
use Rattle.elimination.specs.Elimination.{is_parent}
use Rattle.cholesky_laws.specs.Fronts.{Front, Space, Update, later_of, places_in, parents_of, IsBase, lower_entry, update_entry, space_places, assembled, assembled_entry, front_update, IsNextChild, IsComplete}
use Rattle.cholesky_laws.proofs.TreeLemmas.{child_below, child_parent}
use Rattle.cholesky_laws.proofs.TriangleLemmas.{places-rising, row-bounds, rows-le, lower-entry}
use Rattle.cholesky_laws.proofs.FrontLemmas.{triangle-is, update-entry_is}
use Rattle.cholesky_laws.proofs.FrontBoundLemmas.{assembled-small, products-small, passing-narrow, diagonal-low}

pub before-small : (base : List Front) (d : ℕ) (s : Space) (u : Update) → IsNextChild base d s u → (r c : ℕ) → c ≤ r → r < 6 * length (space_places s) → unsigned_abs (lower_entry s.entries r c) < 2 ^ 126 - 2 ^ 114
before-small base d s u n r c le rl =
    let f = s.front in
    let rows : r < 6 * length (places_in base f) = subst (λ (s : Space). r < 6 * length (space_places s)) n.space rl in
    let below = child_below base n.fronts f d n.child in
    let small = assembled-small base n.fronts f d n.front (omega arith) (λ e lt child. n.passing e (omega arith) child) r c rows (omega arith) in
    let read = lower-entry (6 * length (places_in base f)) (6 * length (places_in base f)) (assembled_entry base f d) r c (omega arith) le rows in
    subst (λ (s : Space). unsigned_abs (lower_entry s.entries r c) < 2 ^ 126 - 2 ^ 114) (sym n.space) (rw read small)

negated_small : (x z : ℤ) → x ≡ neg_ℤ z → unsigned_abs z < 2 ^ 113 → unsigned_abs x < 2 ^ 113
negated_small x z e small = omega (arith, int_sums)

pub update-small : (base : List Front) (d : ℕ) (s : Space) (u : Update) → IsNextChild base d s u → (r c : ℕ) → c ≤ r → r < 6 * length (space_places s) →
    unsigned_abs (update_entry u (freedom_at (space_places s) r) (freedom_at (space_places s) c)) < 2 ^ 113
update-small base d s u n r c le rl =
    let f = s.front in
    let b = n.fronts in
    let P : Space → Update → Type 0 = λ s u. unsigned_abs (update_entry u (freedom_at (space_places s) r) (freedom_at (space_places s) c)) < 2 ^ 113 in
    let rows : r < 6 * length (places_in base f) = subst (λ (s : Space). r < 6 * length (space_places s)) n.space rl in
    let below = child_below base b f d n.child in
    let i = freedom_at (places_in base f) r in
    let j = freedom_at (places_in base f) c in
    let bi = row-bounds base b f r n.front rows in
    let bj = row-bounds base b f c n.front (omega arith) in
    let pass = n.passing d (omega arith) n.child in
    let small = products-small base d i j (passing-narrow base d pass i bi.1 (omega (arith, bi.0))) (passing-narrow base d pass j bj.1 (omega (arith, bj.0))) in
    let is = update-entry_is base b d i j bi.1 (rows-le base b f r c le rows) (omega (arith, bi.0)) (omega (arith, bj.0)) in
    let here : P (assembled base f d) (front_update base d) = negated_small _ _ is small in
    subst (λ (s : Space). P s u) (sym n.space) (subst (λ (u : Update). P (assembled base f d) u) (sym n.update) here)

pub entries-small : (base : List Front) (s : Space) → IsComplete base s → (r c : ℕ) → c ≤ r → r < 6 * length (space_places s) → unsigned_abs (lower_entry s.entries r c) < 2 ^ 126 - 2 ^ 114
entries-small base s n r c le rl =
    let f = s.front in
    let rows : r < 6 * length (places_in base f) = subst (λ (s : Space). r < 6 * length (space_places s)) n.space rl in
    let small = assembled-small base n.fronts f f n.front (omega arith) (λ e lt child. n.passing e child) r c rows (omega arith) in
    subst (λ (s : Space). unsigned_abs (lower_entry s.entries r c) < 2 ^ 126 - 2 ^ 114) (sym n.space) (rw (triangle-is base f r c le rows) small)

pub diagonals-low : (base : List Front) (s : Space) → IsComplete base s → (c : ℕ) → c < 6 → lower_entry s.entries c c <ℤ pos (2 ^ 113)
diagonals-low base s n c cl = subst (λ (s : Space). lower_entry s.entries c c <ℤ pos (2 ^ 113)) (sym n.space) (diagonal-low base n.fronts s.front c n.front cl)

-- a child's later places are its parent's
in-places : (base : List Front) → IsBase base → (f d q : ℕ) → is_parent (parents_of base) f d ≡ true → Contains (later_of base d) q → Contains (places_in base f) q
in-places base b f d q child in' =
    elim (b.closed d f q (child_parent base f d child) in') [ inl same ↦ (0, omega arith, sym same) | inr (i, lt, is) ↦ (suc i, omega arith, is) ]

pub child-places : (base : List Front) (d : ℕ) (s : Space) (u : Update) → IsNextChild base d s u → (q : ℕ) → Contains u.later q → Contains (space_places s) q
child-places base d s u n q in' =
    let here = in-places base n.fronts s.front d q n.child (subst (λ (u : Update). Contains u.later q) n.update in') in
    subst (λ (s : Space). Contains (space_places s) q) (sym n.space) here

pub space-rising : (base : List Front) (d : ℕ) (s : Space) (u : Update) → IsNextChild base d s u → IsRising (space_places s)
space-rising base d s u n = subst (λ (s : Space). IsRising (space_places s)) (sym n.space) (places-rising base n.fronts s.front)

pub child-rising : (base : List Front) (d : ℕ) (s : Space) (u : Update) → IsNextChild base d s u → IsRising u.later
child-rising base d s u n = subst (λ (u : Update). IsRising u.later) (sym n.update) (n.fronts.rising d)
