-- The rows of a member's places, and sums over them.
use Rattle.std.proofs.Common.{◌≡◌, ◌≢◌, ℕ, ◌+◌, ◌-◌, ◌*◌, ◌/◌, ◌%◌, ◌<◌, ◌≤◌, ◌⊎◌, inl, inr, get_or, ◌∙◌, ap, arith, ℤ, pos, ◌*ℤ◌}
use Rattle.std.proofs.lemmas.Bool.Decides.{nat_tests}
use Rattle.int_laws.specs.Sums.{sum_below}
use Rattle.int_laws.proofs.Sums.{int_sums}
use Rattle.int_laws.proofs.Products.{zero-mul}
use Rattle.int_laws.proofs.SumLaws.{sum_below-reindexed}
use Rattle.flex_interval.specs.Fraction.{Within}
use Rattle.member_set.specs.declared.members.Member.{Member}
use Rattle.member_set.specs.Members.{nothing, shape_at}
use Rattle.member_set.specs.Realisation.{fraction}
use Rattle.member_set.specs.Interval.{place_count, touched_row}

pub place_count-le : (m : Member) → place_count m ≤ 12
place_count-le m = grind (arith, nat_tests)

row_quotient : (n p : ℕ) → p < 6 → (6 * n + p) / 6 ≡ n
row_quotient n p small = omega arith

row_remainder : (n p : ℕ) → p < 6 → (6 * n + p) % 6 ≡ p
row_remainder n p small = omega arith

shape_at-first : (m : Member) (p : ℕ) → p < 6 → shape_at m (6 * m.n1 + p) ≡ get_or m.w p nothing
shape_at-first m p small = rw (row_quotient m.n1 p small, row_remainder m.n1 p small) (grind (arith, nat_tests))

shape_at-second : (m : Member) (p : ℕ) → p < 6 → m.n1 ≢ m.n2 → shape_at m (6 * m.n2 + p) ≡ get_or m.w (6 + p) nothing
shape_at-second m p small apart = rw (row_quotient m.n2 p small, row_remainder m.n2 p small) (grind (arith, nat_tests))

touched_row-first : (m : Member) (place : ℕ) → place < 6 → touched_row m place ≡ 6 * m.n1 + place
touched_row-first m place small = grind (arith, nat_tests)

touched_row-second : (m : Member) (place : ℕ) → 6 ≤ place → touched_row m place ≡ 6 * m.n2 + (place - 6)
touched_row-second m place large = grind (arith, nat_tests)

two_nodes : (m : Member) (place : ℕ) → 6 ≤ place → place < place_count m → m.n1 ≢ m.n2
two_nodes m place large inside = grind (arith, nat_tests)

-- the shape number of a place is that of its row
pub shape_at-touched_row : (m : Member) (place : ℕ) → place < place_count m → shape_at m (touched_row m place) ≡ get_or m.w place nothing
shape_at-touched_row m place inside =
    let side : (place < 6) ⊎ (6 ≤ place) = search arith in
    elim side [
      | inl small ↦ rw (touched_row-first m place small) (shape_at-first m place small)
      | inr large ↦
          let small : place - 6 < 6 = omega (arith, place_count-le m) in
          let back : 6 + (place - 6) ≡ place = omega arith in
          rw (touched_row-second m place large) (shape_at-second m (place - 6) small (two_nodes m place large inside) ∙ ap (λ (p : ℕ). get_or m.w p nothing) back)
    ]

-- a member has no other shape numbers
pub shape_at-elsewhere : (m : Member) (row : ℕ) →
    (shape_at m row ≡ nothing) ⊎ ((place : ℕ) × (place < place_count m) × (touched_row m place ≡ row))
shape_at-elsewhere m row =
    let first : (row / 6 ≡ m.n1) ⊎ (row / 6 ≢ m.n1) = search arith in
    let second : (row / 6 ≡ m.n2) ⊎ (row / 6 ≢ m.n2) = search arith in
    let small : row % 6 < 6 = omega arith in
    elim first [
      | inl here ↦ inr (row % 6, grind (arith, nat_tests), touched_row-first m (row % 6) small ∙ omega arith)
      | inr not_first ↦ elim second [
        | inl there ↦ inr (6 + row % 6, grind (arith, nat_tests), touched_row-second m (6 + row % 6) (omega arith) ∙ omega arith)
        | inr not_second ↦ inl (grind (arith, nat_tests))
      ]
    ]

-- two places have different rows
pub touched_row-apart : (m : Member) (p q : ℕ) → p < place_count m → q < place_count m → touched_row m p ≡ touched_row m q → p ≡ q
touched_row-apart m p q p_inside q_inside same = grind (arith, nat_tests)

-- nothing but 0 is within the interval of 0 alone
pub nothing_is_zero : (n q : ℤ) → Within nothing (fraction n q) → n ≡ pos 0
nothing_is_zero n q w = omega (arith, int_sums, zero-mul q, w.at_least, w.at_most)

-- a place's row is one of the rows
pub touched_row-inside : (m : Member) (rows p : ℕ) → p < place_count m → 6 * m.n1 + 6 ≤ rows → 6 * m.n2 + 6 ≤ rows → touched_row m p < rows
touched_row-inside m rows p inside first second = grind (arith, nat_tests, place_count-le m)

-- the sum over a member's places is that over all rows
pub reach_by_places : (m : Member) (rows : ℕ) (shape u : ℕ → ℤ) → 6 * m.n1 + 6 ≤ rows → 6 * m.n2 + 6 ≤ rows →
    ((row : ℕ) → shape_at m row ≡ nothing → shape row ≡ pos 0) →
    sum_below (place_count m) (λ p. shape (touched_row m p) *ℤ u (touched_row m p)) ≡ sum_below rows (λ row. shape row *ℤ u row)
reach_by_places m rows shape u first second none =
    sum_below-reindexed (place_count m) rows (touched_row m) (λ row. shape row *ℤ u row)
    (λ p inside. touched_row-inside m rows p inside first second)
    (touched_row-apart m)
    (λ row inside. elim (shape_at-elsewhere m row) [
      | inl off ↦ inl (ap (λ (z : ℤ). z *ℤ u row) (none row off) ∙ zero-mul (u row))
      | inr on ↦ inr on
    ])
