-- A line stays a line as its nodes are eliminated: to each side a node has one neighbour left at most.
use Rattle.std.proofs.Common.{◌≡◌, ◌≢◌, ℕ, ◌<◌, ◌≤◌, List, length, get_or, ◌⊎◌, inl, inr, sym, ap, arith, subst}
use Rattle.std.proofs.lemmas.Bool.{cases_lt, cases_eq}
use Rattle.lists.specs.Rising.{IsRising}

-- to the side that is told of, no node has two neighbours
abbrev IsThin : (ℕ → ℕ → Type 0) → (ℕ → ℕ → Type 0) → Type 0
IsThin less g = (n k l : ℕ) → less n k → less n l → g n k → g n l → k ≡ l

-- a graph becomes another as its node m is eliminated: its neighbours become neighbours of each other
pub record IsWithout (key : ℕ → ℕ) (g : ℕ → ℕ → Type 0) (m : ℕ) (h : ℕ → ℕ → Type 0) : Type 0 where
  pub turns : (n k : ℕ) → h n k → h k n
  pub apart : (n k : ℕ) → h n k → key n ≢ key m
  pub from : (n k : ℕ) → h n k → g n k ⊎ (g m n × g m k)

-- to each side of a node, by the keys, lies one neighbour at most
pub record IsLine (key : ℕ → ℕ) (g : ℕ → ℕ → Type 0) : Type 0 where
  pub turns : (n k : ℕ) → g n k → g k n
  pub above : IsThin (λ a b. key a < key b) g
  pub below : IsThin (λ a b. key b < key a) g

-- ---- one elimination, to one side

module _ (less : ℕ → ℕ → Type 0) (none : (n : ℕ) → less n n → ⊥) (through : (a b c : ℕ) → less a b → less b c → less a c) (g h : ℕ → ℕ → Type 0) (m : ℕ)
    (turns : (n k : ℕ) → g n k → g k n) (back : (n k : ℕ) → h n k → h k n) (side : (n k : ℕ) → h n k → less n m ⊎ less m n)
    (from : (n k : ℕ) → h n k → g n k ⊎ (g m n × g m k)) (up : IsThin less g) (down : IsThin (λ a b. less b a) g) where
  other : (n k : ℕ) → h n k → n ≢ m
  other n k hk same = elim (side n k hk) [
    | inl low ↦ none m (subst (λ x. less x m) same low)
    | inr high ↦ none m (subst (less m) same high)
  ]

  -- an old neighbour and a new one never lie to one side
  mixed : (n k l : ℕ) → less n k → less n l → h n k → g n k → g m n → g m l → ⊥
  mixed n k l nk nl hk old mn ml = elim (side n k hk) [
    | inl low ↦ other k n (back n k hk) (up n k m nk low old (turns m n mn))
    | inr high ↦ none n (subst (less n) (sym (up m n l high (through m n l high nl) mn ml)) nl)
  ]

  -- where the node lies below the one that is gone, its new neighbour lies above that
  past : (n k : ℕ) → less n k → less n m → h n k → g m n → g m k → less m k
  past n k nk low hk mn mk = elim (side k n (back n k hk)) [
    | inl also ↦ absurd (none n (subst (less n) (sym (down m n k low also mn mk)) nk))
    | inr high ↦ high
  ]

  thinned : IsThin less h
  thinned n k l nk nl hk hl = elim (from n k hk) [
    | inl a ↦ elim (from n l hl) [ inl b ↦ up n k l nk nl a b | inr (mn, ml) ↦ absurd (mixed n k l nk nl hk a mn ml) ]
    | inr (mn, mk) ↦ elim (from n l hl) [
      | inl b ↦ absurd (mixed n l k nl nk hl b mn mk)
      | inr (_, ml) ↦ elim (side n k hk) [
        | inl low ↦ up m k l (past n k nk low hk mn mk) (past n l nl low hl mn ml) mk ml
        | inr high ↦ absurd (none n (subst (less n) (sym (up m n k high (through m n k high nk) mn mk)) nk))
      ]
    ]
  ]

-- ---- one elimination

sides : (a b : ℕ) → a ≢ b → (a < b) ⊎ (b < a)
sides a b apart = elim (cases_lt a b) [
  | inl low ↦ inl low
  | inr from ↦ elim (cases_eq a b) [ inl same ↦ absurd (apart same) | inr differ ↦ inr (omega (arith, from, differ)) ]
]

swapped : {A B : Type 0} → A ⊎ B → B ⊎ A
swapped (inl a) = inr a
swapped (inr b) = inl b

pub line_without : (key : ℕ → ℕ) (g : ℕ → ℕ → Type 0) (m : ℕ) (h : ℕ → ℕ → Type 0) → IsLine key g → IsWithout key g m h → IsLine key h
line_without key g m h line step = record {
  turns = step.turns;
  above = thinned (λ a b. key a < key b) (λ n own. omega (arith, own)) (λ a b c ab bc. omega (arith, ab, bc)) g h m line.turns step.turns
      (λ n k hk. sides (key n) (key m) (step.apart n k hk)) step.from line.above line.below;
  below = thinned (λ a b. key b < key a) (λ n own. omega (arith, own)) (λ a b c ab bc. omega (arith, ab, bc)) g h m line.turns step.turns
      (λ n k hk. swapped (sides (key n) (key m) (step.apart n k hk))) step.from line.below line.above;
}

-- ---- the neighbours of a node of a line

module _ (key : ℕ → ℕ) (g : ℕ → ℕ → Type 0) (line : IsLine key g) (n : ℕ) (xs : List ℕ) (rising : IsRising xs)
    (each : (i : ℕ) → i < length xs → g n (get_or xs i 0) × (key n ≢ key (get_or xs i 0))) where
  side_of : (i : ℕ) → i < length xs → (key n < key (get_or xs i 0)) ⊎ (key (get_or xs i 0) < key n)
  side_of i inside = sides (key n) (key (get_or xs i 0)) (each i inside).1

  not_above : (i j : ℕ) → i < j → j < length xs → key n < key (get_or xs i 0) → key n < key (get_or xs j 0) → ⊥
  not_above i j earlier inside a b =
      let same = line.above n (get_or xs i 0) (get_or xs j 0) a b (each i (omega (arith, earlier, inside))).0 (each j inside).0 in
      omega (arith, same, rising i j 0 earlier inside)

  not_below : (i j : ℕ) → i < j → j < length xs → key (get_or xs i 0) < key n → key (get_or xs j 0) < key n → ⊥
  not_below i j earlier inside a b =
      let same = line.below n (get_or xs i 0) (get_or xs j 0) a b (each i (omega (arith, earlier, inside))).0 (each j inside).0 in
      omega (arith, same, rising i j 0 earlier inside)

  never_three : 2 < length xs → ⊥
  never_three long =
      let one : 0 < 1 = omega arith in
      let two : 0 < 2 = omega arith in
      let last : 1 < 2 = omega arith in
      let short : 1 < length xs = omega (arith, long) in
      elim (side_of 0 (omega (arith, long))) [
        | inl a ↦ elim (side_of 1 short) [
          | inl b ↦ not_above 0 1 one short a b
          | inr b ↦ elim (side_of 2 long) [ inl c ↦ not_above 0 2 two long a c | inr c ↦ not_below 1 2 last long b c ]
        ]
        | inr a ↦ elim (side_of 1 short) [
          | inr b ↦ not_below 0 1 one short a b
          | inl b ↦ elim (side_of 2 long) [ inr c ↦ not_below 0 2 two long a c | inl c ↦ not_above 1 2 last long b c ]
        ]
      ]

  -- they are two at most
  pub few_neighbours : length xs ≤ 2
  few_neighbours = elim (cases_lt 2 (length xs)) [ inl long ↦ absurd (never_three long) | inr short ↦ omega (arith, short) ]
