-- The nodes between two of a row pattern, and sums that those of a row pattern alone give to.
use Rattle.std.proofs.Common.{◌≡◌, ℕ, zero, suc, ◌+◌, ◌<◌, ◌≤◌, List, length, get_or, Contains, ap, arith, subst, inl, inr}
use Rattle.std.proofs.lemmas.Bool.{cases_lt, cases_eq}
use Rattle.std.proofs.lemmas.List.{get_or_default}
use Rattle.std.proofs.lemmas.List.Elements.{Contains-get_or}
use Rattle.lists.specs.Rising.{IsRising}

-- m lies behind the first i nodes of a row pattern and not behind the next, and is at most n
pub record IsGap (row_pattern : List ℕ) (n i m : ℕ) : Type 0 where
  pub most : m ≤ n
  pub before : (k : ℕ) → k < i → k < length row_pattern → get_or row_pattern k 0 < m
  pub after : (k : ℕ) → i ≤ k → k < length row_pattern → m ≤ get_or row_pattern k 0

-- a row pattern is in order, below n
pub record AreBelow (row_pattern : List ℕ) (n : ℕ) : Type 0 where
  pub rising : IsRising row_pattern
  pub below : (d : ℕ) → Contains row_pattern d → d < n

pub none_first : (row_pattern : List ℕ) (n m d : ℕ) → IsGap row_pattern n 0 m → d < m → Contains row_pattern d → ⊥
none_first row_pattern n m d gap lt (k, in', is) =
    let after = gap.after k (omega arith) in' in
    omega (arith, after, get_or_default row_pattern k 0 d in', is)

pub none_between : (row_pattern : List ℕ) (n i m d : ℕ) → AreBelow row_pattern n → i < length row_pattern → IsGap row_pattern n (i + 1) m → get_or row_pattern i 0 < d → d < m → Contains row_pattern d → ⊥
none_between row_pattern n i m d ok in' gap above lt (k, kl, is) =
    let at = get_or_default row_pattern k 0 d kl in
    elim (cases_lt k i) [
      | inl early ↦ (let up = ok.rising k i 0 early in' in omega (arith, at, is, up))
      | inr late ↦
          elim (cases_eq k i) [
            | inl e ↦ (let same = ap (λ (x : ℕ). get_or row_pattern x 0) e in omega (arith, at, is, same))
            | inr apart ↦ (let after = gap.after k (omega arith) kl in omega (arith, at, is, after))
          ]
    ]

pub gap_at : (row_pattern : List ℕ) (n i : ℕ) → AreBelow row_pattern n → i < length row_pattern → IsGap row_pattern n i (get_or row_pattern i 0)
gap_at row_pattern n i ok in' =
    record {
      most = (let b = ok.below (get_or row_pattern i 0) (Contains-get_or row_pattern i 0 in') in omega arith);
      before = λ k lt kl. ok.rising k i 0 lt in';
      after = λ k le kl.
          elim (cases_eq i k) [
            | inl e ↦ (let same = ap (λ (x : ℕ). get_or row_pattern x 0) e in omega (arith, same))
            | inr apart ↦ (let up = ok.rising i k 0 (omega arith) kl in omega arith)
          ];
    }

pub gap_past : (row_pattern : List ℕ) (n i m : ℕ) → i < length row_pattern → IsGap row_pattern n (i + 1) m → get_or row_pattern i 0 < m
gap_past row_pattern n i m in' gap = gap.before i (omega arith) in'

pub gap_end : (row_pattern : List ℕ) (n : ℕ) → AreBelow row_pattern n → IsGap row_pattern n (length row_pattern) n
gap_end row_pattern n ok =
    record {
      most = omega arith;
      before = λ k lt kl. ok.below (get_or row_pattern k 0) (Contains-get_or row_pattern k 0 kl);
      after = λ k le kl. absurd (omega arith);
    }

-- a fact that holds at b and passes over each number up to m
pub carried : (P : ℕ → Type 0) (b m : ℕ) → b ≤ m → ((d : ℕ) → b ≤ d → d < m → P d → P (suc d)) → P b → P m
carried P b zero le step start = (let e : b ≡ zero = omega arith in subst P e start)
carried P b (suc m) le step start =
    elim (cases_eq b (suc m)) [
      | inl e ↦ subst P e start
      | inr apart ↦ step m (omega arith) (omega arith) (carried P b m (omega arith) (λ d bd dm h. step d bd (omega arith) h) start)
    ]
