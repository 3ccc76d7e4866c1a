-- A front's columns in their lists.
use Rattle.std.proofs.Common.{◌≡◌, ℕ, ◌+◌, ◌-◌, ◌<◌, ◌≤◌, List, [], length, get_or, set, ◌∙◌, ap, sym, subst, arith, inl, inr, ℤ}
use Rattle.std.proofs.lemmas.Bool.{cases_eq}
use Rattle.std.proofs.lemmas.List.{length-set, get_or-set_same, get_or-set_other}
use Rattle.std.proofs.lemmas.List.FromFn.{fill_by_all}
use Rattle.int_laws.specs.Matrices.{Entries}
use Rattle.lists.specs.Lists.{list_of}
use Rattle.lists.specs.Listed.{listed}
use Rattle.cholesky_laws.specs.Fronts.{lower}

-- the columns before one are those of a lower triangle, and the others are as long
pub record AreFilled (rows column : ℕ) (f : Entries) (lists : List (List ℤ)) : Type 0 where
  pub count : length lists ≡ 6
  pub filled : (c : ℕ) → c < column → list_of lists c ≡ listed (rows - c) (λ k. f (c + k) c)
  pub rest : (c : ℕ) → column ≤ c → c < 6 → length (list_of lists c) ≡ rows - c

pub filled-more : (rows column : ℕ) (f : Entries) (lists : List (List ℤ)) (list : List ℤ) → column < 6 → AreFilled rows column f lists → list ≡ listed (rows - column) (λ k. f (column + k) column) → AreFilled rows (column + 1) f (set lists column list)
filled-more rows column f lists list lt done is =
    record {
      count = length-set lists column list ∙ done.count;
      filled = λ c cl.
          elim (cases_eq c column) [
            | inl e ↦
                (let P : ℕ → Type 0 = λ x. list_of (set lists column list) x ≡ listed (rows - x) (λ k. f (x + k) x) in
                subst P (sym e) (get_or-set_same lists column list [] (omega (arith, done.count, lt)) ∙ is))
            | inr apart ↦ get_or-set_other lists column c list [] apart ∙ done.filled c (omega (arith, cl, apart))
          ];
      rest = λ c le cl. ap (λ (xs : List ℤ). length xs) (get_or-set_other lists column c list [] (λ e. omega (arith, e, le))) ∙ done.rest c (omega (arith, le)) cl;
    }

pub filled-all : (rows : ℕ) (f : Entries) (lists : List (List ℤ)) → AreFilled rows 6 f lists → lists ≡ lower 6 rows f
filled-all rows f lists done = fill_by_all (λ c. listed (rows - c) (λ k. f (c + k) c)) lists 6 [] done.count done.filled
