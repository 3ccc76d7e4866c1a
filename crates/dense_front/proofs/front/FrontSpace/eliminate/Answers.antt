use Rattle.std.proofs.Common.{◌≡◌, ℕ, suc, ◌+◌, ◌-◌, ◌*◌, ◌^◌, ◌<◌, ◌≤◌, List, length, Option, Some, None, ◌∙◌, ap, sym, refl, subst, arith, ℤ, pos, ◌<ℤ◌}
use Rattle.std.specs.Int.RustNames.{unsigned_abs}
use Rattle.std.specs.Vec.{with_items}
use Rattle.std.proofs.lemmas.List.{with_items_is}
use Rattle.cholesky_laws.specs.Recurrence.{cholesky, left_after}
use Rattle.cholesky_laws.specs.Factor.{low, too_wide}
use Rattle.cholesky_laws.specs.Fronts.{Space, lower, lower_entry, space_breakdown, eliminated, IsComplete}
use Rattle.dense_front.specs.Square.{at_square, triangle_of, by_rows}
use Rattle.dense_front.specs.Child.{update_of}
use Rattle.dense_front.specs.Own.{breakdown_in_front}
use Rattle.dense_front.specs.declared.own.OwnBreakdown.{OwnBreakdown}
use Rattle.dense_front.specs.Space.{space_of}
use Rattle.dense_front.proofs.SpaceLemmas.{small-complete, diagonal-complete}
use Rattle.dense_front.proofs.ValueLemmas.{answers-breakdown, answers-parts, eliminated-parts}
use Rattle.dense_front.proofs.front.FrontSpace.eliminate.Goals as goal

pub eliminate_square-requires-clause-small : goal.eliminate_square-requires-clause-small
eliminate_square-requires-clause-small c =
    let (base, complete) = c.requires in
    let s = c.self.inside in
    let count : c.len.result ≡ length s.later.items = omega (arith, c.len.ensures, s.later.ok.0) in
    let small = small-complete c.fronts_follow_the_recurrence.ensures base s.front s.nodes.items s.later.items s.square.items (subst (λ (x : Space). IsComplete base x) (sym c.self.view_is) complete) in
    let P : ℕ → List ℤ → Type 0 = λ n square. (r c : ℕ) → c ≤ r → r < 6 * n + 6 → unsigned_abs (at_square (6 * n + 6) square r c) < 2 ^ 126 - 2 ^ 114 in
    subst (λ (n : ℕ). P n c.deref_mut.result.now) (sym count) (subst (P (length s.later.items)) (sym c.deref_mut.ensures.value) small)

pub eliminate_square-requires-clause-diagonal : goal.eliminate_square-requires-clause-diagonal
eliminate_square-requires-clause-diagonal c =
    let (base, complete) = c.requires in
    let s = c.self.inside in
    let count : c.len.result ≡ length s.later.items = omega (arith, c.len.ensures, s.later.ok.0) in
    let small = diagonal-complete c.fronts_follow_the_recurrence.ensures base s.front s.nodes.items s.later.items s.square.items (subst (λ (x : Space). IsComplete base x) (sym c.self.view_is) complete) in
    let P : ℕ → List ℤ → Type 0 = λ n square. (c : ℕ) → c < 6 → at_square (6 * n + 6) square c c <ℤ pos (2 ^ 113) in
    subst (λ (n : ℕ). P n c.deref_mut.result.now) (sym count) (subst (P (length s.later.items)) (sym c.deref_mut.ensures.value) small)

pub returns-in-Some-Pivot-clause-exact : goal.returns-in-Some-Pivot-clause-exact
returns-in-Some-Pivot-clause-exact c =
    let s = c.self.inside in
    let count : c.len.result ≡ length s.later.items = omega (arith, c.len.ensures, s.later.ok.0) in
    let P : ℕ → List ℤ → Type 0 = λ n square. Some (low s.front c.in-Some-Pivot.dof) ≡ space_breakdown s.front (lower_entry (triangle_of (6 * n + 6) square)) (suc n) in
    let breaks = subst (P (length s.later.items)) c.deref_mut.ensures.value (subst (λ (n : ℕ). P n c.deref_mut.result.now) count (ap (λ (b : OwnBreakdown). Some (breakdown_in_front s.front b)) (sym c.in-Some-Pivot.field-0-is) ∙ c.in-Some-Pivot.ensures.breakdown s.front)) in
    answers-breakdown (space_of s.front s.nodes.items s.later.items s.square.items) (low s.front c.in-Some-Pivot.dof) (sym breaks) ∙ ap (λ (x : Space). eliminated x) c.self.view_is

pub returns-in-Some-Pivot-clause-value : goal.returns-in-Some-Pivot-clause-value
returns-in-Some-Pivot-clause-value c base complete = returns-in-Some-Pivot-clause-exact c ∙ c.fronts_follow_the_recurrence.ensures.assembly.value base c.args.self complete

pub returns-in-Some-Wide-clause-exact : goal.returns-in-Some-Wide-clause-exact
returns-in-Some-Wide-clause-exact c =
    let s = c.self.inside in
    let count : c.len.result ≡ length s.later.items = omega (arith, c.len.ensures, s.later.ok.0) in
    let P : ℕ → List ℤ → Type 0 = λ n square. Some (too_wide s.front) ≡ space_breakdown s.front (lower_entry (triangle_of (6 * n + 6) square)) (suc n) in
    let breaks = subst (P (length s.later.items)) c.deref_mut.ensures.value (subst (λ (n : ℕ). P n c.deref_mut.result.now) count (ap (λ (b : OwnBreakdown). Some (breakdown_in_front s.front b)) (sym c.in-Some-Wide.field-0-is) ∙ c.in-Some-Wide.ensures.breakdown s.front)) in
    answers-breakdown (space_of s.front s.nodes.items s.later.items s.square.items) (too_wide s.front) (sym breaks) ∙ ap (λ (x : Space). eliminated x) c.self.view_is

pub returns-in-Some-Wide-clause-value : goal.returns-in-Some-Wide-clause-value
returns-in-Some-Wide-clause-value c base complete = returns-in-Some-Wide-clause-exact c ∙ c.fronts_follow_the_recurrence.ensures.assembly.value base c.args.self complete

pub returns-clause-exact : goal.returns-clause-exact
returns-clause-exact c =
    let s = c.self.inside in
    let count : c.len.result ≡ length s.later.items = omega (arith, c.len.ensures, s.later.ok.0) in
    let laws = c.fronts_follow_the_recurrence.ensures.triangles in
    let new = c.eliminate_square.new.square in
    let entries = c.eliminate_square.new.entries in
    let after : (with_items s.square new).items ≡ new = with_items_is s.square new (omega (arith, c.eliminate_square.auto.square, c.deref_mut.ensures.len, s.square.ok.0)) in
    let entries_after : (with_items s.entries entries).items ≡ entries = with_items_is s.entries entries (omega (arith, c.eliminate_square.auto.entries, c.deref_mut-2.ensures.len, s.entries.ok.0)) in
    let B : ℕ → List ℤ → Type 0 = λ n square. None ≡ space_breakdown s.front (lower_entry (triangle_of (6 * n + 6) square)) (suc n) in
    let breaks = subst (B (length s.later.items)) c.deref_mut.ensures.value (subst (λ (n : ℕ). B n c.deref_mut.result.now) count (c.in-None.ensures.breakdown s.front)) in
    let O : ℕ → List ℤ → Type 0 = λ n square. (r c : ℕ) → c < 6 → r < 6 * n + 6 → by_rows entries r c ≡ cholesky (lower_entry (triangle_of (6 * n + 6) square)) r c in
    let own = subst (O (length s.later.items)) c.deref_mut.ensures.value (subst (λ (n : ℕ). O n c.deref_mut.result.now) count (c.in-None.ensures.columns refl)) in
    let L : ℕ → List ℤ → Type 0 = λ n square. (r c : ℕ) → 6 ≤ c → c ≤ r → r < 6 * n + 6 → at_square (6 * n + 6) new r c ≡ left_after (lower_entry (triangle_of (6 * n + 6) square)) 6 r c in
    let left = subst (L (length s.later.items)) c.deref_mut.ensures.value (subst (λ (n : ℕ). L n c.deref_mut.result.now) count (c.in-None.ensures.left refl)) in
    let count_again : c.len-in-None.result ≡ length s.later.items = omega (arith, c.len-in-None.ensures, s.later.ok.0) in
    let columns_are = c.of_entries.ensures ∙ ap (λ (xs : List ℤ). lower 6 (6 * c.len-in-None.result + 6) (by_rows xs)) (c.deref.ensures.value ∙ entries_after) ∙ ap (λ (n : ℕ). lower 6 (6 * n + 6) (by_rows entries)) count_again in
    let update_is = c.of_parts.ensures ∙ ap (λ (xs : List ℤ). update_of s.later.items xs) after in
    let here = eliminated-parts laws s.front s.nodes.items s.later.items s.square.items new entries own left c.of_entries.result c.of_parts.result columns_are update_is in
    answers-parts (space_of s.front s.nodes.items s.later.items s.square.items) _ (sym breaks) here ∙ ap (λ (x : Space). eliminated x) c.self.view_is

pub returns-clause-value : goal.returns-clause-value
returns-clause-value c base complete = returns-clause-exact c ∙ c.fronts_follow_the_recurrence.ensures.assembly.value base c.args.self complete
