use Rattle.std.proofs.Common.{◌≡◌, true, false, true≢false, ◌==◌, [], ◌∷◌, append-nil, subst, ◌+◌, ◌-◌, ◌≤◌, ℕ, List, Option, None, Some, ◌++◌, arith, refl, sym, ap, ◌∙◌, take, drop, length, append_assoc, take-append-drop, length-append, length-take-le}
use Rattle.std.proofs.Math.Dec.{eqb-suc-zero}
use Rattle.std.proofs.lemmas.List.{take_rest}
use Rattle.std.specs.Io.KnownBytes.{Appends}
use Rattle.std.proofs.KnownBytes.{Appends-trans}
use Rattle.flex_io.specs.Sink.{HasRoom, room_after}
use Rattle.flex_io.proofs.transfer.put_all.Goals as goal

room_after-room_after : (room : Option ℕ) (m n : ℕ) → room_after (room_after room m) n ≡ room_after room (m + n)
room_after-room_after None m n = refl
room_after-room_after (Some free) m n = let e : (free - m) - n ≡ free - (m + n) = omega arith in ap Some e

-- what has room for all has room for the rest once the part before it is written
HasRoom-rest : (before after : Option ℕ) (all part rest : List ℕ) → all ≡ part ++ rest → after ≡ room_after before (length part)
    → HasRoom before (length all) → HasRoom after (length rest)
HasRoom-rest before after all part rest split used (free, told, fits) =
    (free - length part, used ∙ ap (λ room. room_after room (length part)) told, omega (arith, fits, ap length split, length-append part rest))

-- one write more
written_more : (a b c : Option (List ℕ)) (before between after : Option ℕ) (all part rest : List ℕ) (n : ℕ) → n ≤ length rest
    → Appends a b part → all ≡ part ++ rest → between ≡ room_after before (length part)
    → Appends b c (take n rest) → after ≡ room_after between n
    → (now : List ℕ) × Appends a c now × (all ≡ now ++ drop n rest) × (after ≡ room_after before (length now))
written_more a b c before between after all part rest n fits first split used second left =
    let long : length (part ++ take n rest) ≡ length part + n = length-append part (take n rest) ∙ ap (λ k. length part + k) (length-take-le n rest fits) in (
      part ++ take n rest,
      Appends-trans a b c part (take n rest) first second,
      split ∙ ap (λ xs. part ++ xs) (sym (take-append-drop n rest)) ∙ sym (append_assoc part (take n rest) (drop n rest)),
      left ∙ ap (λ room. room_after room n) used ∙ room_after-room_after before (length part) n ∙ ap (room_after before) (sym long),
    )

-- nothing is left to write
all_written : (all part rest : List ℕ) → true ≡ (length rest == 0) → all ≡ part ++ rest → all ≡ part
all_written all part [] done split = split ∙ append-nil part
all_written all part (x ∷ rest) done split = absurd (true≢false (done ∙ eqb-suc-zero (length rest)))

-- what failed isn't well
failed_ok : false ≡ true → ⊥
failed_ok e = true≢false (sym e)

pub loop-rest-preserved : goal.loop-rest-preserved
loop-rest-preserved g c =
    let before = c.loop-rest.invariant in
    let write = c.in_ok-n.ensures in
    let rest = c.loop-rest.rest.now in
    let n = c.in_ok-n.n in
    let more = written_more _ _ _ _ _ _ _ before.written.0 rest n write.bound before.written.1 before.written.2 before.written.3 write.added write.room_left in
    record {
      written = (more.0, more.1, more.2 ∙ ap (λ xs. more.0 ++ xs) (sym (take_rest rest n)), more.3);
      steady = write.steady ∙ before.steady;
      untouched = λ none. absurd (omega (arith, write.some, write.bound, ap length (sym before.written.2 ∙ none), length-append before.written.0 rest));
    }

pub returns-clause-ok : goal.returns-clause-ok
returns-clause-ok g c =
    let before = c.loop-rest.invariant.written in
    subst (Appends (g.K.Sink.held c.args.k.now) (g.K.Sink.held c.loop-rest.k)) (sym (all_written _ before.0 c.loop-rest.rest.now c.loop-rest-test.ensures before.2)) before.1

pub returns-clause-room_left : goal.returns-clause-room_left
returns-clause-room_left g c =
    let before = c.loop-rest.invariant.written in
    before.3 ∙ ap (λ xs. room_after (g.K.Sink.room c.args.k.now) (length xs)) (sym (all_written _ before.0 c.loop-rest.rest.now c.loop-rest-test.ensures before.2))

pub returns-in_err-n-clause-fits : goal.returns-in_err-n-clause-fits
returns-in_err-n-clause-fits g c = λ room.
    let before = c.loop-rest.invariant.written in
    absurd (failed_ok (c.in_err-n.ensures.fits (HasRoom-rest _ _ _ before.0 c.loop-rest.rest.now before.2 before.3 room)))
