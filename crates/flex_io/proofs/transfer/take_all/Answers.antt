use Rattle.std.proofs.Common.{◌≡◌, ◌+◌, ℕ, List, [], Option, None, Some, IfSome, ◌++◌, append-nil, arith, sym, ap, subst, ◌∙◌, take, drop, length, take_at, take_all, length-take}
use Rattle.std.proofs.Math.Seq.{take-add}
use Rattle.std.specs.Io.KnownBytes.{Consumes, IsAtEnd}
use Rattle.std.proofs.KnownBytes.{Consumes-trans, Consumes-kept, Consumes-whole}
use Rattle.flex_io.specs.Source.{EndsAtZero}
use Rattle.flex_io.proofs.transfer.take_all.Goals as goal
use Rattle.flex_io.proofs.transfer.take_all.Goals.{else-loop-filled-test, then-loop-filled-test+in_ok-make_room+in-Ok-eq0}

-- the bytes that were filled before a read and those that it filled are taken, one after the other
Consumes-filled : (a b c : Option (List ℕ)) (before after : List ℕ) (filled n : ℕ) → take filled after ≡ take filled before
    → Consumes a b (take filled before) → Consumes b c (take n (drop filled after)) → Consumes a c (take (filled + n) after)
Consumes-filled a b c before after filled n same first second =
    subst (Consumes a c) (ap (λ xs. xs ++ take n (drop filled after)) (sym same) ∙ sym (take-add filled n after)) (Consumes-trans a b c _ _ first second)

pub loop-filled-preserved : goal.loop-filled-preserved
loop-filled-preserved g c =
    let read = c.in-Ok.ensures in
    let room = c.in_ok-make_room.ensures in
    let len : length c.read_at.new.buf ≡ c.make_room.new.bytes.len = c.read_at.auto.buf ∙ c.deref_mut.ensures.len in
    let whole = take_at c.read_at.new.buf (drop (length c.read_at.new.buf) c.make_room.new.bytes.items) c.make_room.new.bytes.len len in
    let same : take c.loop-filled.filled c.read_at.new.buf ≡ take c.loop-filled.filled c.loop-filled.bytes.items = read.front ∙ ap (take c.loop-filled.filled) c.deref_mut.ensures.value ∙ room.front in
    record {
      filled = omega (arith, read.fits, len);
      most = omega (arith, room.fits);
      taken = rw whole (Consumes-filled _ _ _ c.loop-filled.bytes.items c.read_at.new.buf c.loop-filled.filled c.in-Ok.n same c.loop-filled.invariant.taken read.taken);
      steady = omega arith;
    }

-- a read leaves the bytes that stand before its room
front_kept : (filled len : ℕ) (before room after : List ℕ) → length after ≡ len → take filled after ≡ take filled room → take filled room ≡ take filled before
    → take filled (take len (after ++ drop (length after) room)) ≡ take filled before
front_kept filled len before room after long read grown = ap (take filled) (take_at after (drop (length after) room) len long) ∙ read ∙ grown

-- a read of no byte is at the end of input
IsAtEnd-zero : (left : Option (List ℕ)) (n : ℕ) → n ≡ 0 → EndsAtZero left n → IsAtEnd left
IsAtEnd-zero None n none ends = tt
IsAtEnd-zero (Some bytes) n none ends = ends.0 none

-- as many bytes as the limit lets through are the first of what there was
limit_taken : (a b : Option (List ℕ)) (bytes : List ℕ) (most : ℕ) → Consumes a b bytes → length bytes ≡ most → IfSome a (λ left. bytes ≡ take most left)
limit_taken None b bytes most taken full = tt
limit_taken (Some xs) None bytes most taken full = absurd taken
limit_taken (Some xs) (Some ys) bytes most taken full = sym (ap (take most) taken ∙ take_at bytes ys most full)

-- what is handed out is what was filled before the last turn
filled_out : (g : _) (c : goal.After-truncate g) → c.truncate.new.self.items ≡ take c.loop-filled.filled c.loop-filled.bytes.items
filled_out g c = elim c.loop-filled-test.branch [
  | else-loop-filled-test w ↦ c.truncate.ensures.items ∙ ap (λ v. take c.loop-filled.filled v.items) w.bytes-is
  | then-loop-filled-test+in_ok-make_room+in-Ok-eq0 w ↦
      let filled = c.loop-filled.filled in
      let len : length w.read_at.new.buf ≡ w.make_room.new.bytes.len = w.read_at.auto.buf ∙ w.deref_mut.ensures.len in
      let front : take filled w.read_at.new.buf ≡ take filled w.make_room.new.bytes.items = w.in-Ok-eq0.ensures.front ∙ ap (take filled) w.deref_mut.ensures.value in
      c.truncate.ensures.items ∙ ap (λ v. take filled v.items) w.bytes-is ∙ front_kept filled _ c.loop-filled.bytes.items w.make_room.new.bytes.items w.read_at.new.buf len front w.in_ok-make_room.ensures.front
]

pub returns-clause-taken : goal.returns-clause-taken
returns-clause-taken g c =
    let bytes = take c.loop-filled.filled c.loop-filled.bytes.items in
    let left = g.S.Source.left in
    let taken : Consumes (left c.args.s.now) (left c.loop-filled-test.s) bytes = elim c.loop-filled-test.branch [
      | else-loop-filled-test w ↦ subst (λ s. Consumes (left c.args.s.now) (left s) bytes) (sym w.s-is) c.loop-filled.invariant.taken
      | then-loop-filled-test+in_ok-make_room+in-Ok-eq0 w ↦
          let none : Consumes (left c.loop-filled.s) (left w.read_at.new.s) [] = subst (λ n. Consumes (left c.loop-filled.s) (left w.read_at.new.s) (take n (drop c.loop-filled.filled w.read_at.new.buf))) w.in-Ok-eq0.field-0-test w.in-Ok-eq0.ensures.taken in
          subst (λ s. Consumes (left c.args.s.now) (left s) bytes) (sym w.s-is) (subst (Consumes (left c.args.s.now) (left w.read_at.new.s)) (append-nil bytes) (Consumes-trans _ _ _ bytes [] c.loop-filled.invariant.taken none))
    ] in
    subst (Consumes (left c.args.s.now) (left c.loop-filled-test.s)) (sym (filled_out g c)) taken

pub returns-clause-whole : goal.returns-clause-whole
returns-clause-whole g c =
    let before = c.loop-filled.invariant in
    let filled = c.loop-filled.filled in
    let bytes = take filled c.loop-filled.bytes.items in
    let most = c.args.limit + 1 in
    let left = g.S.Source.left in
    let long : length bytes ≡ filled = omega (arith, length-take filled c.loop-filled.bytes.items, before.filled, c.loop-filled.bytes.ok.0) in
    let whole : IfSome (left c.args.s.now) (λ all. bytes ≡ take most all) = elim c.loop-filled-test.branch [
      | else-loop-filled-test w ↦ limit_taken _ (left c.loop-filled.s) bytes most before.taken (omega (arith, long, before.filled, before.most, w.loop-filled-test.false))
      | then-loop-filled-test+in_ok-make_room+in-Ok-eq0 w ↦
          Consumes-whole _ (left c.loop-filled.s) bytes (λ all. bytes ≡ take most all) before.taken
          (IsAtEnd-zero _ w.in-Ok-eq0.field-0 w.in-Ok-eq0.field-0-test w.in-Ok-eq0.ensures.end)
          (sym (take_all most bytes (omega (arith, long, before.filled, before.most))))
    ] in
    subst (λ xs. IfSome (left c.args.s.now) (λ all. xs ≡ take most all)) (sym (filled_out g c)) whole

pub returns-in-Err-clause-lost : goal.returns-in-Err-clause-lost
returns-in-Err-clause-lost g c =
    let before = c.loop-filled.invariant in
    let bytes = take c.loop-filled.filled c.loop-filled.bytes.items in
    (bytes, Consumes-kept _ (g.S.Source.left c.loop-filled.s) _ bytes before.taken c.in-Err.ensures.kept, omega (arith, length-take c.loop-filled.filled c.loop-filled.bytes.items, before.filled, before.most))
