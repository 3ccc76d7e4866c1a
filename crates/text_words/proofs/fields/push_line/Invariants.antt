use Rattle.std.proofs.Common.{◌≡◌, ◌++◌, map, take}
use Rattle.std.specs.List.{join_with_byte}
use Rattle.text_words.proofs.fields.push_line.Given as goal

-- the words so far, with single spaces between them
abbrev pub invariant-loop-i : goal.invariant-loop-i
invariant-loop-i l = l.out.items ≡ l.fn.out.items ++ join_with_byte 32 (map (λ word. word.now) (take l.i l.words))
