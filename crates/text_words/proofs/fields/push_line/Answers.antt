use Rattle.std.proofs.Common.{refl}
use Rattle.text_words.proofs.LineLemmas.{next_word, first_word}
use Rattle.text_words.proofs.fields.push_line.Goals as goal
use Rattle.text_words.proofs.fields.push_line.Goals.{then-i-gt0+in_ok-push, else-i-gt0}

pub loop-i-preserved : goal.loop-i-preserved
loop-i-preserved c =
    let word = c.in_ok-extend_from_slice.ensures.items in
    elim c.if-i-gt0.branch [
      | then-i-gt0+in_ok-push w ↦
          next_word c.args.out.now.items c.loop-i.out.items c.if-i-gt0.out.items c.extend_from_slice.new.self.items c.args.words.now c.loop-i.i _ w.if-i-gt0.true c.loop-i-test.true c.loop-i.invariant (rw w.out-is w.in_ok-push.ensures.items) word
      | else-i-gt0 w ↦
          first_word c.args.out.now.items c.loop-i.out.items c.if-i-gt0.out.items c.extend_from_slice.new.self.items c.args.words.now c.loop-i.i _ w.if-i-gt0.false c.loop-i-test.true c.loop-i.invariant (rw w.out-is refl) word
    ]
