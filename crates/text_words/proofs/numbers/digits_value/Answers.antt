use Rattle.std.proofs.Common.{◌≡◌, ◌+◌, ◌<◌, ◌^◌, ap, ◌∙◌, arith, take_all}
use Rattle.std.proofs.lemmas.Int.{ints}
use Rattle.std.specs.Str.Parse.{digits_value}
use Rattle.text_words.proofs.NumberLemmas.{front_small, front_more}
use Rattle.text_words.proofs.numbers.digits_value.Goals as goal

pub overflow_mul-value : goal.overflow_mul-value
overflow_mul-value c = omega (arith, front_small c.args.digits.now c.loop-digit.digit-index c.requires.each c.requires.short)

pub overflow_add-value : goal.overflow_add-value
overflow_add-value c =
    omega (arith, front_small c.args.digits.now (c.loop-digit.digit-index + 1) c.requires.each c.requires.short, front_more c.args.digits.now c.loop-digit.digit-index c.requires.each c.loop-digit-test.true)

pub loop-digit-preserved : goal.loop-digit-preserved
loop-digit-preserved c =
    omega (arith, front_more c.args.digits.now c.loop-digit.digit-index c.requires.each c.loop-digit-test.true)

pub overflow_cast-result : goal.overflow_cast-result
overflow_cast-result c =
    omega (arith, ints, front_small c.args.digits.now c.loop-digit.digit-index c.requires.each c.requires.short)

pub returns : goal.returns
returns c =
    let value : c.loop-digit.value ≡ digits_value 10 c.args.digits.now = c.loop-digit.invariant ∙ ap (digits_value 10) (take_all c.loop-digit.digit-index c.args.digits.now (omega arith)) in
    let small : c.loop-digit.value < 10 ^ 18 = omega (arith, front_small c.args.digits.now c.loop-digit.digit-index c.requires.each c.requires.short) in
    record {
      value = omega (arith, ints);
      small = omega arith;
    }
