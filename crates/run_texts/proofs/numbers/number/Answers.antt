-- One more digit, and the number of all digits.
use Rattle.std.proofs.Common.{◌≡◌, ◌<◌, take, get_or, sym, ap, ◌∙◌, arith}
use Rattle.std.specs.Char.{digit_value}
use Rattle.std.proofs.lemmas.List.{take_all}
use Rattle.run_texts.proofs.Numerals.{reads_more, reads_fits, reads_small, numeral-reads}
use Rattle.run_texts.proofs.numbers.number.Goals as goal

pub overflow_mul-value : goal.overflow_mul-value
overflow_mul-value c =
    let req = c.requires in
    let fits = reads_fits c.args.radix c.args.digits.now c.loop-digit.digit-index c.loop-digit.value 0 req.least req.most req.short (omega arith) c.loop-digit.invariant in
    let radix : c.from-in-loop-digit.result ≡ c.args.radix = c.from-in-loop-digit.ensures in
    record { fits = rw radix (omega arith) }

pub overflow_add-value : goal.overflow_add-value
overflow_add-value c =
    let req = c.requires in
    let told = c.in_ok-digit.ensures.value in
    let below : c.in_ok-digit.digit < c.args.radix = omega (arith, told.0, told.1) in
    let fits = reads_fits c.args.radix c.args.digits.now c.loop-digit.digit-index c.loop-digit.value c.in_ok-digit.digit req.least req.most req.short below c.loop-digit.invariant in
    let radix : c.from-in-loop-digit.result ≡ c.args.radix = c.from-in-loop-digit.ensures in
    let digit : c.from-in-loop-digit-2.result ≡ c.in_ok-digit.digit = c.from-in-loop-digit-2.ensures in
    record { fits = rw (radix, digit) (omega arith) }

pub loop-digit-preserved : goal.loop-digit-preserved
loop-digit-preserved c =
    let told = c.in_ok-digit.ensures.value in
    let byte : c.from.result ≡ get_or c.args.digits.now c.loop-digit.digit-index 0 = c.from.ensures in
    let radix : c.from-in-loop-digit.result ≡ c.args.radix = c.from-in-loop-digit.ensures in
    rw radix (reads_more c.args.radix c.args.digits.now c.loop-digit.digit-index c.loop-digit.value c.from-in-loop-digit-2.result
    c.loop-digit-test.true c.loop-digit.invariant (rw (← byte) told.0) (c.from-in-loop-digit-2.ensures ∙ told.1 ∙ ap digit_value byte))

pub returns-clause-value : goal.returns-clause-value
returns-clause-value c =
    let all : take c.loop-digit.digit-index c.args.digits.now ≡ c.args.digits.now = take_all c.loop-digit.digit-index c.args.digits.now c.loop-digit-test.false in
    sym (numeral-reads c.args.radix c.args.digits.now c.loop-digit.value (rw all at c.loop-digit.invariant))

pub returns-clause-small : goal.returns-clause-small
returns-clause-small c =
    let all : take c.loop-digit.digit-index c.args.digits.now ≡ c.args.digits.now = take_all c.loop-digit.digit-index c.args.digits.now c.loop-digit-test.false in
    reads_small c.args.radix c.args.digits.now c.loop-digit.value (rw all at c.loop-digit.invariant)
