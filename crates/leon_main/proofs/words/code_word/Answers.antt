-- One more digit, and the number of all digits.
use Rattle.std.proofs.Common.{◌≡◌, ◌<◌, get_or, ap, ◌∙◌, arith, subst, List, ℕ, Some}
use Rattle.std.specs.Char.{digit_value}
use Rattle.run_texts.specs.Text.{hexadecimal}
use Rattle.run_texts.proofs.Numerals.{reads_more}
use Rattle.leon_main.proofs.WordLemmas.{fits_word, reads_all}
use Rattle.leon_main.proofs.words.code_word.Goals as goal

pub overflow_mul-value : goal.overflow_mul-value
overflow_mul-value c = let fits = fits_word c.as_bytes-digit-items.result.now c.loop-digit.digit-index c.loop-digit.value 0 (omega arith) (omega arith) (omega arith) c.loop-digit.invariant in record { fits = omega arith }

pub overflow_add-value : goal.overflow_add-value
overflow_add-value c =
    let told = c.in_ok-digit.ensures.value in
    let below : c.in_ok-digit.digit < 16 = omega (arith, told.0, told.1) in
    let fits = fits_word c.as_bytes-digit-items.result.now c.loop-digit.digit-index c.loop-digit.value c.in_ok-digit.digit (omega arith) (omega arith) below c.loop-digit.invariant in
    record { fits = omega arith }

pub loop-digit-preserved : goal.loop-digit-preserved
loop-digit-preserved c =
    let told = c.in_ok-digit.ensures.value in
    let byte : c.from.result ≡ get_or c.as_bytes-digit-items.result.now c.loop-digit.digit-index 0 = c.from.ensures in
    reads_more 16 c.as_bytes-digit-items.result.now c.loop-digit.digit-index c.loop-digit.value c.in_ok-digit.digit
    c.loop-digit-test.true c.loop-digit.invariant (rw (← byte) told.0) (told.1 ∙ ap digit_value byte)

pub returns : goal.returns
returns c = let word : c.as_bytes-digit-items.result.now ≡ c.args.word.now = c.as_bytes-digit-items.ensures.value in subst (λ (w : List ℕ). Some c.loop-digit.value ≡ hexadecimal w) word (reads_all c.as_bytes-digit-items.result.now c.loop-digit.digit-index c.loop-digit.value (omega arith) c.loop-digit-test.false c.loop-digit.invariant)
