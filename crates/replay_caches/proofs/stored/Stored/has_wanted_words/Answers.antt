use Rattle.std.proofs.Common.{◌≡◌, ◌+◌, ◌%◌, ◌/◌, true, false, sym, ap, ◌∙◌, add-one, arith}
use Rattle.std.specs.List.{list_all, range_with_len}
use Rattle.lf_model.specs.Caches.Slot.{is_valid_word}
use Rattle.replay_caches.proofs.RunLemmas.{all_more, all_failed}
use Rattle.replay_caches.proofs.stored.Stored.has_wanted_words.Goals as goal

pub returns-then-not-is_valid_word : goal.returns-then-not-is_valid_word
returns-then-not-is_valid_word c = λ slot is.
    let lt = c.loop-i-test.true in
    let invalid : is_valid_word slot (c.args.addr / 4 % 8 + c.loop-i.i) ≡ false = sym (c.is_valid_word.ensures slot is) ∙ c.if-not-is_valid_word.true in
    sym (all_failed (is_valid_word slot) (c.args.addr / 4 % 8) ((c.args.len + 3) / 4) c.loop-i.i (omega (arith, lt, c.from.ensures)) invalid)

pub loop-i-preserved : goal.loop-i-preserved
loop-i-preserved c = λ slot is.
    let valid : is_valid_word slot (c.args.addr / 4 % 8 + c.loop-i.i) ≡ true = sym (c.is_valid_word.ensures slot is) ∙ c.if-not-is_valid_word.false in
    ap (λ n. list_all (is_valid_word slot) (range_with_len (c.args.addr / 4 % 8) n)) (add-one c.loop-i.i)
    ∙ all_more (is_valid_word slot) (c.args.addr / 4 % 8) c.loop-i.i (c.loop-i.invariant slot is) valid
