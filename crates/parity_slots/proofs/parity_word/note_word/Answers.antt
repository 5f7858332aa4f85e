use Rattle.std.proofs.Common.{[], ◌∷◌, sym, ap, ◌∙◌, arith}
use Rattle.parity_units.specs.declared.byte.ParityByte.{ParityByte}
use Rattle.parity_slots.proofs.WordLemmas.{byte_of_words, byte_of_word, unmarked, follows_unmarked}
use Rattle.parity_slots.proofs.parity_word.note_word.Goals as goal

pub returns-then-word-ne0-clause-follows : goal.returns-then-word-ne0-clause-follows
returns-then-word-ne0-clause-follows c = λ h are follows.
    (rw c.bytes.ensures at c.note.ensures.follows) h
    (λ i lt. ap (λ (b : ParityByte). b.struck) (byte_of_words 4 (c.args.word ∷ []) i lt) ∙ are i lt) follows

pub returns-else-word-ne0-clause-follows : goal.returns-else-word-ne0-clause-follows
returns-else-word-ne0-clause-follows c = λ h are follows.
    follows_unmarked c.args.first 4 c.args.event h c.args.ledger.now
    (λ i lt. sym (are i lt) ∙ ap (λ (b : ParityByte). b.struck) (byte_of_word c.args.word i lt) ∙ unmarked c.args.word i (omega (arith, c.if-word-ne0.false)))
    c.requires.units follows
