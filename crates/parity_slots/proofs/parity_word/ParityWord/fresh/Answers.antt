use Rattle.std.proofs.Common.{ℕ, List, slice_index, ap, ◌∙◌, arith}
use Rattle.parity_code.specs.Parity.{parity}
use Rattle.parity_slots.proofs.WordLemmas.{fresh_bytes}
use Rattle.parity_slots.proofs.parity_word.ParityWord.fresh.Goals as goal

pub returns-clause-bytes : goal.returns-clause-bytes
returns-clause-bytes c =
    let byte = λ (k : ℕ). ap (λ (bytes : List ℕ). parity (slice_index bytes k)) c.to_be_bytes.ensures in
    fresh_bytes c.args.v c.from.result c.from-2.result c.from-3.result c.from-4.result
    (c.from.ensures ∙ c.odd8.ensures.parity ∙ byte 0) (c.from-2.ensures ∙ c.odd8-2.ensures.parity ∙ byte 1)
    (c.from-3.ensures ∙ c.odd8-3.ensures.parity ∙ byte 2) (c.from-4.ensures ∙ c.odd8-4.ensures.parity ∙ byte 3 ∙ ap parity (omega arith))
