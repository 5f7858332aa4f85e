use Rattle.std.proofs.Common.{◌≡◌, ℕ, ◌+◌, ◌*◌, ◌/◌, List, [], length, ap, ◌∙◌}
use Rattle.std.specs.Prelude.{replicate}
use Rattle.std.proofs.lemmas.List.FromFn.{length-map-range_with_len}
use Rattle.coded_words.specs.Words.{Words}
use Rattle.lf_model.specs.Start.{ram_first, word_at}
use Rattle.ram_words.specs.Ram.{first_words}
use Rattle.ft_memory.proofs.memory.Memory.new.Goals as goal

pub returns : goal.returns
returns c =
    let made : List ℕ → ℕ → Words = λ values n. record { values = values; histories = replicate n []; past = []; flips = c.args.flips } in
    let words = first_words c.args.ram c.args.image.now in
    let values : c.deref.result.now ≡ words = c.deref.ensures.value ∙ c.in_ok-values.ensures in
    c.in_ok-new.ensures
    ∙ ap (λ (vs : List ℕ). made vs (length vs)) values
    ∙ ap (made words) (length-map-range_with_len (λ place. word_at c.args.image.now (ram_first + 4 * place)) 0 (c.args.ram / 4))
