use Rattle.std.proofs.Common.{false, sym, ap, ◌∙◌}
use Rattle.std.specs.Prelude.{find}
use Rattle.std.specs.Option.{option_map_or}
use Rattle.lf_model.specs.Start.{is_text_word}
use Rattle.text_map.specs.Spans.{ends_after, has_word}
use Rattle.text_map.proofs.SpanLemmas.{is_word}
use Rattle.text_map.proofs.map.TextMap.is_text_word.Goals as goal

pub returns-in-Some : goal.returns-in-Some
returns-in-Some c =
    let from = c.from-addr.result in
    let spans = c.self.inside.spans.items in
    let text = c.self.inside.text.value in
    let found = sym (ap (find (ends_after from)) c.deref.ensures.value) ∙ sym c.span_behind.ensures ∙ c.in-Some.is in
    c.has_word.ensures
    ∙ sym (ap (λ o. option_map_or (has_word from) o false) found)
    ∙ sym (is_word spans text from c.self.invariant)
    ∙ ap (λ a. is_text_word text a) c.from-addr.ensures
    ∙ ap (λ t. is_text_word t c.args.addr) c.self.view_is

pub returns-in-None : goal.returns-in-None
returns-in-None c =
    let from = c.from-addr.result in
    let spans = c.self.inside.spans.items in
    let text = c.self.inside.text.value in
    let found = sym (ap (find (ends_after from)) c.deref.ensures.value) ∙ sym c.span_behind.ensures ∙ c.in-None.is in
    sym (ap (λ o. option_map_or (has_word from) o false) found)
    ∙ sym (is_word spans text from c.self.invariant)
    ∙ ap (λ a. is_text_word text a) c.from-addr.ensures
    ∙ ap (λ t. is_text_word t c.args.addr) c.self.view_is
