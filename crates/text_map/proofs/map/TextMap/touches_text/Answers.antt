use Rattle.std.proofs.Common.{false, sym, ap, ◌∙◌}
use Rattle.std.specs.Prelude.{find}
use Rattle.std.specs.Option.{option_map_or}
use Rattle.lf_model.specs.Start.{touches_text}
use Rattle.text_map.specs.Spans.{ends_after, has_one}
use Rattle.text_map.proofs.SpanLemmas.{is_touched}
use Rattle.text_map.proofs.map.TextMap.touches_text.Goals as goal

pub returns-in-Some : goal.returns-in-Some
returns-in-Some c =
    let from = c.from-addr.result in
    let spans = c.self.inside.spans.items in
    let text = c.self.inside.text.value in
    let found = sym (ap (find (ends_after from)) c.deref.ensures.value) ∙ sym c.span_behind.ensures ∙ c.in-Some.is in
    c.has_one.ensures
    ∙ sym (ap (λ o. option_map_or (has_one from c.args.len) o false) found)
    ∙ sym (is_touched spans text from c.args.len c.self.invariant)
    ∙ ap (λ a. touches_text text a c.args.len) c.from-addr.ensures
    ∙ ap (λ t. touches_text t c.args.addr c.args.len) c.self.view_is

pub returns-in-None : goal.returns-in-None
returns-in-None c =
    let from = c.from-addr.result in
    let spans = c.self.inside.spans.items in
    let text = c.self.inside.text.value in
    let found = sym (ap (find (ends_after from)) c.deref.ensures.value) ∙ sym c.span_behind.ensures ∙ c.in-None.is in
    sym (ap (λ o. option_map_or (has_one from c.args.len) o false) found)
    ∙ sym (is_touched spans text from c.args.len c.self.invariant)
    ∙ ap (λ a. touches_text text a c.args.len) c.from-addr.ensures
    ∙ ap (λ t. touches_text t c.args.addr c.args.len) c.self.view_is
