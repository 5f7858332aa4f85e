use Rattle.std.proofs.Common.{◌≡◌, ◌∙◌, ◌&&◌, true, nat_eq, List, sym, ap}
use Rattle.std.specs.List.{list_any}
use Rattle.std.proofs.lemmas.List.{take_all}
use Rattle.lf_model.specs.Records.BusMemory.{is_turn, names_word}
use Rattle.lf_model.specs.declared.trace.Word2.{Word2}
use Rattle.bus_memory.proofs.NameLemmas.{any_of_all, any_here}
use Rattle.bus_memory.proofs.names.some_has_name.Goals as goal

pub returns-then-has_name : goal.returns-then-has_name
returns-then-has_name c =
    let here : names_word c.names-item.result c.args.turn c.args.addr ≡ true =
    ap (λ (names : List Word2). names_word names c.args.turn c.args.addr) (sym c.as_slice.ensures.items) ∙ sym c.has_name.ensures ∙ c.if-has_name.true in
    let some : list_any (λ (names : List Word2). names_word names c.args.turn c.args.addr) c.args.cores.now ≡ true =
    any_here (λ (names : List Word2). names_word names c.args.turn c.args.addr) c.args.cores.now c.loop-names.names-index c.names-item.result c.loop-names-test.true
    (ap (λ (names : List Word2). names_word names c.args.turn c.args.addr) (sym c.names-item.is) ∙ here) in
    sym some ∙ any_of_all (λ (w : Word2). nat_eq w.addr c.args.addr && is_turn c.args.turn w.value) c.args.cores.now

pub returns : goal.returns
returns c =
    sym c.loop-names.invariant
    ∙ ap (list_any (λ (names : List Word2). names_word names c.args.turn c.args.addr)) (take_all c.loop-names.names-index c.args.cores.now c.loop-names-test.false)
    ∙ any_of_all (λ (w : Word2). nat_eq w.addr c.args.addr && is_turn c.args.turn w.value) c.args.cores.now
