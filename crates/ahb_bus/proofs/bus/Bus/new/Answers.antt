use Rattle.std.proofs.Common.{ℕ, [], false, ap, ◌∙◌}
use Rattle.ram_words.specs.Ram.{first_words}
use Rattle.ahb_bus.proofs.InsideLemmas.{is_bus}
use Rattle.ahb_bus.proofs.bus.Bus.new.Goals as goal

pub invariant_of-result : goal.invariant_of-result
invariant_of-result c =
    let setup = c.args.s.now in
    is_bus setup _ c.requires.ram c.requires.cores c.has_bytes.ensures
    (c.in_ok-memory.ensures ∙ ap (λ (room : ℕ). record { script = setup.flips; transfers = []; begun = false; values = first_words setup.config.ram setup.image; room = room }) c.most_transfers_of.ensures)
    (c.in_ok-log.ensures.empty ∙ ap (λ (room : ℕ). record { entries = []; room = room }) c.most_entries_of.ensures)
    c.new-3.ensures c.of.ensures

pub returns-clause-ok : goal.returns-clause-ok
returns-clause-ok c = (invariant_of-result c).ok
