use Rattle.std.proofs.Common.{◌≡◌, ◌/◌, ◌∙◌, false, Bool, ap, subst}
use Rattle.bus_memory.specs.Kept.{IsKept}
use Rattle.bus_memory.specs.MemoryState.{MemoryState}
use Rattle.bus_memory.specs.Names.{names_of}
use Rattle.lf_model.specs.Ledger.FlipFate.{flip_fates}
use Rattle.lf_model.specs.Records.BusMemory.{memory_after}
use Rattle.lf_model.specs.Records.BusRecord.{no_arrays}
use Rattle.bus_memory.proofs.NamedArray.{named_none}
use Rattle.bus_memory.proofs.NamesUnseen.{answers_named}
use Rattle.bus_memory.proofs.memory.BusMemory.finish.Goals as goal

pub name_all-requires-clause-named : goal.name_all-requires-clause-named
name_all-requires-clause-named c =
    let old = c.self.inside in
    let is = c.self.invariant in
    let not_begun : old.begun ≡ false = ap (λ (m : MemoryState). m.begun) c.self.view_is ∙ c.requires in
    let kept : IsKept old.script.value old.transfers.items false old.memory old.plan = subst (λ (b : Bool). IsKept old.script.value old.transfers.items b old.memory old.plan) not_begun is.kept in
    rw c.as_slice.ensures.value (named_none old.script.value old.transfers.items old.memory old.plan (old.ram / 4) is.ram kept)

pub returns-clause-answered : goal.returns-clause-answered
returns-clause-answered c =
    let old = c.self.inside in
    subst (λ (s : MemoryState). (memory_after s.script (names_of c.args.named.now) s.transfers).answers ≡ s.transfers) c.self.view_is
    (answers_named old.script.value (names_of c.args.named.now) old.transfers.items ∙ c.self.invariant.kept.answered)

pub returns-clause-fates : goal.returns-clause-fates
returns-clause-fates c =
    let old = c.self.inside in
    let fates = c.note_fates.ensures (old.ram / 4) (names_of c.args.named.now) (rw c.as_slice-2.ensures.value (rw c.as_slice.ensures.value at c.name_all.ensures)) in
    c.from_vec-2.ensures.items
    ∙ subst (λ (s : MemoryState). c.note_fates.new.fates.items ≡ flip_fates s.script (memory_after s.script (names_of c.args.named.now) s.transfers).words no_arrays) c.self.view_is
    (rw c.as_slice-2.ensures.value at fates)
