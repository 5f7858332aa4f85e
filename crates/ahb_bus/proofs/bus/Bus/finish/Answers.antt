use Rattle.std.proofs.Common.{◌≡◌, ℕ, List, sym, ap, ap₂, subst}
use Rattle.bus_memory.specs.Names.{names_of}
use Rattle.lf_model.specs.Bus.Status.{AhbStatus}
use Rattle.lf_model.specs.Ledger.FlipFate.{flip_fates}
use Rattle.lf_model.specs.Records.BusMemory.{memory_after}
use Rattle.lf_model.specs.Records.BusRecord.{BusRecordOk, no_arrays}
use Rattle.lf_model.specs.declared.bus.Transfer.{Transfer}
use Rattle.lf_model.specs.declared.flip.Flip.{Flip}
use Rattle.lf_model.specs.declared.setup.Setup.{Setup}
use Rattle.ahb_bus.specs.BusState.{BusState}
use Rattle.ahb_bus.specs.Inside.{seen}
use Rattle.ahb_bus.proofs.RecordLemmas.{record_ok}
use Rattle.ahb_bus.proofs.bus.Bus.finish.Goals as goal

pub returns-clause-ok : goal.returns-clause-ok
returns-clause-ok c =
    let old = c.self.inside in
    let is = c.self.invariant in
    let named = names_of c.args.named.now in
    let fates = c.finish-transfers.result.fates in
    let transfers = c.finish-transfers.result.transfers in
    let answered = subst (λ (script : List Flip). (memory_after script named old.memory.transfers).answers ≡ old.memory.transfers) is.script c.finish-transfers.ensures.answered in
    let fates_are = subst (λ (script : List Flip). fates ≡ flip_fates script (memory_after script named old.memory.transfers).words no_arrays) is.script c.finish-transfers.ensures.fates in
    let status = ap₂ (λ (addr status : ℕ). record { addr = addr; status = status }) c.read-ahb_addr.ensures.address c.read-ahb_addr.ensures.status in
    subst (λ (s : Setup). BusRecordOk s old.log.entries transfers (record { addr = c.read-ahb_addr.result.0; status = c.read-ahb_addr.result.1 }) fates named) (ap (λ (b : BusState). b.setup) c.self.view_is)
    (subst (λ (ts : List Transfer). BusRecordOk old.setup.value old.log.entries ts (record { addr = c.read-ahb_addr.result.0; status = c.read-ahb_addr.result.1 }) fates named) (sym c.finish-transfers.ensures.transfers)
    (subst (λ (s : AhbStatus). BusRecordOk old.setup.value old.log.entries old.memory.transfers s fates named) (sym status)
    (record_ok (seen old) fates named is.ok answered fates_are)))
