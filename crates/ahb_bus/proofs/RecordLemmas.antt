-- The record that the bus leaves is right, as the bus was all along.
use Rattle.std.proofs.Common.{◌≡◌, List}
use Rattle.lf_model.proofs.EachLemmas.{each_at}
use Rattle.lf_model.specs.Ledger.FlipFate.{flip_fates}
use Rattle.lf_model.specs.Records.BusMemory.{memory_after}
use Rattle.lf_model.specs.Records.BusRecord.{BusRecordOk, no_arrays}
use Rattle.lf_model.specs.declared.trace.Fate.{Fate}
use Rattle.lf_model.specs.declared.trace.Word2.{Word2}
use Rattle.ahb_bus.specs.BusOk.{BusOk, IsOfMaster}
use Rattle.ahb_bus.specs.BusState.{BusState}

pub record_ok : (bus : BusState) (fates : List Fate) (named : List Word2) → BusOk bus → (memory_after bus.setup.flips named bus.transfers).answers ≡ bus.transfers
    → fates ≡ flip_fates bus.setup.flips (memory_after bus.setup.flips named bus.transfers).words no_arrays
    → BusRecordOk bus.setup bus.log bus.transfers bus.status fates named
record_ok bus fates named ok answered fates_are = record {
  log_is = ok.log_is;
  text = ok.text;
  answered = answered;
  status_is = ok.status_is;
  masters = λ i within. each_at (IsOfMaster bus.setup.config.cores) bus.transfers i ok.shares.masters;
  core_share = ok.shares.core_share;
  scrub_share = ok.shares.scrub_share;
  entries_share = ok.shares.entries_share;
  turns = ok.turns;
  regular = ok.regular;
  lengths = ok.lengths;
  in_memory = ok.in_memory;
  fates_are = fates_are;
}
