-- The trace that is gathered from the records of cores and bus, and from which records it can be.
use Rattle.std.specs.Prelude.{◌≤◌, ◌*◌, List, length, map}
use Rattle.lf_model.specs.Ledger.Account.{without_length}
use Rattle.lf_model.specs.Records.AllRecords.{AreRecordsOk}
use Rattle.lf_model.specs.declared.record.CoreRecord.{CoreRecord}
use Rattle.lf_model.specs.declared.setup.Setup.{Setup}
use Rattle.lf_model.specs.declared.trace.CoreResult.{CoreResult}
use Rattle.lf_model.specs.declared.trace.Trace.{Trace}
use Rattle.lf_model.specs.declared.trace.Word2.{Word2}
use Rattle.run_trace.specs.Fates.{fates_recorded}
use Rattle.run_trace.specs.Order.{order_of}
use Rattle.ahb_bus.specs.declared.record.BusRecord.{BusRecord}

abbrev pub result_kept : CoreRecord → CoreResult
result_kept kept = kept.result

abbrev pub gathered : Setup → List CoreRecord → BusRecord → List Word2 → Trace
gathered setup records bus watch = record {
  cores = map result_kept records;
  ahb_addr = bus.ahb_addr;
  ahb_status = bus.ahb_status;
  transfers = map without_length bus.transfers;
  order = order_of records bus.log.entries;
  fates = fates_recorded records bus.fates 0 setup.flips;
  watch = watch;
}

-- the limits of a setup
pub record IsWithinLimits (setup : Setup) : Type 0 where
  pub some_core : 1 ≤ setup.config.cores
  pub few_cores : setup.config.cores ≤ 8
  pub few_steps : setup.config.cores * setup.config.steps ≤ 4000000
  pub few_scrub_turns : setup.config.scrub_turns ≤ 1000000
  pub few_flips : length setup.flips ≤ 65536
  pub few_words : length setup.config.watch ≤ 64

-- records of a run of this setup, all of them right together
pub record IsGatherable (setup : Setup) (records : List CoreRecord) (bus : BusRecord) (watch : List Word2) : Type 0 where
  pub limits : IsWithinLimits setup
  pub right : AreRecordsOk setup records bus.log.entries bus.transfers (record { addr = bus.ahb_addr; status = bus.ahb_status }) bus.fates watch
