-- What holds of the bus at all times: of its log, of memory, of AHBSTAT and of the transfers.
use Rattle.std.specs.Prelude.{◌≡◌, ℕ, ◌+◌, ◌*◌, ◌^◌, ◌<◌, ◌≤◌, true, List, [], length, map, filter, count_by, slice_index}
use Rattle.std.specs.List.{AllByRecursion, list_all, range_with_len}
use Rattle.lf_model.specs.Bus.Status.{status_after}
use Rattle.lf_model.specs.Bus.Walk.{scrubber}
use Rattle.lf_model.specs.Ledger.Steps.{own_transfers}
use Rattle.lf_model.specs.Once.{HasMaster}
use Rattle.lf_model.specs.Promise.Regular.{turn_of}
use Rattle.lf_model.specs.Promise.RegularTransfer.{is_regular_on_bus}
use Rattle.lf_model.specs.Records.AllRecords.{number_left}
use Rattle.lf_model.specs.Records.BusMemory.{memory_after}
use Rattle.lf_model.specs.Records.BusRecord.{is_successful, entry_placed, transfer_placed, leaves_text, has_length, is_in_memory}
use Rattle.lf_model.specs.Records.SeenOrder.{is_entry_of}
use Rattle.lf_model.specs.Start.{ram_first, initial_byte}
use Rattle.lf_model.specs.declared.bus.Entry.{Entry}
use Rattle.lf_model.specs.declared.bus.Transfer.{Transfer}
use Rattle.lf_model.specs.declared.config.Config.{Config}
use Rattle.lf_model.specs.declared.image.Image.{Image}
use Rattle.ahb_bus.specs.BusState.{BusState}

abbrev pub IsOfMaster : ℕ → Transfer → Type 0
IsOfMaster cores t = HasMaster cores t.master t.kind

-- each master keeps to its share of transfers, and each core to its share of entries
pub record AreShared (config : Config) (transfers : List Transfer) (log : List Entry) : Type 0 where
  pub masters : AllByRecursion (IsOfMaster config.cores) transfers
  pub core_share : (c : ℕ) → c < config.cores → length (own_transfers c transfers) ≤ config.steps + 8
  pub scrub_share : length (own_transfers scrubber transfers) ≤ config.scrub_turns
  pub cores_of_entries : AllByRecursion (λ e. e.core < config.cores) log
  pub entries_share : (c : ℕ) → c < config.cores → count_by (is_entry_of c) log ≤ config.steps

-- the words of memory, from the first address of RAM on, are those that the log leaves
abbrev pub AreLeft : Image → List Entry → List ℕ → Type 0
AreLeft image log values = (place : ℕ) → place < length values → slice_index values place ≡ number_left image log (ram_first + 4 * place)

-- the bytes of an image at the start
abbrev pub HasBytes : Image → Type 0
HasBytes image = (a : ℕ) → initial_byte image a < 2 ^ 8

pub record BusOk (bus : BusState) : Type 0 where
  pub cores : bus.setup.config.cores ≤ 8
  -- the log has the entries of the successful stores and atomics, in their order, and none touches text
  pub log_is : map entry_placed bus.log ≡ map transfer_placed (filter is_successful bus.transfers)
  pub text : list_all (leaves_text bus.setup.image.text) bus.log ≡ true
  -- memory has the numbers that the log leaves
  pub bytes : HasBytes bus.setup.image
  pub size : 4 * length bus.values ≡ bus.setup.config.ram
  pub memory_is : AreLeft bus.setup.image bus.log bus.values
  -- each transfer has the words and syndromes that memory shows at its turn
  pub answered : (memory_after bus.setup.flips [] bus.transfers).answers ≡ bus.transfers
  pub status_is : bus.status ≡ status_after bus.transfers
  -- the fields of the transfers
  pub turns : map turn_of bus.transfers ≡ range_with_len 0 (length bus.transfers)
  pub regular : list_all is_regular_on_bus bus.transfers ≡ true
  pub lengths : list_all has_length bus.transfers ≡ true
  pub in_memory : list_all (is_in_memory bus.setup.config.ram) bus.transfers ≡ true
  pub shares : AreShared bus.setup.config bus.transfers bus.log
