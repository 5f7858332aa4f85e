-- The record that the bus leaves of its run is right: its log, its transfers, AHBSTAT and the fates of memory flips.
use Rattle.std.specs.Prelude.{ℕ, ◌≡◌, ◌≤◌, ◌<◌, ◌+◌, ◌==◌, ◌&&◌, ◌||◌, not, Bool, true, List, length, map, filter, count_by, Option, None, if◌then◌else◌}
use Rattle.std.specs.List.{list_all, list_any, range_with_len}
use Rattle.lf_model.specs.Bus.Status.{AhbStatus, status_after}
use Rattle.lf_model.specs.Bus.Walk.{scrubber}
use Rattle.lf_model.specs.Course.Arrays.{Arrays}
use Rattle.lf_model.specs.Course.Syndromes.{syndromes_of, is_bad_syndrome}
use Rattle.lf_model.specs.Ledger.FlipFate.{flip_fates}
use Rattle.lf_model.specs.Ledger.Steps.{own_transfers}
use Rattle.lf_model.specs.Names.{same_kind}
use Rattle.lf_model.specs.Once.{OnceAtTransfer}
use Rattle.lf_model.specs.Places.{FailsNowhere}
use Rattle.lf_model.specs.Promise.Regular.{is_length, turn_of}
use Rattle.lf_model.specs.Promise.RegularTransfer.{is_regular_on_bus}
use Rattle.lf_model.specs.Records.BusMemory.{memory_after}
use Rattle.lf_model.specs.Records.SeenOrder.{is_entry_of}
use Rattle.lf_model.specs.Start.{is_in_ram, touches_text}
use Rattle.lf_model.specs.TransferLines.{makes_entry}
use Rattle.lf_model.specs.declared.bus.Entry.{Entry}
use Rattle.lf_model.specs.declared.bus.OpKind.{OpKind}
use Rattle.lf_model.specs.declared.bus.OpKind.TheVariants as ops
use Rattle.lf_model.specs.declared.bus.Transfer.{Transfer}
use Rattle.lf_model.specs.declared.bus.TurnKind.{TurnKind}
use Rattle.lf_model.specs.declared.bus.TurnKind.TheVariants.{Fetch, Load, Store, Atomic, Snoop, Look, Fix}
use Rattle.lf_model.specs.declared.image.Range.{Range}
use Rattle.lf_model.specs.declared.setup.Setup.{Setup}
use Rattle.lf_model.specs.declared.trace.Fate.{Fate}
use Rattle.lf_model.specs.declared.trace.Word2.{Word2}

-- ---- the log

-- a transfer that puts an entry into the log: a store or an atomic of which no word read was bad
abbrev pub is_successful : Transfer → Bool
is_successful t = makes_entry t.kind && not (list_any is_bad_syndrome (syndromes_of t))

-- what an entry and its transfer both say: core, kind, address and length
pub record Placed : Type 0 where
  pub core : ℕ
  pub kind : OpKind
  pub addr : ℕ
  pub len : ℕ

abbrev pub entry_placed : Entry → Placed
entry_placed e = record { core = e.core; kind = e.kind; addr = e.addr; len = e.len }

-- the kind of the entry of a transfer that has one, a store or an atomic; the others have none, and are given Load
abbrev pub kind_entered : TurnKind → OpKind
kind_entered Fetch = ops.Load
kind_entered Load = ops.Load
kind_entered Store = ops.Store
kind_entered Atomic = ops.Atomic
kind_entered Snoop = ops.Load
kind_entered Look = ops.Load
kind_entered Fix = ops.Load

abbrev pub transfer_placed : Transfer → Placed
transfer_placed t = record { core = t.master; kind = kind_entered t.kind; addr = t.addr; len = t.len }

abbrev pub leaves_text : List Range → Entry → Bool
leaves_text text e = not (touches_text text e.addr e.len)

-- ---- the transfers

-- the length of a transfer: of a store, of an atomic, and none of the others
abbrev pub length_fits : Transfer → TurnKind → Bool
length_fits t Fetch = t.len == 0
length_fits t Load = t.len == 0
length_fits t Store = if is_successful t then is_length t.len else t.len == 1 || t.len == 2
length_fits t Atomic = t.len == 1 || t.len == 4
length_fits t Snoop = t.len == 0
length_fits t Look = t.len == 0
length_fits t Fix = t.len == 0

abbrev pub has_length : Transfer → Bool
has_length t = length_fits t t.kind

-- a snoop is at no address; each other transfer is at one in RAM
abbrev pub is_in_memory : ℕ → Transfer → Bool
is_in_memory ram t = same_kind t.kind Snoop || is_in_ram ram t.addr 1

-- no core's arrays are looked at
abbrev pub no_arrays : ℕ → Option Arrays
no_arrays core = None

-- log_is: its entries are those of the successful stores and atomics, in order; text: none touches text; answered: each transfer
-- has what memory showed at its turn; then AHBSTAT, masters and their shares, the fields of the transfers, and the fates of memory
-- flips, those of cores being late, where these words are the ones that stops name
pub record BusRecordOk (setup : Setup) (log : List Entry) (transfers : List Transfer) (status : AhbStatus) (fates : List Fate) (named : List Word2) : Type 0 where
  pub log_is : map entry_placed log ≡ map transfer_placed (filter is_successful transfers)
  pub text : list_all (leaves_text setup.image.text) log ≡ true
  pub answered : (memory_after setup.flips named transfers).answers ≡ transfers
  pub status_is : status ≡ status_after transfers
  pub masters : FailsNowhere (length transfers) (OnceAtTransfer setup.config.cores transfers)
  pub core_share : (c : ℕ) → c < setup.config.cores → length (own_transfers c transfers) ≤ setup.config.steps + 8
  pub scrub_share : length (own_transfers scrubber transfers) ≤ setup.config.scrub_turns
  pub entries_share : (c : ℕ) → c < setup.config.cores → count_by (is_entry_of c) log ≤ setup.config.steps
  pub turns : map turn_of transfers ≡ range_with_len 0 (length transfers)
  pub regular : list_all is_regular_on_bus transfers ≡ true
  pub lengths : list_all has_length transfers ≡ true
  pub in_memory : list_all (is_in_memory setup.config.ram) transfers ≡ true
  pub fates_are : fates ≡ flip_fates setup.flips (memory_after setup.flips named transfers).words no_arrays
