-- What a turn asks of its master.
use Rattle.std.specs.Prelude.{◌≡◌, ◌+◌, ◌^◌, ◌<◌, Bool, true, false, List, length, count_by}
use Rattle.std.specs.List.{list_any}
use Rattle.lf_model.specs.Bus.Walk.{scrubber}
use Rattle.lf_model.specs.Ledger.Steps.{own_transfers}
use Rattle.lf_model.specs.Names.{same_why}
use Rattle.lf_model.specs.Once.{HasMaster}
use Rattle.lf_model.specs.Promise.RegularTransfer.{has_cause, address_fits, way_fits, causes_of}
use Rattle.lf_model.specs.Records.BusRecord.{is_in_memory}
use Rattle.lf_model.specs.Records.SeenOrder.{is_entry_of}
use Rattle.lf_model.specs.declared.bus.Transfer.{Transfer}
use Rattle.lf_model.specs.declared.bus.TurnKind.{TurnKind}
use Rattle.lf_model.specs.declared.bus.TurnKind.TheVariants.{Fetch, Load, Store, Atomic, Snoop, Look, Fix}
use Rattle.lf_model.specs.declared.bus.Why.{Why}
use Rattle.lf_model.specs.declared.config.Config.{Config}
use Rattle.ahb_bus.specs.BusState.{BusState}
use Rattle.ahb_bus.specs.declared.record.Who.{Who}

-- a core with a transfer left of its share
pub record IsCoreTurn (who : Who) (bus : BusState) : Type 0 where
  pub master : who.master < bus.setup.config.cores
  pub share : length (own_transfers who.master bus.transfers) < bus.setup.config.steps + 8

-- the scrubber, with a turn left
pub record IsScrubTurn (who : Who) (bus : BusState) : Type 0 where
  pub master : who.master ≡ scrubber
  pub share : length (own_transfers scrubber bus.transfers) < bus.setup.config.scrub_turns

-- a core with a store or an atomic left of its share
abbrev pub HasEntryLeft : Who → BusState → Type 0
HasEntryLeft who bus = count_by (is_entry_of who.master) bus.log < bus.setup.config.steps

-- a cause of a transfer of this kind
abbrev pub IsCauseOf : TurnKind → Why → Type 0
IsCauseOf kind why = list_any (same_why why) (causes_of kind) ≡ true

-- the fills of caches
abbrev pub is_fill : TurnKind → Bool
is_fill Fetch = true
is_fill Load = true
is_fill Store = false
is_fill Atomic = false
is_fill Snoop = false
is_fill Look = false
is_fill Fix = false

-- ---- the same of a transfer, before memory answers it

-- the master of a transfer has one left
pub record HasLeft (config : Config) (transfers : List Transfer) (asked : Transfer) : Type 0 where
  pub master : HasMaster config.cores asked.master asked.kind
  pub core_share : asked.master < config.cores → length (own_transfers asked.master transfers) < config.steps + 8
  pub scrub_share : asked.master ≡ scrubber → length (own_transfers scrubber transfers) < config.scrub_turns

-- the numbers of a transfer are those of its fields
pub record HasFields (t : Transfer) : Type 0 where
  pub turn : t.turn < 2 ^ 32
  pub master : t.master < 2 ^ 32
  pub step : t.step < 2 ^ 32
  pub addr : t.addr < 2 ^ 32
  pub way : t.way < 2 ^ 8

-- a transfer that the bus takes at this turn
pub record IsTaken (bus : BusState) (asked : Transfer) : Type 0 where
  pub left : HasLeft bus.setup.config bus.transfers asked
  pub turn : asked.turn ≡ length bus.transfers
  pub fields : HasFields asked
  pub cause : has_cause asked ≡ true
  pub address : address_fits asked.addr asked.kind ≡ true
  pub way : way_fits asked.way asked.kind ≡ true
  pub place : is_in_memory bus.setup.config.ram asked ≡ true
