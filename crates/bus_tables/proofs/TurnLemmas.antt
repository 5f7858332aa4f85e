-- Turns of the bus: no master made more transfers than there are, so a core has one left while they are few.
use Rattle.std.proofs.Common.{◌≡◌, ℕ, ◌+◌, ◌<◌, true, nat_eq, List, length, sym, subst, arith}
use Rattle.std.proofs.lemmas.List.Sums.{length-filter, count_by-le-length}
use Rattle.ahb_bus.specs.Asks.{IsCoreTurn}
use Rattle.ahb_bus.specs.BusState.{BusState}
use Rattle.ahb_bus.specs.declared.record.Who.{Who}
use Rattle.lf_model.specs.Ledger.Steps.{own_transfers}
use Rattle.lf_model.specs.declared.bus.Transfer.{Transfer}

pub own_within : (master most : ℕ) (transfers : List Transfer) → length transfers < most → length (own_transfers master transfers) < most
own_within master most transfers few =
    let count = length-filter (λ (t : Transfer). nat_eq t.master master) transfers in
    let within = count_by-le-length (λ (t : Transfer). nat_eq t.master master) transfers in
    omega (arith, count, within, few)

-- a core has a transfer left where fewer were made in all than its share
pub core_turn : (who : Who) (bus before : BusState) → bus ≡ record before { begun = true } → who.master < before.setup.config.cores
    → length before.transfers < before.setup.config.steps + 8 → IsCoreTurn who bus
core_turn who bus before is master few =
    subst (IsCoreTurn who) (sym is) (record { master = master; share = own_within who.master (before.setup.config.steps + 8) before.transfers few })
