-- What a turn of one master leaves on the bus.
use Rattle.std.specs.Prelude.{ℕ, ◌≡◌, false, List, [], ◌∷◌, ◌++◌}
use Rattle.std.specs.List.{AllByRecursion}
use Rattle.ahb_bus.specs.BusOk.{BusOk}
use Rattle.ahb_bus.specs.BusState.{BusState}
use Rattle.lf_model.specs.declared.bus.Entry.{Entry}
use Rattle.lf_model.specs.declared.bus.Transfer.{Transfer}

-- one transfer more, of this master, and entries of its own; no turn is begun then
pub record IsTurnOf (master : ℕ) (t : Transfer) (entries : List Entry) (old new : BusState) : Type 0 where
  pub setup_is : new.setup ≡ old.setup
  pub log_is : new.log ≡ old.log ++ entries
  pub transfers_is : new.transfers ≡ old.transfers ++ t ∷ []
  pub master_is : t.master ≡ master
  pub own : AllByRecursion (λ (e : Entry). e.core ≡ master) entries
  pub idle : new.begun ≡ false
  pub ok : BusOk new
