-- What fails first along an order, by the lists that are given, fails first in the accounts.
use Rattle.std.proofs.Common.{◌≡◌, ℕ, List, length, map, Option, subst}
use Rattle.lf_model.specs.Ledger.Account.{account_as_reported}
use Rattle.lf_model.specs.Ledger.Rule.{SameOrder}
use Rattle.lf_model.specs.Places.{FailsFirst}
use Rattle.lf_model.specs.declared.setup.Setup.{Setup}
use Rattle.lf_model.specs.declared.trace.Op.{Op}
use Rattle.lf_model.specs.declared.trace.Trace.{Trace}
use Rattle.ledger_audit.specs.Account.{account_given, completions_of, entry_seen}
use Rattle.ledger_audit.specs.FirstPlaces.{SameOrderAt}
use Rattle.ledger_audit.specs.declared.given.CoreGiven.{CoreGiven}
use Rattle.ledger_audit.specs.declared.given.Given.{Given}
use Rattle.ledger_audit.specs.declared.given.LogEntry.{LogEntry}

module _ (setup : Setup) (trace : Trace) (given : Given) (place : Option ℕ) where
  abbrev Fails : List CoreGiven → List LogEntry → List Op → Type 0
  Fails cores log order = FailsFirst (length order) (SameOrderAt (map entry_seen log) (map completions_of cores) order) place

  pub order_fails : (cores : List CoreGiven) (log : List LogEntry) (order : List Op) → cores ≡ given.cores → log ≡ given.log → order ≡ trace.order
      → Fails cores log order → FailsFirst (length trace.order) (SameOrder (account_given setup trace.order given) (account_as_reported trace)) place
  order_fails cores log order are_cores is_log is_order fails =
      subst (λ os. Fails given.cores given.log os) is_order (subst (λ es. Fails given.cores es order) is_log (subst (λ cs. Fails cs log order) are_cores fails))
